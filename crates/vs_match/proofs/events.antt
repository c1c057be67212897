pub mod Adding
pub mod PointLists
pub mod StopNodeLists
pub mod Places
pub mod AtStop
pub mod ByStop
pub mod LeastTrips
pub mod FewPoints
