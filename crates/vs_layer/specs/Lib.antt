pub mod Ends
pub mod Graph
pub mod Faults
pub mod Stars
pub mod Walks
pub mod Circulation
