pub mod Moving
pub mod Tracing
pub mod NotNegative
pub mod Finding
pub mod LeastCosts
