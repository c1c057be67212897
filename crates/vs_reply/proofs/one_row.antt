-- What is told is one thing.
pub mod OneOrder
pub mod OneNet
pub mod OneRefusal
