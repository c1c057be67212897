pub mod Cost
pub mod Laws
