pub mod Trees
pub mod HoldingDocument
pub mod Flaws
pub mod Walk
pub mod Laws
