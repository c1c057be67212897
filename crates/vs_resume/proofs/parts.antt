-- A search of a part, and the turn that it makes.
pub mod PartTables
pub mod PartLeaves
pub mod BetterTables
pub mod PartPut
pub mod PartTurn
