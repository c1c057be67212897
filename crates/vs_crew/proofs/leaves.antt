-- What a worker does with the leaves of a search.
pub mod Finding
pub mod RootSets
pub mod WorkedSteps
pub mod LetGo
pub mod Offering
pub mod Finishing
pub mod Finished
pub mod LeafTables
pub mod Taking
pub mod SharedSteps
pub mod HandedIn
pub mod ShownLeaves
