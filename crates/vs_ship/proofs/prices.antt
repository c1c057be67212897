pub mod Overwritten
pub mod Found
pub mod Between
pub mod ClosedGaps
pub mod NearPrices
pub mod Mirrored
pub mod SignRules
pub mod Centred
