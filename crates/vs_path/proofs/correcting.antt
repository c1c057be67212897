pub mod Chains
pub mod Shortening
pub mod Corrected
pub mod SignRule
