pub mod Climbs
pub mod Runs
