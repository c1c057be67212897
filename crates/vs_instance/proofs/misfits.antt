pub mod Firsts
pub mod FirstHolds
pub mod Empty
pub mod WithinLimits
pub mod Detours
pub mod Given
pub mod Closed
pub mod Judged
