pub mod owing
pub mod once
pub mod written
pub mod one_row
pub mod CallerLemmas
