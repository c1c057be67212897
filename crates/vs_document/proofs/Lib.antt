pub mod rows
pub mod parts
pub mod alike
pub mod back
pub mod CallerLemmas
