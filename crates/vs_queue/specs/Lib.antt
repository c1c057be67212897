pub mod Keys
pub mod NodeLists
pub mod Queues
