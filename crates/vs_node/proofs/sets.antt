-- Sets of layers, and which layer of one is the cheapest.
pub mod SetMembers
pub mod OneLayer
pub mod Leads
pub mod Cheapest
