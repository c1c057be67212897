pub mod Blocks
pub mod PlanFaults
pub mod CheckedPlan
pub mod Greedy
pub mod Laws
