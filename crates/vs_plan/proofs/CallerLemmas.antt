-- What crates above cite of these proofs.
pub use Rattle.vs_plan.proofs.Faultless.{faultless, plan_from_faultless, refuses}
pub use Rattle.vs_plan.proofs.PlanTrips.{plan_trips}
pub use Rattle.vs_plan.proofs.TakenBlocks.{few_blocks}
