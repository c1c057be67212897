-- What crates above may cite of these proofs.
pub use Rattle.vs_crew.proofs.leaves.Finding.{plan_of}
pub use Rattle.vs_crew.proofs.leaves.Finished.{IsReadyLeaf, after_offer, finished_idle, finished_opening}
pub use Rattle.vs_crew.proofs.leaves.Finished.{finished_steps, finished_worked, may_come, state_last}
pub use Rattle.vs_crew.proofs.leaves.Offering.{IsAfterOffer, IsOffered}
pub use Rattle.vs_crew.proofs.leaves.Taking.{fits_sized, told_node}
pub use Rattle.vs_crew.proofs.leaves.WorkedSteps.{worked-append}
pub use Rattle.vs_crew.proofs.others.Ending.{holders_are_workers}
