-- What crates above may cite of these proofs.
pub use Rattle.vs_resume.proofs.documents.EnoughNodes.{enough_nodes_leave_nothing_open}
pub use Rattle.vs_resume.proofs.PartPlans.{plans_of_part}
pub use Rattle.vs_resume.proofs.WidenedTables.{widened_holds}
pub use Rattle.vs_resume.proofs.WidenedWorths.{widened_worth}
pub use Rattle.vs_resume.proofs.trees.InPlace.{count-leaves}
