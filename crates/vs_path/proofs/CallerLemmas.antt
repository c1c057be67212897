-- What crates above cite of the proofs.
pub use Rattle.vs_path.proofs.labelling.ArcsOfNode.{of_node, in_node}
pub use Rattle.vs_path.proofs.labelling.Exploring.{get_or-none}
pub use Rattle.vs_path.proofs.labelling.Lowering.{cost-within}
pub use Rattle.vs_path.proofs.labelling.StepCosts.{step-few, step-within, steps-few}
