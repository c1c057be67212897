-- What the crates above cite of the proofs here: the arcs of a node, with one arc more.
pub use Rattle.vs_layer.proofs.ArcsAt.{first_at-other, first_at-own, length-other, length-own}
