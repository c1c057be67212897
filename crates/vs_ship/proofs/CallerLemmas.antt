-- What crates above cite of the proofs.
pub use Rattle.vs_ship.proofs.balance.Conserved.{conserved, last-most}
pub use Rattle.vs_ship.proofs.balance.Cuts.{cut-arc_gain, cut-gain, cut-weighed}
pub use Rattle.vs_ship.proofs.balance.Gained.{arc_gain, gained-set}
pub use Rattle.vs_ship.proofs.balance.InOrder.{total-range_suc}
pub use Rattle.vs_ship.proofs.balance.Leaving.{passed-total, passed-weighed, passed-within}
pub use Rattle.vs_ship.proofs.balance.Numbers.{total-none}
pub use Rattle.vs_ship.proofs.balance.Sums.{excess-weighed, gained-both, gained-none, gained-≤, has_excess}
pub use Rattle.vs_ship.proofs.balance.Weighed.{weighed-none}
pub use Rattle.vs_ship.proofs.balance.Weights.{is_in, is_in-from, is_in-to, one_where, passed}
pub use Rattle.vs_ship.proofs.prices.SignRules.{sign-near}
pub use Rattle.vs_ship.proofs.shipping.Suiting.{suit-signs}
