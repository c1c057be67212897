-- What crates above cite of these proofs.
pub use Rattle.vs_multi.proofs.Better.{IsBetterOf, IsLawful, better_of}
pub use Rattle.vs_multi.proofs.BoundOrder.{worth_along}
pub use Rattle.vs_multi.proofs.LagrangianWorth.{total-by_place}
pub use Rattle.vs_multi.proofs.Nets.{lawful_read, lawful_there}
pub use Rattle.vs_multi.proofs.Places.{none_within, of_table_within, within-set}
