use Rattle.std.proofs.Common.{ℕ, ℤ, pos}
use Rattle.vs_circ.specs.node_prices.PriceTables.{IsEntry}
use Rattle.vs_types.proofs.CallerLemmas.{AreSoFar}
use Rattle.vs_circ.proofs.price_tables.entries.Given as goal

abbrev pub invariant-loop-i : goal.invariant-loop-i
invariant-loop-i l =
    AreSoFar (pos 0) (λ (i : ℕ) (z : ℤ). IsEntry l.net l.side l.prices l.leeways i z) l.entries.items l.i
