use Rattle.std.proofs.Common.{ℕ, ◌<◌, ◌≤◌, ◌↔◌, get_or, false}
use Rattle.vs_circ.specs.declared.leeways.TheConstants.{MAX_LEEWAY}
use Rattle.vs_circ.specs.node_prices.Leeways.{ArcAllows}
use Rattle.vs_circ.proofs.leeways.leeway_of.Given as goal

abbrev pub invariant-loop-k : goal.invariant-loop-k
invariant-loop-k l = (y : ℕ) → y ≤ l.leeway
    ↔ ((y ≤ MAX_LEEWAY)
    × ((j : ℕ) → j < l.k-index → ArcAllows l.net false l.side l.prices l.leeways (get_or l.arcs j 0) y))
