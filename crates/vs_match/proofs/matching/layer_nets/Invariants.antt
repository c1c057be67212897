use Rattle.std.proofs.Common.{◌≡◌, ℕ, ◌<◌, length}
use Rattle.vs_match.specs.LawfulNets.{IsLawful}
use Rattle.vs_match.specs.LayerNets.{HasRisingArcs, net_at}
use Rattle.vs_match.proofs.matching.layer_nets.Given as goal

abbrev pub invariant-loop-l : goal.invariant-loop-l
invariant-loop-l l = record {
  each : length l.nets.items ≡ l.l;
  lawful : (k : ℕ) → k < l.l → IsLawful l.instance k (net_at l.nets.items k);
  rising : (k : ℕ) → k < l.l → HasRisingArcs (net_at l.nets.items k);
}
