use Rattle.std.proofs.Common.{◌≡◌, All, vec_len}
use Rattle.vs_weights.proofs.bundle.Bundle.new.Given as goal

abbrev pub invariant-loop : goal.invariant-loop
invariant-loop l = record {
  each : All (λ layer. layer.trips ≡ l.trips) l.cuts.items;
  layers : vec_len l.cuts ≡ l.counter;
}
