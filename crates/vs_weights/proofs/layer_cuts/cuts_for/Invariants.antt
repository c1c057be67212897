use Rattle.std.proofs.Common.{◌≡◌, All, vec_len}
use Rattle.vs_cuts.specs.Cuts.{trips_of}
use Rattle.vs_weights.proofs.layer_cuts.cuts_for.Given as goal

abbrev pub invariant-loop : goal.invariant-loop
invariant-loop l = record {
  places : vec_len l.cuts ≡ l.counter;
  trips : All (λ cut. trips_of cut ≡ l.trips) l.cuts.items;
}
