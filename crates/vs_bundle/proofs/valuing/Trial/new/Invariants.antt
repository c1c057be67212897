use Rattle.std.proofs.Common.{◌≡◌, All, length, vec_len}
use Rattle.vs_cuts.specs.Cuts.{trips_of_found}
use Rattle.vs_bundle.proofs.valuing.Trial.new.Given as goal

abbrev pub invariant-loop : goal.invariant-loop
invariant-loop l = record {
  each : vec_len l.found ≡ l.counter;
  trips : All (λ one. trips_of_found one ≡ l.trips) l.found.items;
  each_layer : vec_len l.offers ≡ l.counter;
  offers : All (λ offers. length offers.items ≡ l.trips) l.offers.items;
}
