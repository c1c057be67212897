-- What an instance says, as plain numbers, lists and one finite map.
use Rattle.std.specs.Prelude.{ℕ, List}
use Rattle.std.specs.declared.cmp.Ordering.{Ordering}
use Rattle.std.specs.Ordering.{nat_cmp, ordering_then}
use Rattle.std.specs.FinMap.{FinMap}
use Rattle.vs_instance.specs.declared.layer.Layer.{Layer}
use Rattle.vs_instance.specs.declared.trip.Trip.{Trip}
use Rattle.vs_instance.specs.declared.way.Way.{Way}

-- the order of pairs of stops: by the stop that is left, then by the stop that is reached
abbrev pub pair_cmp : ℕ × ℕ → ℕ × ℕ → Ordering
pair_cmp a b = ordering_then (nat_cmp a.0 b.0) (nat_cmp a.1 b.1)

-- how many stops there are, the deadheads as a map from pairs of distinct stops, the layers and the trips, each in
-- number order
pub record Problem : Type 0 where
  pub stops : ℕ
  pub deadheads : FinMap pair_cmp Way
  pub layers : List Layer
  pub trips : List Trip
