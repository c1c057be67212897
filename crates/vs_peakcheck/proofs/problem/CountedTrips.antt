-- The trips of the counting problem and the moves between them are those of the layer.
use Rattle.std.proofs.Common.{◌≡◌, ℕ, ◌+◌, ◌<◌, ◌≤◌, length, refl, sym, subst}
use Rattle.std.specs.Option.{IsSomeAnd}
use Rattle.std.specs.Prelude.{IsSome}
use Rattle.std.proofs.lemmas.List.{get_or-map, length-map}
use Rattle.vs_types.specs.LayerSet.{Has}
use Rattle.vs_instance.specs.declared.layer.Layer.{Layer}
use Rattle.vs_instance.specs.declared.trip.Trip.{Trip}
use Rattle.vs_instance.specs.Problem.{Problem}
use Rattle.vs_instance.specs.Ways.{Connects, HasPullIn, HasPullOut, Permitted, layer_of, no_trip, trip_of, way}
use Rattle.vs_peakcheck.specs.Counting.{counted_trip, counting_with, own_number, permitted_trips}

-- moves, by the trips that they lead from and to
abbrev pub Leads : Problem → Trip → Trip → Type 0
Leads p s t = IsSomeAnd (way p s.to.0 t.from.0) (λ w. s.end + w.minutes ≤ t.start)

abbrev pub LeadsOut : Problem → Layer → Trip → Type 0
LeadsOut p layer t = IsSomeAnd (way p layer.depot.0 t.from.0) (λ w. w.minutes ≤ t.start)

abbrev pub LeadsIn : Problem → Layer → Trip → Type 0
LeadsIn p layer t = IsSome (way p t.to.0 layer.depot.0)

module _ (fleet : ℕ) (p : Problem) (l : ℕ) where
  pub count_is : length (counting_with fleet p l).trips ≡ length (permitted_trips p l)
  count_is = length-map (permitted_trips p l) (λ i. counted_trip (trip_of p i))

  pub trip_is : (k : ℕ) → k < length (permitted_trips p l)
      → trip_of (counting_with fleet p l) k ≡ counted_trip (trip_of p (own_number p l k))
  trip_is k within = get_or-map (λ i. counted_trip (trip_of p i)) (permitted_trips p l) k 0 no_trip within

  -- the only layer may run each trip
  pub permitted_there : (k : ℕ) → k < length (permitted_trips p l) → Permitted (counting_with fleet p l) 0 k
  permitted_there k within = subst (λ (t : Trip). Has t.layers 0) (sym (trip_is k within)) refl

  module _ (j k : ℕ) (here : j < length (permitted_trips p l)) (there : k < length (permitted_trips p l)) where
    pub connects_own : Connects (counting_with fleet p l) j k → Connects p (own_number p l j) (own_number p l k)
    connects_own is =
        subst (λ (s : Trip). Leads (counting_with fleet p l) s (counted_trip (trip_of p (own_number p l k))))
        (trip_is j here)
        (subst (λ (t : Trip). Leads (counting_with fleet p l) (trip_of (counting_with fleet p l) j) t)
        (trip_is k there) is)

    pub connects_there : Connects p (own_number p l j) (own_number p l k) → Connects (counting_with fleet p l) j k
    connects_there is =
        subst (λ (t : Trip). Leads (counting_with fleet p l) (trip_of (counting_with fleet p l) j) t)
        (sym (trip_is k there))
        (subst (λ (s : Trip). Leads (counting_with fleet p l) s (counted_trip (trip_of p (own_number p l k))))
        (sym (trip_is j here)) is)

  module _ (k : ℕ) (within : k < length (permitted_trips p l)) where
    pub out_own : HasPullOut (counting_with fleet p l) 0 k → HasPullOut p l (own_number p l k)
    out_own is =
        subst (λ (t : Trip). LeadsOut (counting_with fleet p l) (layer_of (counting_with fleet p l) 0) t)
        (trip_is k within) is

    pub out_there : HasPullOut p l (own_number p l k) → HasPullOut (counting_with fleet p l) 0 k
    out_there is =
        subst (λ (t : Trip). LeadsOut (counting_with fleet p l) (layer_of (counting_with fleet p l) 0) t)
        (sym (trip_is k within)) is

    pub in_own : HasPullIn (counting_with fleet p l) 0 k → HasPullIn p l (own_number p l k)
    in_own is =
        subst (λ (t : Trip). LeadsIn (counting_with fleet p l) (layer_of (counting_with fleet p l) 0) t)
        (trip_is k within) is

    pub in_there : HasPullIn p l (own_number p l k) → HasPullIn (counting_with fleet p l) 0 k
    in_there is =
        subst (λ (t : Trip). LeadsIn (counting_with fleet p l) (layer_of (counting_with fleet p l) 0) t)
        (sym (trip_is k within)) is
