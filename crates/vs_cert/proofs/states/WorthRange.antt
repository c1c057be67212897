-- What a table that holds can be worth at most.
use Rattle.std.proofs.Common.{◌≡◌, ℕ, ◌-◌, ◌*◌, ◌<◌, ◌≤◌, Bool, true, false, List, [], ◌∷◌, length, map, ◌⊎◌, inl, inr, arith, ℤ, pos, negsuc, ◌+ℤ◌, ◌-ℤ◌, ◌*ℤ◌, ◌≤ℤ◌}
use Rattle.std.specs.Prelude.{MatchBool}
use Rattle.std.specs.List.{range_with_len}
use Rattle.std.proofs.lemmas.Bool.{cases_lt}
use Rattle.std.proofs.lemmas.Int.{ints, clamps}
use Rattle.std.proofs.lemmas.List.{get_or_past}
use Rattle.std.proofs.lemmas.List.Elements.{All-get_or}
use Rattle.std.proofs.lemmas.List.FromFn.{length-range_with_len}
use Rattle.std.proofs.lemmas.Nat.{mul-le}
use Rattle.vs_types.specs.LayerSet.{members}
use Rattle.vs_types.specs.declared.layer_set.LayerSet.{LayerSet}
use Rattle.vs_instance.specs.HoldingTable.{scaled}
use Rattle.vs_instance.specs.Instance.{IsInstance, IsLayer, IsTrip}
use Rattle.vs_instance.specs.Lagrangian.{total}
use Rattle.vs_instance.specs.Pieces.{trip_piece}
use Rattle.vs_instance.specs.Problem.{Problem}
use Rattle.vs_instance.specs.Restriction.{set_of}
use Rattle.vs_instance.specs.declared.limits.TheConstants.{MAX_METRES, MAX_PER_METRE, MAX_PER_MINUTE, MAX_TRIPS, TWO_DAYS}
use Rattle.vs_instance.specs.Ways.{layer_of, no_layer, no_trip, trip_of}
use Rattle.vs_instance.proofs.CallerLemmas.{total-nothing, total-range_le}
use Rattle.vs_prices.specs.Table.{Fits, HoldingTable, IsPrice, into_price, from_price, vehicle_price}
use Rattle.vs_prices.specs.Worth.{IsRoundedUp, IsWorth, fleet_price, least, least_price, table_value, trip_price}
use Rattle.vs_prices.specs.declared.bound.Bound.TheVariants.{AtLeast}
use Rattle.vs_prices.specs.declared.table.Table.{Table}
use Rattle.vs_prices.proofs.CallerLemmas.{IsScaled, scaled-IsScaled}
use Rattle.vs_rows.proofs.CallerLemmas.{price_anywhere, prices_in_all}

-- the limits of what an instance says, also past the end of its layers and trips
module _ (p : Problem) (instance : IsInstance p) where
  record IsSmallLayer (l : ℕ) : Type 0 where
    pub per_minute : (layer_of p l).per_minute ≤ MAX_PER_MINUTE
    pub per_metre : (layer_of p l).per_metre ≤ MAX_PER_METRE

  small_layer : (l : ℕ) → IsSmallLayer l
  small_layer l = by_place (cases_lt l (length p.layers))
    where
      by_place : (l < length p.layers) ⊎ (length p.layers ≤ l) → IsSmallLayer l
      by_place (inl within) =
          let is = All-get_or (IsLayer p) p.layers l no_layer within instance.layers in
          record { per_minute = is.per_minute; per_metre = is.per_metre }
      by_place (inr past) =
          let e = get_or_past p.layers l no_layer past in
          record { per_minute = rw e (omega arith); per_metre = rw e (omega arith) }

  trip_small : (i : ℕ) → ((trip_of p i).end ≤ TWO_DAYS) × ((trip_of p i).metres ≤ MAX_METRES)
  trip_small i = by_place (cases_lt i (length p.trips))
    where
      by_place : (i < length p.trips) ⊎ (length p.trips ≤ i) → ((trip_of p i).end ≤ TWO_DAYS)
          × ((trip_of p i).metres ≤ MAX_METRES)
      by_place (inl within) =
          let is = All-get_or (IsTrip p) p.trips i no_trip within instance.trips in
          let before = is.end in
          (omega arith, is.metres)
      by_place (inr past) = let e = get_or_past p.trips i no_trip past in rw e (omega arith, omega arith)

  piece_small : (l i : ℕ) → trip_piece p l i ≤ 20000000000
  piece_small l i =
      let layer = small_layer l in
      let trip = trip_small i in
      let driven =
      mul-le (layer_of p l).per_minute ((trip_of p i).end - (trip_of p i).start) 1000000 2880 layer.per_minute
      (omega arith) in
      let run = mul-le (layer_of p l).per_metre (trip_of p i).metres 10000 1000000 layer.per_metre trip.1 in
      omega arith

least_below : (limit : ℕ) (f : ℕ → ℤ) → ((k : ℕ) → f k ≤ℤ pos limit) → (ks : List ℕ) → least (map f ks) ≤ℤ pos limit
least_below limit f each [] = omega (arith, ints)
least_below limit f each (k ∷ []) = each k
least_below limit f each (k ∷ j ∷ ks) =
    let here = each k in
    let rest = least_below limit f each (j ∷ ks) in
    omega (arith, ints, clamps)

total_below : (limit : ℕ) (f : ℕ → ℤ) → ((k : ℕ) → f k ≤ℤ pos limit) → (ks : List ℕ)
    → total (map f ks) ≤ℤ pos (length ks * limit)
total_below limit f each [] = omega (arith, ints)
total_below limit f each (k ∷ ks) =
    let here = each k in
    let rest = total_below limit f each ks in
    omega (arith, ints)

-- what a trip pays
paid_below : (x s y : ℤ) → IsPrice x → IsScaled s → IsPrice y → (x +ℤ s -ℤ y) ≤ℤ pos 3000000000000000000
paid_below x s y into own from = omega (arith, ints)

-- vehicles whose price isn't below 0 pay nothing less than nothing
paid_some : (price : ℤ) (fleet : ℕ) → pos 0 ≤ℤ price → pos 0 ≤ℤ (price *ℤ pos fleet)
paid_some (pos n) fleet some = omega (arith, ints)
paid_some (negsuc n) fleet some = absurd (omega (arith, ints, some))

rounded_below : (value n : ℤ) → value ≤ℤ pos 30000000000000000000000 → IsRoundedUp value n
    → n ≤ℤ pos 30000000000000000000
rounded_below value n below is = is.least (pos 30000000000000000000) (omega (arith, ints, below))

module _ (p : Problem) (instance : IsInstance p) (table : Table) (fits : Fits p table) (holds : HoldingTable p table)
  where
    trip_price-below : (i l : ℕ) → trip_price p table i l ≤ℤ pos 3000000000000000000
    trip_price-below i l =
        paid_below (into_price p table l i) (scaled table.ray (trip_piece p l i)) (from_price p table l i)
        (price_anywhere _ i (prices_in_all p l table.into.items fits.into))
        (scaled-IsScaled table.ray (trip_piece p l i) (piece_small p instance l i))
        (price_anywhere _ i (prices_in_all p l table.from.items fits.from))

    fleets_some : pos 0 ≤ℤ total (map (fleet_price p table) (range_with_len 0 (length p.layers)))
    fleets_some =
        let more = total-range_le (λ l. pos 0) (fleet_price p table) 0 (length p.layers)
        (λ l from within.
        paid_some (vehicle_price table l) (layer_of p l).fleet (holds l (omega (arith, within))).vehicle) in
        let nothing = total-nothing (range_with_len 0 (length p.layers)) in
        omega (arith, ints, more, nothing)

    value_below : (sets : List LayerSet) → table_value p sets table ≤ℤ pos 30000000000000000000000
    value_below sets =
        let numbers = range_with_len 0 (length p.trips) in
        let trips = total_below 3000000000000000000 (least_price p sets table)
        (λ i. least_below 3000000000000000000 (trip_price p table i) (trip_price-below i) (members (set_of sets i)))
        numbers in
        let few = instance.few_trips in
        let most = mul-le (length numbers) 3000000000000000000 MAX_TRIPS 3000000000000000000
        (omega (arith, few, length-range_with_len 0 (length p.trips))) (omega arith) in
        omega (arith, ints, trips, most, fleets_some)

    by_kind : (ray : Bool) (value n : ℤ) → value ≤ℤ pos 30000000000000000000000
        → MatchBool ray ((value ≤ℤ pos 0) × (n ≡ pos 0)) (IsRoundedUp value n) → n ≤ℤ pos 30000000000000000000
    by_kind true value n below is = let none = is.1 in omega (arith, ints, none)
    by_kind false value n below is = rounded_below value n below is

    -- it is worth no more than 3 * 10^19 cost units
    pub worth_below : (sets : List LayerSet) (n : ℤ) → IsWorth p sets table (AtLeast n)
        → n ≤ℤ pos 30000000000000000000
    worth_below sets n worth = by_kind table.ray (table_value p sets table) n (value_below sets) worth
