-- A table whose prices show the lows of all layers is worth no less than the Lagrangian value.
use Rattle.std.proofs.Common.{◌≡◌, ℕ, zero, suc, ◌+◌, ◌<◌, ◌≤◌, Bool, true, false, eqb, List, length, get_or, refl, sym, ap, ◌∙◌, inl, inr, arith, Option, MatchBool, ℤ, pos, ◌+ℤ◌, ◌-ℤ◌, ◌*ℤ◌, ◌≤ℤ◌}
use Rattle.std.specs.Int.{bit_at, int_min}
use Rattle.std.specs.List.{range_with_len}
use Rattle.std.proofs.lemmas.Bool.{cases_eq, eqb-true, eq-eqb, ne_eqb}
use Rattle.std.proofs.lemmas.Int.{ints, clamps}
use Rattle.std.proofs.lemmas.List.FromFn.{fill_by_all}
use Rattle.std.proofs.lemmas.List.Elements.{filter_passes}
use Rattle.vs_types.specs.LayerSet.{layer_numbers, members}
use Rattle.vs_types.specs.declared.layer_set.LayerSet.{LayerSet}
use Rattle.vs_types.specs.declared.numbers.LayerNo.{LayerNo}
use Rattle.vs_types.specs.declared.numbers.TheConstants.{SCALE}
use Rattle.vs_instance.specs.Problem.{Problem}
use Rattle.vs_instance.specs.Instance.{IsInstance}
use Rattle.vs_instance.specs.HoldingTable.{price_of, scaled}
use Rattle.vs_instance.specs.Lagrangian.{IsLagrangianValue, IsLow, multiplier_of, total}
use Rattle.vs_instance.specs.Pieces.{trip_piece}
use Rattle.vs_instance.specs.Restriction.{IsRestriction, set_of}
use Rattle.vs_instance.specs.Ways.{layer_of}
use Rattle.vs_instance.proofs.CallerLemmas.{trip_of-IsTrip, total-map_add, total-map_sub, total-range_le, dec_has}
use Rattle.vs_match.specs.LayerGraph.{LayerGraph}
use Rattle.vs_prices.proofs.CallerLemmas.{least_above}
use Rattle.vs_circ.specs.declared.circ.Circ.{Circ}
use Rattle.vs_circ.specs.declared.circ.LayerPrices.{LayerPrices}
use Rattle.vs_circ.specs.LayerPrices.{pays_at, trip_pays}
use Rattle.vs_circ.specs.Offers.{offer_of}
use Rattle.vs_circ.proofs.CallerLemmas.{over_range, total-same, total-swap}
use Rattle.vs_prices.specs.declared.bound.Bound.{Bound}
use Rattle.vs_prices.specs.declared.bound.Bound.TheVariants.{AtLeast, NoPlan}
use Rattle.vs_prices.specs.declared.table.Table.{Table}
use Rattle.vs_prices.specs.Bounds.{ReachesLagrangian, ReachesValue}
use Rattle.vs_prices.specs.Worth.{IsRoundedUp, IsWorth, fleet_price, least, least_price, table_value, trip_price}
use Rattle.vs_multi.specs.Exchanges.{HasPrices}
use Rattle.vs_multi.specs.Offers.{AreOffersTo, IsLeastAt}
use Rattle.vs_multi.proofs.OfferedBlocks.{low_once}

-- where no number counts more than nothing, all together count no more than nothing, and than any one
total_below : (f : ℕ → ℤ) (a n : ℕ) → ((k : ℕ) → f k ≤ℤ pos 0) → over_range f a n ≤ℤ pos 0
total_below f a zero none = omega (arith, ints)
total_below f a (suc n) none =
    let here = none a in
    let rest = total_below f (a + 1) n none in
    omega (arith, ints, here, rest)

total_below_one : (f : ℕ → ℤ) (k a n : ℕ) → a ≤ k → k < a + n → ((j : ℕ) → f j ≤ℤ pos 0) → over_range f a n ≤ℤ f k
total_below_one f k a zero from within none = absurd (omega arith)
total_below_one f k a (suc n) from within none =
    elim (cases_eq a k) [
      | inl same ↦
          let here = ap f same in
          let rest = total_below f (a + 1) n none in
          omega (arith, ints, here, rest)
      | inr other ↦
          let here = none a in
          let rest = total_below_one f k (a + 1) n (omega arith) (omega arith) none in
          omega (arith, ints, here, rest)
    ]

-- a list's total, by the places of the list
pub total-by_place : (xs : List ℤ) (n : ℕ) → length xs ≡ n → total xs ≡ over_range (λ k. get_or xs k (pos 0)) 0 n
total-by_place xs n long =
    ap total (fill_by_all (λ (k : ℕ). get_or xs k (pos 0)) xs n (pos 0) long (λ k inside. refl))

-- what a trip gains in a layer by being left out, as far as it gains anything, where its set has the layer
abbrev gains : Bool → ℤ → ℤ → ℤ
gains true multiplier pays = int_min (pos 0) (pays -ℤ multiplier)
gains false multiplier pays = pos 0

gains_nothing : (b : Bool) (m x : ℤ) → gains b m x ≤ℤ pos 0
gains_nothing true m x = omega (arith, ints, clamps)
gains_nothing false m x = omega (arith, ints)

gains_at : (b : Bool) (m x : ℤ) → b ≡ true → gains b m x ≤ℤ (x -ℤ m)
gains_at true m x is = omega (arith, ints, clamps)
gains_at false m x is = cc

module _ (p : Problem) (sets : List LayerSet) (multipliers : List ℤ) (table : Table) where
  abbrev stands : ℕ → ℕ → Bool
  stands l i = eqb (bit_at (set_of sets i).0 l) 1

  abbrev gain : ℕ → ℕ → ℤ
  gain l i = gains (stands l i) (multiplier_of multipliers i) (trip_price p table i l)

  abbrev layer_gain : ℕ → ℤ
  layer_gain l = over_range (gain l) 0 (length p.trips)

  module _ (costs : table.ray ≡ false) (l : LayerNo) where
    -- what a trip pays by the prices of the layer
    pays_same : (prices : LayerPrices) → HasPrices p table l.0 prices → (i : ℕ)
        → trip_pays p l.0 false prices i ≡ trip_price p table i l.0
    pays_same prices has i =
        let into = ap (λ (xs : List ℤ). price_of xs i) has.into in
        let from = ap (λ (xs : List ℤ). price_of xs i) has.from in
        let cost = ap (λ (r : Bool). scaled r (trip_piece p l.0 i)) costs in
        omega (arith, ints, into, from, cost)

    module _ (offers : List (Option ℤ)) (are : AreOffersTo p sets multipliers l.0 offers) where
      gain_same : (i : ℕ) → i < length p.trips → (x y : ℤ) → x ≡ y
          → pays_at (offer_of offers i) x ≡ gains (stands l.0 i) (multiplier_of multipliers i) y
      gain_same i inside x y same =
          elim (dec_has (set_of sets i) l.0) [
            | yes has ↦
                ap (λ (o : Option ℤ). pays_at o x) ((are.each i inside).offered has)
                ∙ ap (λ (z : ℤ). int_min (pos 0) (z -ℤ multiplier_of multipliers i)) same
                ∙ sym (ap (λ (b : Bool). gains b (multiplier_of multipliers i) y) (eq-eqb _ _ has))
            | no none ↦
                ap (λ (o : Option ℤ). pays_at o x) ((are.each i inside).left_out none)
                ∙ sym (ap (λ (b : Bool). gains b (multiplier_of multipliers i) y) (ne_eqb _ _ none))
          ]

    -- the layer's low is what its trips gain, less what its vehicles pay
    low_is : (net : LayerGraph) (c : Circ) → IsLeastAt p net sets multipliers l c → HasPrices p table l.0 c.prices
        → (low : ℤ) → IsLow p sets multipliers l low → low ≡ layer_gain l.0 -ℤ fleet_price p table l.0
    low_is net c least has low is =
        let offers = least.0 in
        let once = low_once p sets multipliers l offers least.1 low c.value is least.2.least.low in
        let gained = total-same (λ i. pays_at (offer_of offers i) (trip_pays p l.0 false c.prices i)) (gain l.0) 0
        (length p.trips)
        (λ i from within. gain_same offers least.1 i (omega arith) _ _ (pays_same c.prices has i)) in
        let vehicles = ap (λ (x : ℤ). x *ℤ pos (layer_of p l.0).fleet) has.fleet in
        omega (arith, ints, once, least.2.shows, gained, vehicles)

  -- a trip's multiplier and what it gains in all layers are no more than what it pays in the cheapest layer of its set
  trip_below : IsInstance p → IsRestriction p sets → (i : ℕ) → i < length p.trips
      → (multiplier_of multipliers i +ℤ over_range (λ l. gain l i) 0 (length p.layers)) ≤ℤ least_price p sets table i
  trip_below instance restriction i inside =
      least_above (trip_price p table i) (multiplier_of multipliers i +ℤ over_range (λ l. gain l i) 0 (length p.layers))
      (members (set_of sets i)) (restriction.some_layer i inside)
      (λ k d within.
      let has = eqb-true (bit_at (set_of sets i).0 (get_or (members (set_of sets i)) k d)) 1
      (filter_passes (λ j. eqb (bit_at (set_of sets i).0 j) 1) layer_numbers k d within) in
      let l = get_or (members (set_of sets i)) k d in
      let layer = (trip_of-IsTrip p instance i inside).layers l (restriction.permitted i l inside has) in
      let one = total_below_one (λ m. gain m i) l 0 (length p.layers) (omega arith) (omega arith)
      (λ m. gains_nothing (stands m i) (multiplier_of multipliers i) (trip_price p table i m)) in
      let here = gains_at (stands l i) (multiplier_of multipliers i) (trip_price p table i l) (eq-eqb _ _ has) in
      omega (arith, ints, one, here))

  module _ (instance : IsInstance p) (restriction : IsRestriction p sets)
      (each : length multipliers ≡ length p.trips)
      (low_of : (l : LayerNo) → l.0 < length p.layers → (low : ℤ) → IsLow p sets multipliers l low
      → low ≡ layer_gain l.0 -ℤ fleet_price p table l.0) where
    -- the value is no more than what the trips and the vehicles pay
    value_below : (value : ℤ) → IsLagrangianValue p sets multipliers value → value ≤ℤ table_value p sets table
    value_below value is =
        let lows = total-by_place is.lows (length p.layers) is.each_layer in
        let shown = total-same (λ l. get_or is.lows l (pos 0)) (λ l. layer_gain l -ℤ fleet_price p table l) 0
        (length p.layers)
        (λ l from within.
        let no : LayerNo = record { 0 = l } in
        low_of no (omega arith) (get_or is.lows l (pos 0)) (is.are_lows no (omega arith))) in
        let parts = total-map_sub layer_gain (fleet_price p table) (range_with_len 0 (length p.layers)) in
        let turned = total-swap gain (range_with_len 0 (length p.layers)) (range_with_len 0 (length p.trips)) in
        let paid = total-by_place multipliers (length p.trips) each in
        let both = total-map_add (multiplier_of multipliers) (λ i. over_range (λ l. gain l i) 0 (length p.layers))
        (range_with_len 0 (length p.trips)) in
        let below = total-range_le
        (λ i. multiplier_of multipliers i +ℤ over_range (λ l. gain l i) 0 (length p.layers))
        (least_price p sets table) 0 (length p.trips)
        (λ i from within. trip_below instance restriction i (omega arith)) in
        omega (arith, ints, is.value_is, lows, shown, parts, turned, paid, both, below)

-- a worth reaches what the value of a table reaches
reached : (ray : Bool) (value other n : ℤ) → ray ≡ false
    → MatchBool ray ((value ≤ℤ pos 0) × (n ≡ pos 0)) (IsRoundedUp value n) → other ≤ℤ value → other ≤ℤ (n *ℤ SCALE)
reached true value other n costs worth below = cc
reached false value other n costs worth below = let up = worth.reaches in omega (arith, ints, up)

worth_reaches : (p : Problem) (sets : List LayerSet) (table : Table) (worth : Bound) (other : ℤ) → table.ray ≡ false
    → IsWorth p sets table worth → other ≤ℤ table_value p sets table → ReachesValue worth other
worth_reaches p sets table (AtLeast n) other costs worth below =
    reached table.ray (table_value p sets table) other n costs worth below
worth_reaches p sets table NoPlan other costs worth below = tt

-- where every layer has the prices of a least circulation of its trips at these multipliers, the table is worth no less
-- than the Lagrangian value at them
pub reaches_lagrangian : (p : Problem) (sets : List LayerSet) (multipliers : List ℤ) (table : Table) → IsInstance p
    → IsRestriction p sets → length multipliers ≡ length p.trips → table.ray ≡ false
    → ((l : LayerNo) → l.0 < length p.layers
    → (net : LayerGraph) × (c : Circ) × IsLeastAt p net sets multipliers l c × HasPrices p table l.0 c.prices)
    → ReachesLagrangian p sets multipliers table
reaches_lagrangian p sets multipliers table instance restriction each costs layers worth value is_worth is_value =
    worth_reaches p sets table worth value costs is_worth
    (value_below p sets multipliers table instance restriction each
    (λ l within low is.
    let at = layers l within in
    low_is p sets multipliers table costs l at.0 at.1 at.2 at.3 low is) value is_value)
