-- What a table is worth where each trip has one layer, layer by layer.
use Rattle.std.proofs.Common.{◌≡◌, ℕ, ◌<◌, Bool, true, false, cond, List, length, get_or, map, refl, sym, ap, ◌∙◌, subst, arith, ℤ, pos, ◌+ℤ◌, ◌-ℤ◌, ◌*ℤ◌}
use Rattle.std.specs.List.{range_with_len}
use Rattle.std.proofs.lemmas.Bool.{cond-false, false_from_ne_true}
use Rattle.std.proofs.lemmas.Int.{ints}
use Rattle.vs_types.specs.declared.layer_set.LayerSet.{LayerSet}
use Rattle.vs_types.proofs.CallerLemmas.{none_times}
use Rattle.vs_instance.specs.Problem.{Problem}
use Rattle.vs_instance.specs.Instance.{IsInstance}
use Rattle.vs_instance.specs.Ways.{layer_of}
use Rattle.vs_instance.specs.Pieces.{trip_piece}
use Rattle.vs_instance.specs.HoldingTable.{price_of, scaled}
use Rattle.vs_instance.specs.Lagrangian.{total}
use Rattle.vs_instance.specs.Restriction.{IsRestriction, set_of}
use Rattle.vs_instance.proofs.CallerLemmas.{total-map_sub}
use Rattle.vs_prices.specs.declared.table.Table.{Table}
use Rattle.vs_prices.specs.Table.{prices_in, vehicle_price}
use Rattle.vs_prices.specs.Worth.{fleet_price, least, least_price, table_value, trip_price}
use Rattle.vs_prices.proofs.CallerLemmas.{zero_at}
use Rattle.vs_circ.specs.declared.circ.LayerPrices.{LayerPrices}
use Rattle.vs_circ.specs.LayerPrices.{shown_of_trips}
use Rattle.vs_circ.proofs.CallerLemmas.{over_range, total-none, total-only, total-same, total-swap}
use Rattle.vs_node.specs.ChosenLayers.{AreSingle}
use Rattle.vs_node.specs.LayersDone.{AreNoPrices, StandAt, due, layer_value, must_in}
use Rattle.vs_node.proofs.sets.OneLayer.{has_must, must_has, only_layer}
use Rattle.vs_node.proofs.sets.SetMembers.{members_alone}
use Rattle.vs_node.proofs.tables.TablePrices.{AreSameAt}

-- what trips that have to run in layer l pay by these prices, less what the vehicles pay
abbrev pub value_by : Problem → List Bool → ℕ → Bool → List ℤ → List ℤ → ℤ → ℤ
value_by p must l ray into from fleet =
    total (map (λ i. cond (get_or must i false)
    ((price_of into i +ℤ scaled ray (trip_piece p l i)) -ℤ price_of from i) (pos 0))
    (range_with_len 0 (length p.trips)))
    -ℤ fleet *ℤ pos (layer_of p l).fleet

value_by-same : (p : Problem) (must : List Bool) (l : ℕ) (ray ray' : Bool) (into into' from from' : List ℤ)
    (fleet fleet' : ℤ) → ray' ≡ ray → into' ≡ into → from' ≡ from → fleet' ≡ fleet
    → value_by p must l ray' into' from' fleet' ≡ value_by p must l ray into from fleet
value_by-same p must l ray ray' into into' from from' fleet fleet' a b c d =
    ap (λ (x : Bool). value_by p must l x into' from' fleet') a
    ∙ ap (λ (x : List ℤ). value_by p must l ray x from' fleet') b
    ∙ ap (λ (x : List ℤ). value_by p must l ray into x fleet') c
    ∙ ap (λ (x : ℤ). value_by p must l ray into from x) d

-- a layer with the same prices is worth the same
pub layer_value-same : (p : Problem) (sets : List LayerSet) (old new : Table) (l : ℕ) → AreSameAt p old new l
    → layer_value p sets new l ≡ layer_value p sets old l
layer_value-same p sets old new l same =
    value_by-same p (must_in sets l) l old.ray new.ray (prices_in p l old.into.items) (prices_in p l new.into.items)
    (prices_in p l old.from.items) (prices_in p l new.from.items) (vehicle_price old l) (vehicle_price new l)
    same.ray same.into same.from same.fleet

-- a layer is worth what its prices show
pub layer_value-shown : (p : Problem) (sets : List LayerSet) (table : Table) (l : ℕ) (ray : Bool)
    (prices : LayerPrices) → table.ray ≡ ray → StandAt p table l prices
    → layer_value p sets table l ≡ shown_of_trips p l ray (must_in sets l) prices
layer_value-shown p sets table l ray prices is stand =
    value_by-same p (must_in sets l) l ray table.ray prices.into.items (prices_in p l table.into.items)
    prices.from.items (prices_in p l table.from.items) prices.fleet (vehicle_price table l)
    is stand.into stand.from stand.fleet

either_nothing : (must : Bool) (x : ℤ) → x ≡ pos 0 → cond must x (pos 0) ≡ pos 0
either_nothing true x none = none
either_nothing false x none = refl

-- prices of 0 show nothing where costs count nothing
pub no_prices-shown : (p : Problem) (l : ℕ) (must : List Bool) (prices : LayerPrices) → AreNoPrices prices
    → shown_of_trips p l true must prices ≡ pos 0
no_prices-shown p l must prices none =
    let trips = total-none (λ i. cond (get_or must i false)
    ((price_of prices.into.items i +ℤ scaled true (trip_piece p l i)) -ℤ price_of prices.from.items i) (pos 0))
    0 (length p.trips)
    (λ i from within. either_nothing (get_or must i false) _
    (let a = zero_at prices.into.items i none.into in
    let b = zero_at prices.from.items i none.from in
    omega (arith, ints, a, b))) in
    let vehicles = ap (λ (x : ℤ). x *ℤ pos (layer_of p l).fleet) none.fleet ∙ none_times (layer_of p l).fleet in
    omega (arith, ints, trips, vehicles)

taken : (must : Bool) (x : ℤ) → must ≡ true → cond must x (pos 0) ≡ x
taken must x is = ap (λ (b : Bool). cond b x (pos 0)) is

module _ (p : Problem) (sets : List LayerSet) (table : Table) (instance : IsInstance p)
    (restriction : IsRestriction p sets) (single : AreSingle sets) where
  -- what a trip pays in the one layer of its set, among all layers
  price_by_layer : (i : ℕ) → i < length p.trips
      → least_price p sets table i ≡ over_range (λ l. due p sets table l i) 0 (length p.layers)
  price_by_layer i inside =
      let only = only_layer p sets instance restriction single i inside in
      let l = only.0 in
      let has = (only.2 l).1 refl in
      let stands : i < length sets = subst (λ (n : ℕ). i < n) (sym restriction.each_trip) inside in
      let alone = ap (λ (ls : List ℕ). least (map (trip_price p table i) ls))
      (members_alone (set_of sets i) l (omega (arith, only.1, instance.few_layers)) only.2) in
      let here = taken (get_or (must_in sets l) i false) (trip_price p table i l) (has_must sets l i stands has) in
      let all = total-only (λ k. due p sets table k i) l 0 (length p.layers) (omega arith) (omega (arith, only.1))
      (λ k within other. cond-false (get_or (must_in sets k) i false) (trip_price p table i k) (pos 0)
      (false_from_ne_true (get_or (must_in sets k) i false)
      (λ must. other ((only.2 k).0 (must_has sets k i must))))) in
      alone ∙ sym here ∙ sym all

  -- the table's value is that of its layers together
  pub value_by_layer : table_value p sets table ≡ over_range (layer_value p sets table) 0 (length p.layers)
  value_by_layer =
      let each = total-same (least_price p sets table)
      (λ i. over_range (λ l. due p sets table l i) 0 (length p.layers)) 0 (length p.trips)
      (λ i from within. price_by_layer i (omega (arith, within))) in
      let swapped = total-swap (λ i l. due p sets table l i) (range_with_len 0 (length p.trips))
      (range_with_len 0 (length p.layers)) in
      let split = total-map_sub (λ l. total (map (due p sets table l) (range_with_len 0 (length p.trips))))
      (fleet_price p table) (range_with_len 0 (length p.layers)) in
      omega (arith, ints, each, swapped, split)
