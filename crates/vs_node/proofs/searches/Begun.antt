-- The multipliers that a leaf is worked on from.
use Rattle.std.proofs.Common.{◌≡◌, ℕ, ◌<◌, Bool, true, false, List, length, get_or, sym, ◌∙◌, subst, arith, inl, inr, ℤ, pos, ◌≤ℤ◌, Option, Some, None, Result, Ok, Err, IfOk, IfSome}
use Rattle.std.proofs.lemmas.Int.{ints}
use Rattle.std.proofs.lemmas.List.{ext_get_or}
use Rattle.vs_types.specs.LayerSet.{Has}
use Rattle.vs_types.specs.declared.layer_set.LayerSet.{LayerSet}
use Rattle.vs_types.specs.declared.memory.Memory.{Memory}
use Rattle.vs_types.specs.declared.numbers.LayerNo.{LayerNo}
use Rattle.vs_types.specs.declared.numbers.TripNo.{TripNo}
use Rattle.vs_instance.specs.Problem.{Problem}
use Rattle.vs_instance.specs.Lagrangian.{AreBlocksOf, IsLagrangianValue, IsStart}
use Rattle.vs_instance.specs.Plan.{LayerBlock, all_trips}
use Rattle.vs_instance.specs.Restriction.{IsRestriction, permitted_sets, set_of}
use Rattle.vs_instance.proofs.CallerLemmas.{total-range_le, trips_inside, set_of-permitted_sets, values_exist}
use Rattle.vs_prices.specs.declared.bound.Bound.{Bound}
use Rattle.vs_prices.specs.declared.bound.Bound.TheVariants.{AtLeast, NoPlan}
use Rattle.vs_prices.specs.declared.table.Table.{Table}
use Rattle.vs_prices.specs.Bounds.{ReachesLagrangian, ReachesValue}
use Rattle.vs_multi.proofs.CallerLemmas.{total-by_place}
use Rattle.vs_multi.specs.Multipliers.{AreOfTable, AreStarts}
use Rattle.vs_multi.specs.declared.best.Best.{Best}
use Rattle.vs_node.specs.WorkedStep.{AreBegunWith, IsBegun, IsWorked, ReachesStart}

-- a trip has one starting multiplier
start_once : (p : Problem) (i : TripNo) (a b : ℤ) → IsStart p i a → IsStart p i b → a ≡ b
start_once p i a b (inl x) (inl y) =
    let less = x.3 y.0 y.1 in
    let more = y.3 x.0 x.1 in
    let first = x.2 in
    let second = y.2 in
    omega (arith, ints, less, more, first, second)
start_once p i a b (inl x) (inr y) = absurd (y.0 x.0 x.1)
start_once p i a b (inr x) (inl y) = absurd (x.0 y.0 y.1)
start_once p i a b (inr x) (inr y) = x.1 ∙ sym y.1

-- and all together one list of them
starts_once : (p : Problem) (a b : List ℤ) → AreStarts p a → AreStarts p b → a ≡ b
starts_once p a b x y =
    ext_get_or (pos 0) a b (x.each_trip ∙ sym y.each_trip)
    (λ i inside.
    let trip : i < length p.trips = subst (λ (n : ℕ). i < n) x.each_trip inside in
    start_once p (record { 0 = i }) (get_or a i (pos 0)) (get_or b i (pos 0)) (x.start (record { 0 = i }) trip)
    (y.start (record { 0 = i }) trip))

-- a table stands for one list
of_table_once : (p : Problem) (sets : List LayerSet) (table : Table) (a b : List ℤ) → AreOfTable p sets table a
    → AreOfTable p sets table b → a ≡ b
of_table_once p sets table a b x y =
    ext_get_or (pos 0) a b (x.each_trip ∙ sym y.each_trip)
    (λ i inside.
    let trip : i < length p.trips = subst (λ (n : ℕ). i < n) x.each_trip inside in
    x.price i trip ∙ sym (y.price i trip))

begun_once : (p : Problem) (root : Bool) (sets : List LayerSet) (table : Table) (a b : List ℤ)
    → AreBegunWith p root sets table a → AreBegunWith p root sets table b → a ≡ b
begun_once p true sets table a b x y = starts_once p a b x y
begun_once p false sets table a b x y = of_table_once p sets table a b x y

-- a leaf is worked on where its new table reaches the value at the multipliers that the work begins with
pub worked-by : (p : Problem) (root : Bool) (sets : List LayerSet) (old new : Table) (multipliers : List ℤ)
    → AreBegunWith p root sets old multipliers → ReachesLagrangian p sets multipliers new → IsWorked p root sets old new
worked-by p root sets old new multipliers begun reaches others begun_too =
    subst (λ (m : List ℤ). ReachesLagrangian p sets m new)
    (begun_once p root sets old multipliers others begun begun_too) reaches

-- what a round found at the starting multipliers, if it was made
pub begun_of : (p : Problem) (sets : List LayerSet) (multipliers : List ℤ) → AreStarts p multipliers
    → (found : Result (Option Best) Memory)
    → IfOk found (λ begun. IfSome begun (λ best. ReachesLagrangian p sets multipliers best.table))
    → IfOk found (λ begun. IfSome begun (λ best. IsBegun p sets best.table))
begun_of p sets multipliers starts (Err e) reaches = tt
begun_of p sets multipliers starts (Ok None) reaches = tt
begun_of p sets multipliers starts (Ok (Some best)) reaches =
    worked-by p true sets best.table best.table multipliers starts reaches

-- there is a multiplier for each trip
pub begun-each_trip : (p : Problem) (root : Bool) (sets : List LayerSet) (table : Table) (multipliers : List ℤ)
    → AreBegunWith p root sets table multipliers → length multipliers ≡ length p.trips
begun-each_trip p true sets table multipliers begun = begun.each_trip
begun-each_trip p false sets table multipliers begun = begun.each_trip

-- blocks of trips that may still be run in a layer are ones of trips that it may run
permitted_blocks : (p : Problem) (sets : List LayerSet) (l : LayerNo) (blocks : List LayerBlock)
    → IsRestriction p sets → AreBlocksOf p l (λ i. Has (set_of sets i) l.0) blocks
    → AreBlocksOf p l (λ i. Has (set_of (permitted_sets p) i) l.0) blocks
permitted_blocks p sets l blocks restriction are = record {
  each_block = are.each_block;
  fleet = are.fleet;
  at_most_once = are.at_most_once;
  within = λ k d inside.
      let trip = trips_inside p l blocks are.each_block k d inside in
      let i = (get_or (all_trips blocks) k d).0 in
      subst (λ (s : LayerSet). Has s l.0) (sym (set_of-permitted_sets p i trip))
      (restriction.permitted i l.0 trip (are.within k d inside));
}

module _ (p : Problem) (sets : List LayerSet) (restriction : IsRestriction p sets) (multipliers : List ℤ) where
  -- where trips have fewer layers, the value is no less
  narrower_value : (value widest : ℤ) → IsLagrangianValue p sets multipliers value
      → IsLagrangianValue p (permitted_sets p) multipliers widest → widest ≤ℤ value
  narrower_value value widest narrow wide =
      let narrow_places = total-by_place narrow.lows (length p.layers) narrow.each_layer in
      let wide_places = total-by_place wide.lows (length p.layers) wide.each_layer in
      let each = total-range_le (λ l. get_or wide.lows l (pos 0)) (λ l. get_or narrow.lows l (pos 0)) 0
      (length p.layers)
      (λ l from within.
      let layer : LayerNo = record { 0 = l } in
      let low = narrow.are_lows layer (omega (arith, within)) in
      let least = (wide.are_lows layer (omega (arith, within))).least low.blocks
      (permitted_blocks p sets layer low.blocks restriction low.are_blocks) in
      let cost = low.cost in
      omega (arith, ints, least, cost)) in
      let narrow_is = narrow.value_is in
      let wide_is = wide.value_is in
      omega (arith, ints, narrow_places, wide_places, each, narrow_is, wide_is)

reaches-less : (worth : Bound) (value less : ℤ) → less ≤ℤ value → ReachesValue worth value → ReachesValue worth less
reaches-less NoPlan value less below reaches = tt
reaches-less (AtLeast n) value less below reaches = omega (arith, ints, below, reaches)

-- the root's new table reaches the starting value
pub worked-start : (p : Problem) (sets : List LayerSet) (old new : Table) → IsRestriction p sets
    → IsWorked p true sets old new → ReachesStart p sets new
worked-start p sets old new restriction worked worth value is_worth start =
    let narrow = values_exist p sets start.multipliers in
    reaches-less worth narrow.0 value
    (narrower_value p sets restriction start.multipliers narrow.0 value narrow.1 start.value_is)
    (worked start.multipliers (record { each_trip = start.each_trip; start = start.start }) worth narrow.0 is_worth
    narrow.1)
