-- Where a table holds, the trips of a plan pay no more together than the plan costs and its vehicles pay.
use Rattle.std.proofs.Common.{◌≡◌, ℕ, ◌<◌, List, [], ◌∷◌, length, map, refl, ap, ◌∙◌, arith, ℤ, pos, ◌+ℤ◌, ◌*ℤ◌, ◌≤ℤ◌}
use Rattle.std.specs.List.{All, range_with_len}
use Rattle.std.proofs.lemmas.Int.{ints}
use Rattle.std.proofs.lemmas.List.Elements.{All-head, All-tail, All-nil, All-append}
use Rattle.std.proofs.lemmas.List.Sums.{sum_by-cons}
use Rattle.vs_types.specs.declared.numbers.TripNo.{TripNo}
use Rattle.vs_types.proofs.CallerLemmas.{times_le, times_one}
use Rattle.vs_instance.specs.Problem.{Problem}
use Rattle.vs_instance.specs.Instance.{IsInstance}
use Rattle.vs_instance.specs.Lagrangian.{total}
use Rattle.vs_instance.specs.Blocks.{IsBlock, block_cost}
use Rattle.vs_instance.specs.Plan.{LayerBlock, IsPlan, all_trips, plan_cost, times_run, vehicles_used}
use Rattle.vs_instance.specs.HoldingTable.{scaled}
use Rattle.vs_instance.specs.Ways.{layer_of}
use Rattle.vs_prices.specs.declared.table.Table.{Table}
use Rattle.vs_prices.specs.Table.{HoldingTable, prices_in, vehicle_price}
use Rattle.vs_prices.specs.Worth.{fleet_price, trip_price}
use Rattle.vs_instance.proofs.CallerLemmas.{total-by_count, total-map_append, total-range_le, block_pays, scaled-add, scaled-none}

abbrev IsBlockOf : Problem → LayerBlock → Type 0
IsBlockOf p b = IsBlock p b.0 b.1

-- what a function of trips and layers comes to over the trips of all blocks
abbrev pub over_blocks : (ℕ → ℕ → ℤ) → List LayerBlock → ℤ
over_blocks f blocks = total (map (λ b. total (map (λ i. f i.0 b.0.0) b.1)) blocks)

module _ (p : Problem) (instance : IsInstance p) (table : Table) (holds : HoldingTable p table) where
  -- what the blocks' vehicles pay
  abbrev paid_by_vehicles : List LayerBlock → ℤ
  paid_by_vehicles blocks = total (map (λ b. vehicle_price table b.0.0) blocks)

  blocks_pay : (blocks : List LayerBlock) → All (IsBlockOf p) blocks
      → over_blocks (trip_price p table) blocks ≤ℤ (paid_by_vehicles blocks +ℤ scaled table.ray (plan_cost p blocks))
  blocks_pay [] each = let none = scaled-none table.ray in omega (arith, ints, none)
  blocks_pay (b ∷ blocks) each =
      let block = All-head (IsBlockOf p) b blocks each in
      let here =
      block_pays p b.0 table.ray (prices_in p b.0.0 table.into.items) (prices_in p b.0.0 table.from.items)
      (vehicle_price table b.0.0) instance (holds b.0.0 block.layer) b.1 block in
      let rest = blocks_pay blocks (All-tail (IsBlockOf p) b blocks each) in
      let cost = sum_by-cons (λ (x : LayerBlock). block_cost p x.0 x.1) b blocks in
      let parts = ap (scaled table.ray) cost ∙ scaled-add table.ray (block_cost p b.0 b.1) (plan_cost p blocks) in
      omega (arith, ints, here, rest, parts)

  layers_inside : (blocks : List LayerBlock) → All (IsBlockOf p) blocks → All (λ b. b.0.0 < length p.layers) blocks
  layers_inside blocks each = λ k d within. (each k d within).layer

  -- vehicles that are used pay no more than all of them
  vehicles_pay : (blocks : List LayerBlock) → IsPlan p blocks
      → paid_by_vehicles blocks ≤ℤ total (map (fleet_price p table) (range_with_len 0 (length p.layers)))
  vehicles_pay blocks plan =
      let by_layer =
      total-by_count (vehicle_price table) (λ (b : LayerBlock). b.0.0) (length p.layers) blocks
      (layers_inside blocks plan.each_block) in
      let used =
      total-range_le (λ l. vehicle_price table l *ℤ pos (vehicles_used blocks l)) (fleet_price p table) 0
      (length p.layers)
      (λ l from within. let inside : l < length p.layers = omega arith in
      times_le (vehicle_price table l) (vehicles_used blocks l) (layer_of p l).fleet (holds l inside).vehicle
      (plan.fleet l inside)) in
      omega (arith, ints, by_layer, used)

  -- the trips of a plan pay no more than all vehicles do and the plan costs
  pub plan_pays : (blocks : List LayerBlock) → IsPlan p blocks
      → over_blocks (trip_price p table) blocks
      ≤ℤ (total (map (fleet_price p table) (range_with_len 0 (length p.layers)))
      +ℤ scaled table.ray (plan_cost p blocks))
  plan_pays blocks plan =
      let pay = blocks_pay blocks plan.each_block in
      let vehicles = vehicles_pay blocks plan in
      omega (arith, ints)

-- each trip of the blocks is one of the instance
trips_inside : (p : Problem) (blocks : List LayerBlock) → All (IsBlockOf p) blocks
    → All (λ i. i.0 < length p.trips) (all_trips blocks)
trips_inside p [] each = All-nil (λ (i : TripNo). i.0 < length p.trips)
trips_inside p (b ∷ blocks) each =
    All-append (λ (i : TripNo). i.0 < length p.trips) b.1 (all_trips blocks)
    (All-head (IsBlockOf p) b blocks each).of_instance
    (trips_inside p blocks (All-tail (IsBlockOf p) b blocks each))

-- a total over all trips of the blocks, block by block
over_trips : (g : ℕ → ℤ) (blocks : List LayerBlock)
    → total (map (λ i. g i.0) (all_trips blocks)) ≡ over_blocks (λ i l. g i) blocks
over_trips g [] = refl
over_trips g (b ∷ blocks) =
    let split = total-map_append (λ (i : TripNo). g i.0) b.1 (all_trips blocks) in
    let rest = over_trips g blocks in
    omega (arith, ints, split, rest)

-- over the trips of a plan a total comes to the same as over the numbers of the trips, since each is run once
pub once_each : (p : Problem) (blocks : List LayerBlock) → IsPlan p blocks → (g : ℕ → ℤ)
    → total (map g (range_with_len 0 (length p.trips))) ≤ℤ over_blocks (λ i l. g i) blocks
once_each p blocks plan g =
    let by_trip =
    total-by_count g (λ (i : TripNo). i.0) (length p.trips) (all_trips blocks)
    (trips_inside p blocks plan.each_block) in
    let once = total-range_le g (λ i. g i *ℤ pos (times_run blocks i)) 0 (length p.trips)
    (λ i from within. let inside : i < length p.trips = omega arith in
    let is = ap (λ (n : ℕ). g i *ℤ pos n) (plan.once i inside) ∙ times_one (g i) in omega (arith, ints, is)) in
    omega (arith, ints, by_trip, once, over_trips g blocks)
