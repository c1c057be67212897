-- Plans of the counting problem and lists of blocks that run all that the layer may run are the same.
use Rattle.std.proofs.Common.{◌≡◌, ℕ, zero, suc, ◌<◌, ◌≤◌, eqb, List, [], ◌∷◌, length, get_or, map, refl, sym, ap, ◌∙◌, subst, arith}
use Rattle.std.specs.List.{All, sum_by}
use Rattle.std.specs.Prelude.{Contains}
use Rattle.std.proofs.lemmas.List.{length-map}
use Rattle.std.proofs.lemmas.List.Elements.{All-head, All-map, All-tail, All-weaker}
use Rattle.std.proofs.lemmas.List.Sums.{count_by-le-length, sum_by-cons}
use Rattle.vs_types.specs.declared.numbers.LayerNo.{LayerNo}
use Rattle.vs_types.specs.declared.numbers.TripNo.{TripNo}
use Rattle.vs_instance.specs.Problem.{Problem}
use Rattle.vs_instance.specs.Instance.{IsInstance}
use Rattle.vs_instance.specs.Ways.{layer_of}
use Rattle.vs_instance.specs.Blocks.{IsBlock, block_cost}
use Rattle.vs_instance.specs.Plan.{IsPlan, LayerBlock, plan_cost, times_run, vehicles_used}
use Rattle.vs_instance.proofs.CallerLemmas.{blocks-le-trips}
use Rattle.vs_plan.proofs.CallerLemmas.{plan_trips}
use Rattle.vs_peakcheck.specs.Counting.{counted_fleet, counting, counting_with, numbered, own_blocks, own_number, own_trips, permitted_trips}
use Rattle.vs_peakcheck.specs.CountingLaws.{CountsVehicles, IsALeastCost, IsLeastCost}
use Rattle.vs_peakcheck.specs.Peak.{IsPeak, RunAll}
use Rattle.vs_peakcheck.proofs.problem.PermittedTrips.{all_permitted, all_within, few_permitted, has_number, place_in, placed}
use Rattle.vs_peakcheck.proofs.problem.CountedTrips.{count_is}
use Rattle.vs_peakcheck.proofs.problem.CountedBlocks.{AreCounted, block_own, block_there, costs_one, only, times_own}
use Rattle.vs_peakcheck.proofs.problem.CountedInstance.{counting-IsInstance}

-- a layer below 1 is the only one
only_layer : (m : LayerNo) → m.0 < 1 → m ≡ only
only_layer m below = let none : m.0 ≡ 0 = omega arith in ap (λ (n : ℕ). record { 0 = n }) none

module _ (p : Problem) (l : LayerNo) where
  abbrev q : Problem
  q = counting p l.0

  -- the blocks of a plan have numbers of the counting problem, and the only layer
  plan_counted : (blocks : List LayerBlock) → IsPlan q blocks → All (λ b. AreCounted p l b.1) blocks
  plan_counted blocks plan k d at =
      All-weaker (λ (i : TripNo). i.0 < length q.trips) (λ (i : TripNo). i.0 < length (permitted_trips p l.0))
      (λ i within. omega (arith, within, count_is (counted_fleet p) p l.0)) (get_or blocks k d).1
      (plan.each_block k d at).of_instance

  of_only : (b : LayerBlock) → IsBlock q b.0 b.1 → IsBlock q only b.1
  of_only b is = subst (λ (m : LayerNo). IsBlock q m b.1) (only_layer b.0 is.layer) is

  abbrev pub own_of : LayerBlock → LayerBlock
  own_of b = (l, own_trips p l.0 b.1)

  -- a plan runs all that the layer may run
  plan_runs : l.0 < length p.layers → (blocks : List LayerBlock) → IsPlan q blocks → RunAll p l (own_blocks p l blocks)
  plan_runs layer blocks plan = record {
    each_block = All-map (λ (b : LayerBlock). (b.0 ≡ l) × IsBlock p l b.1) own_of blocks
        (λ k d at. (
          refl,
          block_own p l (counted_fleet p) (get_or blocks k d).1 (plan_counted blocks plan k d at) layer
              (of_only (get_or blocks k d) (plan.each_block k d at)),
        ));
    once = λ i within may.
        let at = placed p l.0 i (has_number p l.0 i within may) in
        let here : place_in p l.0 i < length q.trips = omega (arith, at.0, count_is (counted_fleet p) p l.0) in
        subst (λ (n : ℕ). times_run (own_blocks p l blocks) n ≡ 1) at.1
        (times_own p l blocks (place_in p l.0 i) (plan_counted blocks plan) at.0 ∙ plan.once (place_in p l.0 i) here);
  }

  -- a plan costs as much as it is long
  sum_ones : (f : LayerBlock → ℕ) (blocks : List LayerBlock) → All (λ b. f b ≡ 1) blocks
      → sum_by f blocks ≡ length blocks
  sum_ones f [] each = refl
  sum_ones f (b ∷ blocks) each =
      let rest = sum_ones f blocks (All-tail (λ (c : LayerBlock). f c ≡ 1) b blocks each) in
      let here = All-head (λ (c : LayerBlock). f c ≡ 1) b blocks each in
      omega (arith, rest, here, sum_by-cons f b blocks)

  plan_costs : (blocks : List LayerBlock) → IsPlan q blocks → plan_cost q blocks ≡ length blocks
  plan_costs blocks plan =
      sum_ones (λ b. block_cost q b.0 b.1) blocks
      (λ k d at.
      let b = get_or blocks k d in
      ap (λ (m : LayerNo). block_cost q m b.1) (only_layer b.0 (plan.each_block k d at).layer)
      ∙ costs_one p l (counted_fleet p) b.1)

  -- the number of a trip among those that the layer may run
  abbrev there : TripNo → TripNo
  there i = numbered (place_in p l.0 i.0)

  abbrev there_of : LayerBlock → LayerBlock
  there_of b = (only, map there b.1)

  abbrev AmongThem : List TripNo → Type 0
  AmongThem trips = All (λ i. Contains (permitted_trips p l.0) i.0) trips

  trips_back : (trips : List TripNo) → AmongThem trips → own_trips p l.0 (map there trips) ≡ trips
  trips_back [] among = refl
  trips_back (i ∷ trips) among =
      let rest = trips_back trips (All-tail (λ (t : TripNo). Contains (permitted_trips p l.0) t.0) i trips among) in
      let at = placed p l.0 i.0 (All-head (λ (t : TripNo). Contains (permitted_trips p l.0) t.0) i trips among) in
      let here : numbered (own_number p l.0 (place_in p l.0 i.0)) ≡ i = ap numbered at.1 in
      ap (λ (t : TripNo). t ∷ own_trips p l.0 (map there trips)) here ∙ ap (λ (ts : List TripNo). i ∷ ts) rest

  abbrev IsOwn : LayerBlock → Type 0
  IsOwn b = (b.0 ≡ l) × IsBlock p l b.1

  block_among : (b : LayerBlock) → IsOwn b → AmongThem b.1
  block_among b is k d at = has_number p l.0 (get_or b.1 k d).0 (is.1.of_instance k d at) (is.1.permitted k d at)

  blocks_back : (list : List LayerBlock) → All IsOwn list → own_blocks p l (map there_of list) ≡ list
  blocks_back [] each = refl
  blocks_back (b ∷ list) each =
      let rest = blocks_back list (All-tail IsOwn b list each) in
      let is = All-head IsOwn b list each in
      let trips = trips_back b.1 (block_among b is) in
      let here : own_of (there_of b) ≡ b = λ i. (sym is.0 i, trips i) in
      ap (λ (c : LayerBlock). c ∷ own_blocks p l (map there_of list)) here
      ∙ ap (λ (cs : List LayerBlock). b ∷ cs) rest

  module _ (list : List LayerBlock) (run : RunAll p l list) where
    abbrev back : List LayerBlock
    back = map there_of list

    back_counted : All (λ b. AreCounted p l b.1) back
    back_counted = All-map (λ (b : LayerBlock). AreCounted p l b.1) there_of list
        (λ k d at. All-map (λ (t : TripNo). t.0 < length (permitted_trips p l.0)) there (get_or list k d).1
        (λ j e inside.
        (placed p l.0 (get_or (get_or list k d).1 j e).0 (block_among (get_or list k d) (run.each_block k d at) j e
        inside)).0))

    -- with vehicles enough the blocks are a plan
    back_plan : (fleet : ℕ) → length list ≤ fleet → IsPlan (counting_with fleet p l.0) back
    back_plan fleet enough = record {
      each_block = All-map (λ (b : LayerBlock). IsBlock (counting_with fleet p l.0) b.0 b.1) there_of list
          (λ k d at.
          let b = get_or list k d in
          let is = run.each_block k d at in
          block_there p l fleet (map there b.1)
          (All-map (λ (t : TripNo). t.0 < length (permitted_trips p l.0)) there b.1
          (λ j e inside. (placed p l.0 (get_or b.1 j e).0 (block_among b is j e inside)).0))
          (subst (IsBlock p l) (sym (trips_back b.1 (block_among b is))) is.1));
      once = λ k within.
          let here : k < length (permitted_trips p l.0) = omega (arith, within, count_is fleet p l.0) in
          sym (times_own p l back k back_counted here)
          ∙ ap (λ (bs : List LayerBlock). times_run bs (own_number p l.0 k)) (blocks_back list run.each_block)
          ∙ run.once (own_number p l.0 k) (all_within p l.0 k 0 here) (all_permitted p l.0 k 0 here);
      fleet = fleet_enough fleet enough;
    }
      where
        fleet_enough : (fleet : ℕ) → length list ≤ fleet → (m : ℕ) → m < 1
            → vehicles_used back m ≤ (layer_of (counting_with fleet p l.0) m).fleet
        fleet_enough fleet enough zero within = omega (
          arith,
          enough,
          count_by-le-length (λ (b : LayerBlock). eqb b.0.0 0) back,
          length-map list there_of,
        )
        fleet_enough fleet enough (suc m) within = absurd (omega arith)

    -- and there are enough, since no trip stands twice
    enough_vehicles : IsInstance p → length list ≤ counted_fleet p
    enough_vehicles instance =
        let plan = back_plan (length list) (omega arith) in
        let trips = plan_trips (counting_with (length list) p l.0) back plan in
        let blocks = blocks-le-trips back
        (λ k d at. (plan.each_block k d at).some_trip) in
        omega (
          arith,
          trips,
          blocks,
          count_is (length list) p l.0,
          few_permitted p l.0,
          instance.few_trips,
          length-map list there_of,
        )

  -- the law
  pub counts_vehicles : IsInstance p → l.0 < length p.layers → CountsVehicles p l
  counts_vehicles instance layer = record {
    instance = counting-IsInstance p l.0 instance layer;
    runs = plan_runs layer;
    plans = λ list run. (
      map there_of list,
      back_plan list run (counted_fleet p) (enough_vehicles list run instance),
      blocks_back list run.each_block,
    );
    cost = plan_costs;
  }

  module _ (law : CountsVehicles p l) where
    own_length : (blocks : List LayerBlock) → length (own_blocks p l blocks) ≡ length blocks
    own_length blocks = length-map blocks own_of

    -- a peak is a least cost
    cost_of_peak : (n : ℕ) → IsPeak p l n → IsLeastCost q n
    cost_of_peak n peak =
        let plan = law.plans peak.blocks peak.run in
        record {
          blocks = plan.0;
          plan = plan.1;
          cost = law.cost plan.0 plan.1 ∙ sym (own_length plan.0) ∙ ap length plan.2 ∙ peak.count;
          least = λ others is.
              let least = peak.least (own_blocks p l others) (law.runs others is) in
              omega (arith, least, own_length others, law.cost others is);
        }

    -- and a least cost is a peak
    peak_of_cost : (n : ℕ) → IsLeastCost q n → IsPeak p l n
    peak_of_cost n cost = record {
      blocks = own_blocks p l cost.blocks;
      run = law.runs cost.blocks cost.plan;
      count = own_length cost.blocks ∙ sym (law.cost cost.blocks cost.plan) ∙ cost.cost;
      least = λ others run.
          let plan = law.plans others run in
          let least = cost.least plan.0 plan.1 in
          let size : length (own_blocks p l plan.0) ≡ length others = ap length plan.2 in
          omega (arith, least, own_length plan.0, size, law.cost plan.0 plan.1);
    }

    pub least_costs : IsALeastCost p l
    least_costs = record {
      peak = λ n. (cost_of_peak n, peak_of_cost n);
      none = (
        (λ none blocks plan. none (own_blocks p l blocks) (law.runs blocks plan)),
        (λ none list run. let plan = law.plans list run in none plan.0 plan.1),
      );
    }
