-- The blocks of a plan, layer by layer, cost no less than the least that each layer's blocks can.
use Rattle.std.proofs.Common.{◌≡◌, ◌≢◌, ℕ, zero, suc, ◌+◌, ◌*◌, ◌<◌, ◌≤◌, ◌==◌, Bool, true, false, cond, List, [], ◌∷◌, ◌++◌, length, get_or, map, refl, sym, ap, ◌∙◌, subst, arith, inl, inr, ℤ, pos, ◌+ℤ◌, ◌-ℤ◌, ◌*ℤ◌, ◌≤ℤ◌}
use Rattle.std.specs.Prelude.{filter}
use Rattle.std.specs.List.{All, range_with_len}
use Rattle.std.proofs.lemmas.Bool.{cases_eq, eq-eqb, eqb-true, ne_eqb}
use Rattle.std.proofs.lemmas.Int.{ints}
use Rattle.std.proofs.lemmas.List.Elements.{All-filter, All-head, All-tail, filter_passes}
use Rattle.std.proofs.lemmas.List.FromFn.{fill_by_all}
use Rattle.std.proofs.lemmas.List.Sums.{length-filter, sum_by-append, sum_by-cons}
use Rattle.vs_types.specs.LayerSet.{Has}
use Rattle.vs_types.specs.declared.layer_set.LayerSet.{LayerSet}
use Rattle.vs_types.specs.declared.numbers.LayerNo.{LayerNo}
use Rattle.vs_types.specs.declared.numbers.TripNo.{TripNo}
use Rattle.vs_types.proofs.CallerLemmas.{times_one}
use Rattle.vs_instance.specs.Problem.{Problem}
use Rattle.vs_instance.specs.Blocks.{IsBlock, block_cost}
use Rattle.vs_instance.specs.Lagrangian.{AreBlocksOf, IsLagrangianValue, multiplier_of, paid_for, reduced_cost, total}
use Rattle.vs_instance.specs.Laws.{LagrangianValuesBoundPlans}
use Rattle.vs_instance.specs.Plan.{LayerBlock, IsPlan, all_trips, times_run}
use Rattle.vs_instance.specs.Restriction.{IsWithin, set_of}
use Rattle.vs_instance.proofs.costs.Totals.{total-by_count, total-nothing, total-range_le}
use Rattle.vs_instance.proofs.costs.TripsOfBlocks.{All-all_trips}

abbrev IsBlockOf : Problem → LayerBlock → Type 0
IsBlockOf p b = IsBlock p b.0 b.1

-- a total over numbers in order, of which one counts more
module _ (f more : ℕ → ℤ) (k : ℕ) (rise : ℤ) (here : more k ≡ f k +ℤ rise)
    (others : (j : ℕ) → j ≢ k → more j ≡ f j) where
  -- past it the total is the same
  same_after : (a n : ℕ) → k < a → total (map more (range_with_len a n)) ≡ total (map f (range_with_len a n))
  same_after a zero past = refl
  same_after a (suc n) past =
      let first = others a (λ is. omega arith) in
      let rest = same_after (a + 1) n (omega arith) in
      omega (arith, ints, first, rest)

  -- from before it on the total rises by as much
  one_rises : (a n : ℕ) → a ≤ k → k < a + n
      → total (map more (range_with_len a n)) ≡ total (map f (range_with_len a n)) +ℤ rise
  one_rises a zero from within = absurd (omega arith)
  one_rises a (suc n) from within =
      elim (cases_eq a k) [
        | inl same ↦
            let first = subst (λ (j : ℕ). more j ≡ f j +ℤ rise) (sym same) here in
            let rest = same_after (a + 1) n (omega arith) in
            omega (arith, ints, first, rest)
        | inr other ↦
            let first = others a other in
            let rest = one_rises (a + 1) n (omega arith) (omega arith) in
            omega (arith, ints, first, rest)
      ]

-- a total, by a key that each element has
module _ {A : Type 0} (f : A → ℤ) (key : A → ℕ) where
  -- the part of one key
  abbrev share : List A → ℕ → ℤ
  share xs k = total (map f (filter (λ x. key x == k) xs))

  -- the parts of all keys come to the total
  shared_out : (n : ℕ) (xs : List A) → All (λ x. key x < n) xs
      → total (map (share xs) (range_with_len 0 n)) ≡ total (map f xs)
  shared_out n [] within = total-nothing (range_with_len 0 n)
  shared_out n (x ∷ xs) within =
      let inside = All-head (λ (y : A). key y < n) x xs within in
      let rest = shared_out n xs (All-tail (λ (y : A). key y < n) x xs within) in
      let behind = λ (k : ℕ). filter (λ y. key y == k) xs in
      let kept = λ (k : ℕ) (b : Bool). total (map f (cond b (x ∷ behind k) (behind k))) in
      let own : share (x ∷ xs) (key x) ≡ f x +ℤ share xs (key x) =
      ap (kept (key x)) (eq-eqb (key x) (key x) refl) in
      let here : share (x ∷ xs) (key x) ≡ share xs (key x) +ℤ f x = omega (arith, ints, own) in
      let others : (j : ℕ) → j ≢ key x → share (x ∷ xs) j ≡ share xs j =
      λ j apart. ap (kept j) (ne_eqb (key x) j (λ same. apart (sym same))) in
      let more =
      one_rises (share xs) (share (x ∷ xs)) (key x) (f x) here others 0 n (omega arith) (omega arith) in
      omega (arith, ints, rest, more)

-- blocks that are kept run a trip no more often than all blocks do
kept_run : (test : LayerBlock → Bool) (blocks : List LayerBlock) (i : ℕ)
    → times_run (filter test blocks) i ≤ times_run blocks i
kept_run test [] i = omega arith
kept_run test (b ∷ blocks) i = either (test b) (kept_run test blocks i)
  where
    either : (t : Bool) → times_run (filter test blocks) i ≤ times_run blocks i
        → times_run (cond t (b ∷ filter test blocks) (filter test blocks)) i ≤ times_run (b ∷ blocks) i
    either true rest =
        let kept = sum_by-append (λ (j : TripNo). cond (j.0 == i) 1 0) b.1 (all_trips (filter test blocks)) in
        let all = sum_by-append (λ (j : TripNo). cond (j.0 == i) 1 0) b.1 (all_trips blocks) in
        omega (arith, rest, kept, all)
    either false rest =
        let all = sum_by-append (λ (j : TripNo). cond (j.0 == i) 1 0) b.1 (all_trips blocks) in
        omega (arith, rest, all)

module _ (p : Problem) (multipliers : List ℤ) where
  -- the cost of a block, less the multipliers of its trips
  abbrev reduced : LayerBlock → ℤ
  reduced b = pos (1000 * block_cost p b.0 b.1) -ℤ paid_for multipliers b.1

  -- what trips pay, list by list
  paid_for-append : (xs ys : List TripNo)
      → paid_for multipliers (xs ++ ys) ≡ paid_for multipliers xs +ℤ paid_for multipliers ys
  paid_for-append [] ys = omega (arith, ints)
  paid_for-append (x ∷ xs) ys = let rest = paid_for-append xs ys in omega (arith, ints, rest)

  -- block by block it comes to the same
  reduced_cost-is : (blocks : List LayerBlock) → reduced_cost p multipliers blocks ≡ total (map reduced blocks)
  reduced_cost-is [] = omega (arith, ints)
  reduced_cost-is (b ∷ blocks) =
      let rest = reduced_cost-is blocks in
      let cost = sum_by-cons (λ (c : LayerBlock). block_cost p c.0 c.1) b blocks in
      let paid = paid_for-append b.1 (all_trips blocks) in
      omega (arith, ints, rest, cost, paid)

  -- and trip by trip
  paid_for-is : (trips : List TripNo)
      → paid_for multipliers trips ≡ total (map (λ i. multiplier_of multipliers i.0) trips)
  paid_for-is [] = refl
  paid_for-is (i ∷ trips) = ap (λ (z : ℤ). multiplier_of multipliers i.0 +ℤ z) (paid_for-is trips)

-- a list's total, by the places of the list
total-by_place : (xs : List ℤ) (n : ℕ) → length xs ≡ n
    → total xs ≡ total (map (λ k. get_or xs k (pos 0)) (range_with_len 0 n))
total-by_place xs n long =
    ap total (fill_by_all (λ (k : ℕ). get_or xs k (pos 0)) xs n (pos 0) long (λ k inside. refl))

module _ (p : Problem) (sets : List LayerSet) (blocks : List LayerBlock) (plan : IsPlan p blocks)
    (keeps : IsWithin sets blocks) where
  -- the plan's blocks of one layer
  abbrev own : ℕ → List LayerBlock
  own l = filter (λ b. b.0.0 == l) blocks

  abbrev numbered : ℕ → LayerNo
  numbered l = record { 0 = l }

  -- their layer is that one
  own_layer : (l : ℕ) → All (λ b. b.0.0 ≡ l) (own l)
  own_layer l k d inside =
      let passes = filter_passes (λ (b : LayerBlock). b.0.0 == l) blocks k d inside in
      eqb-true (get_or (own l) k d).0.0 l passes

  -- they are blocks that the layer may run within the sets
  own_blocks : (l : ℕ) → l < length p.layers
      → AreBlocksOf p (numbered l) (λ i. Has (set_of sets i) l) (own l)
  own_blocks l below = record {
    each_block =
        λ k d inside. let b = get_or (own l) k d in
        let is : b.0 ≡ numbered l = ap numbered (own_layer l k d inside) in (
          is,
          subst (λ (m : LayerNo). IsBlock p m b.1) is
              (All-filter (λ (c : LayerBlock). c.0.0 == l) (IsBlockOf p) blocks plan.each_block k d inside),
        );
    fleet =
        let used = length-filter (λ (b : LayerBlock). b.0.0 == l) blocks in
        let few = plan.fleet l below in omega (arith, used, few);
    at_most_once =
        λ i inside. let once = plan.once i inside in
        let fewer = kept_run (λ (b : LayerBlock). b.0.0 == l) blocks i in omega (arith, once, fewer);
    within =
        All-all_trips (λ (i : TripNo). Has (set_of sets i.0) l) (own l)
        (λ k d inside. let b = get_or (own l) k d in
        subst (λ (m : ℕ). All (λ (i : TripNo). Has (set_of sets i.0) m) b.1) (own_layer l k d inside)
        (All-filter (λ (c : LayerBlock). c.0.0 == l)
        (λ (c : LayerBlock). All (λ (i : TripNo). Has (set_of sets i.0) c.0.0) c.1) blocks keeps k d inside));
  }

  -- the lows of the layers come to no more than what the plan costs less what its trips pay
  lows_below : (multipliers : List ℤ) (value : ℤ) (is : IsLagrangianValue p sets multipliers value)
      → total is.lows ≤ℤ reduced_cost p multipliers blocks
  lows_below multipliers value is =
      let by_place = total-by_place is.lows (length p.layers) is.each_layer in
      let each =
      total-range_le (λ l. get_or is.lows l (pos 0))
      (share (reduced p multipliers) (λ (b : LayerBlock). b.0.0) blocks) 0 (length p.layers)
      (λ l from within. let below : l < length p.layers = omega arith in
      let least = (is.are_lows (numbered l) below).least (own l) (own_blocks l below) in
      let parts = reduced_cost-is p multipliers (own l) in
      omega (arith, ints, least, parts)) in
      let shares =
      shared_out (reduced p multipliers) (λ (b : LayerBlock). b.0.0) (length p.layers) blocks
      (λ k d inside. (plan.each_block k d inside).layer) in
      let whole = reduced_cost-is p multipliers blocks in
      omega (arith, ints, by_place, each, shares, whole)

  -- each trip's multiplier is paid once
  multipliers_paid : (multipliers : List ℤ) → length multipliers ≡ length p.trips
      → total multipliers ≤ℤ paid_for multipliers (all_trips blocks)
  multipliers_paid multipliers long =
      let g = multiplier_of multipliers in
      let by_place = total-by_place multipliers (length p.trips) long in
      let inside =
      All-all_trips (λ (i : TripNo). i.0 < length p.trips) blocks
      (λ k d inside. (plan.each_block k d inside).of_instance) in
      let by_trip = total-by_count g (λ (i : TripNo). i.0) (length p.trips) (all_trips blocks) inside in
      let once = total-range_le g (λ i. g i *ℤ pos (times_run blocks i)) 0 (length p.trips)
      (λ i from within. let is = ap (λ (n : ℕ). g i *ℤ pos n) (plan.once i (omega arith)) ∙ times_one (g i) in
      omega (arith, ints, is)) in
      let paid = paid_for-is p multipliers (all_trips blocks) in
      omega (arith, ints, by_place, by_trip, once, paid)

-- the law
pub values_bound_plans : LagrangianValuesBoundPlans
values_bound_plans p sets multipliers value long is blocks plan keeps =
    let lows = lows_below p sets blocks plan keeps multipliers value is in
    let paid = multipliers_paid p sets blocks plan keeps multipliers long in
    let sum = is.value_is in
    omega (arith, ints, lows, paid, sum)
