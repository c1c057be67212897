-- The blocks that a layer may run are finitely many, so that some cost least.
use Rattle.std.proofs.Common.{◌≡◌, inl, inr, ℕ, ◌<◌, ◌≤◌, List, [], ◌∷◌, length, get_or, map, refl, sym, subst, arith, ℤ, pos, ◌*ℤ◌}
use Rattle.std.specs.Prelude.{Contains}
use Rattle.std.specs.List.{range_with_len}
use Rattle.std.proofs.lemmas.Int.{ints}
use Rattle.std.proofs.lemmas.List.Concat.{length-flat_map}
use Rattle.std.proofs.lemmas.List.Elements.{All-nil}
use Rattle.std.proofs.lemmas.List.FromFn.{length-range_with_len}
use Rattle.std.proofs.lemmas.List.Sums.{get_or-le-sum_by}
use Rattle.vs_types.specs.declared.numbers.LayerNo.{LayerNo}
use Rattle.vs_types.specs.declared.numbers.TripNo.{TripNo}
use Rattle.vs_instance.specs.Problem.{Problem}
use Rattle.vs_instance.specs.Lagrangian.{AreBlocksOf, IsLowOf, reduced_cost, total}
use Rattle.vs_instance.specs.Ways.{layer_of}
use Rattle.vs_instance.specs.Plan.{LayerBlock, all_trips, times_run}
use Rattle.vs_instance.proofs.costs.LayerDuality.{IsOwnBlock, trips_inside}
use Rattle.vs_instance.proofs.costs.Totals.{total-by_count, total-range_le}
use Rattle.vs_instance.proofs.lagrangian.DecidedBlocks.{dec_blocks_of}
use Rattle.vs_instance.proofs.lagrangian.FiniteLists.{Contains-lists_upto, Contains-map, Contains-range, least_among, lists_upto}

-- as many ones as there are elements add up to how many there are
total-ones : {A : Type 0} (xs : List A) → total (map (λ x. pos 1) xs) ≡ pos (length xs)
total-ones [] = refl
total-ones (x ∷ xs) = let rest = total-ones xs in omega (arith, ints, rest)

-- the numbers of the first so many trips
abbrev trip_numbers : ℕ → List TripNo
trip_numbers n = map (λ k. record { 0 = k }) (range_with_len 0 n)

-- the number of each of those trips is among them
Contains-trip_numbers : (n : ℕ) (i : TripNo) → i.0 < n → Contains (trip_numbers n) i
Contains-trip_numbers n i inside =
    Contains-map (λ (k : ℕ). let trip : TripNo = record { 0 = k } in trip) (range_with_len 0 n) i.0
    (Contains-range n i.0 inside)

module _ (p : Problem) (l : LayerNo) (May : ℕ → Type 0) where
  -- trips that are run no more than once each are no more than the instance has
  few_trips : (blocks : List LayerBlock) → AreBlocksOf p l May blocks → length (all_trips blocks) ≤ length p.trips
  few_trips blocks are =
      let by_trip =
      total-by_count (λ k. pos 1) (λ (i : TripNo). i.0) (length p.trips) (all_trips blocks)
      (trips_inside p l blocks are.each_block) in
      let once = total-range_le (λ k. pos 1 *ℤ pos (times_run blocks k)) (λ k. pos 1) 0 (length p.trips)
      (λ k from below. let few = are.at_most_once k (omega arith) in omega (arith, ints)) in
      let run = total-ones (all_trips blocks) in
      let all = total-ones (range_with_len 0 (length p.trips)) in
      let long = length-range_with_len 0 (length p.trips) in
      omega (arith, ints, by_trip, once, run, all, long)

  -- lists of trips, of which every block of the layer is one
  abbrev trip_lists : List (List TripNo)
  trip_lists = lists_upto (trip_numbers (length p.trips)) (length p.trips)

  -- the layer's blocks with such trips, and lists of them, of which all that the layer may run are some
  abbrev own_block_list : List LayerBlock
  own_block_list = map (λ trips. (l, trips)) trip_lists

  abbrev block_lists : List (List LayerBlock)
  block_lists = lists_upto own_block_list (layer_of p l.0).fleet

  -- each block of the layer that is no longer than the list of trips is among them
  own_block_among : (b : LayerBlock) → IsOwnBlock p l b → length b.1 ≤ length p.trips
      → Contains own_block_list b
  own_block_among b own short =
      let numbers = trip_numbers (length p.trips) in
      let each = λ (k : ℕ) (d : TripNo) (inside : k < length b.1).
      Contains-trip_numbers (length p.trips) (get_or b.1 k d) (own.1.of_instance k d inside) in
      let lists = Contains-lists_upto numbers b.1 (length p.trips) short each in
      subst (λ (m : LayerNo). Contains {X = LayerBlock} own_block_list (m, b.1)) (sym own.0)
      (Contains-map (λ (trips : List TripNo). let block : LayerBlock = (l, trips) in block) trip_lists b.1 lists)

  -- so all blocks that the layer may run are among those lists
  all_among : (blocks : List LayerBlock) → AreBlocksOf p l May blocks → Contains block_lists blocks
  all_among blocks are =
      Contains-lists_upto own_block_list blocks (layer_of p l.0).fleet are.fleet
      (λ k d inside.
      let few = few_trips blocks are in
      let sum = length-flat_map (λ (b : LayerBlock). b.1) blocks in
      let one = get_or-le-sum_by (λ (b : LayerBlock). length b.1) blocks k d inside in
      own_block_among (get_or blocks k d) (are.each_block k d inside) (omega (arith, few, sum, one)))

  -- no block at all is what every layer may run
  none_are : AreBlocksOf p l May []
  none_are = record {
    each_block = All-nil (IsOwnBlock p l);
    fleet = omega arith;
    at_most_once = λ i inside. omega arith;
    within = All-nil (λ (i : TripNo). May i.0);
  }

  -- so of the blocks that the layer may run some cost least
  pub low_exists : ((i : ℕ) → Dec (May i)) → (multipliers : List ℤ) → (low : ℤ) × IsLowOf p l May multipliers low
  low_exists each multipliers =
      elim (least_among (AreBlocksOf p l May) (reduced_cost p multipliers) (dec_blocks_of p l May each) block_lists) [
        | inl (blocks, found) ↦ (
          reduced_cost p multipliers blocks,
          record {
            blocks = blocks;
            are_blocks = found.holds;
            cost = refl;
            least = λ others are. found.least others (all_among others are) are;
          },
        )
        | inr none ↦ absurd (none [] (all_among [] none_are) none_are)
      ]
