-- The plans of a part are those of the instance within the case, at the same cost.
use Rattle.std.proofs.Common.{◌≡◌, ℕ, ◌+◌, ◌<◌, ◌≤◌, suc, List, [], ◌∷◌, length, refl, sym, ◌∙◌, subst, arith}
use Rattle.std.specs.List.{All, sum_by}
use Rattle.std.specs.Option.{IsSomeAnd}
use Rattle.std.specs.Prelude.{IsSome}
use Rattle.std.proofs.lemmas.List.Sums.{sum_by-cons}
use Rattle.vs_types.specs.LayerSet.{Has}
use Rattle.vs_types.specs.declared.layer_set.LayerSet.{LayerSet}
use Rattle.vs_types.specs.declared.numbers.LayerNo.{LayerNo}
use Rattle.vs_types.specs.declared.numbers.TripNo.{TripNo}
use Rattle.vs_instance.specs.declared.trip.Trip.{Trip}
use Rattle.vs_instance.specs.declared.way.Way.{Way}
use Rattle.vs_instance.specs.BlockPieces.{cost_of, links_between, pieces_cost}
use Rattle.vs_instance.specs.Blocks.{IsBlock, block_cost, first_of, last_of}
use Rattle.vs_instance.specs.Instance.{IsInstance}
use Rattle.vs_instance.specs.Narrowed.{narrowed}
use Rattle.vs_instance.specs.Pieces.{trip_piece}
use Rattle.vs_instance.specs.Plan.{IsPlan, LayerBlock, plan_cost}
use Rattle.vs_instance.specs.Problem.{Problem}
use Rattle.vs_instance.specs.Restriction.{IsRestriction, IsWithin, set_of}
use Rattle.vs_instance.specs.Ways.{Connects, HasPullIn, HasPullOut, Permitted, layer_of, trip_of, way}
use Rattle.vs_instance.proofs.CallerLemmas.{blocks_cost_their_pieces, length-narrowed, narrowed-IsInstance, trip_of-narrowed}
use Rattle.vs_resume.specs.PartLaws.{ArePlansOfPart}
use Rattle.vs_resume.proofs.Pieces.{in_same, link_same, out_same, to_instance, to_part, trip_same}

module _ (p : Problem) (sets : List LayerSet) where
  abbrev part : Problem
  part = narrowed p sets

  -- moves of the part and of the instance
  abbrev connects_by : Trip → Trip → Type 0
  connects_by t u = IsSomeAnd (way p t.to.0 u.from.0) (λ (w : Way). t.end + w.minutes ≤ u.start)

  connects_to : (i j : ℕ) → Connects part i j → Connects p i j
  connects_to i j is =
      to_instance p sets (λ u. connects_by (trip_of p i) u) (λ u layers h. h) j
      (to_instance p sets (λ t. connects_by t (trip_of part j)) (λ t layers h. h) i is)

  connects_from : (i j : ℕ) → Connects p i j → Connects part i j
  connects_from i j is =
      to_part p sets (λ t. connects_by t (trip_of part j)) (λ t layers h. h) i
      (to_part p sets (λ u. connects_by (trip_of p i) u) (λ u layers h. h) j is)

  module _ (l : ℕ) where
    abbrev leaves_for_trip : Trip → Type 0
    leaves_for_trip t = IsSomeAnd (way p (layer_of p l).depot.0 t.from.0) (λ (w : Way). w.minutes ≤ t.start)

    abbrev comes_back : Trip → Type 0
    comes_back t = IsSome (way p t.to.0 (layer_of p l).depot.0)

    out_to : (i : ℕ) → HasPullOut part l i → HasPullOut p l i
    out_to i is = to_instance p sets leaves_for_trip (λ t layers h. h) i is

    out_from : (i : ℕ) → HasPullOut p l i → HasPullOut part l i
    out_from i is = to_part p sets leaves_for_trip (λ t layers h. h) i is

    in_to : (i : ℕ) → HasPullIn part l i → HasPullIn p l i
    in_to i is = to_instance p sets comes_back (λ t layers h. h) i is

    in_from : (i : ℕ) → HasPullIn p l i → HasPullIn part l i
    in_from i is = to_part p sets comes_back (λ t layers h. h) i is

    -- a layer of a trip's set may run it in the part, and no other one
    has_from : (i : ℕ) → i < length p.trips → Permitted part l i → Has (set_of sets i) l
    has_from i within is = subst (λ (t : Trip). Has t.layers l) (trip_of-narrowed p sets i within) is

    has_to : (i : ℕ) → i < length p.trips → Has (set_of sets i) l → Permitted part l i
    has_to i within is = subst (λ (t : Trip). Has t.layers l) (sym (trip_of-narrowed p sets i within)) is

  module _ (restricts : IsRestriction p sets) where
    inside : (i : ℕ) → i < length part.trips → i < length p.trips
    inside i within = omega (arith, within, length-narrowed p sets)

    block_to : (l : LayerNo) (trips : List TripNo) → IsBlock part l trips → IsBlock p l trips
    block_to l trips block = record {
      layer = block.layer;
      some_trip = block.some_trip;
      of_instance = λ k d within. inside _ (block.of_instance k d within);
      permitted = λ k d within.
          let of_trip = inside _ (block.of_instance k d within) in
          restricts.permitted _ l.0 of_trip (has_from l.0 _ of_trip (block.permitted k d within));
      connected = λ k d within. connects_to _ _ (block.connected k d within);
      pull_out = out_to l.0 (first_of trips) block.pull_out;
      pull_in = in_to l.0 (last_of trips) block.pull_in;
    }

    block_within : (l : LayerNo) (trips : List TripNo) → IsBlock part l trips
        → All (λ i. Has (set_of sets i.0) l.0) trips
    block_within l trips block k d within =
        has_from l.0 _ (inside _ (block.of_instance k d within)) (block.permitted k d within)

    block_from : (l : LayerNo) (trips : List TripNo) → IsBlock p l trips → All (λ i. Has (set_of sets i.0) l.0) trips
        → IsBlock part l trips
    block_from l trips block own = record {
      layer = block.layer;
      some_trip = block.some_trip;
      of_instance = λ k d within. omega (arith, block.of_instance k d within, length-narrowed p sets);
      permitted = λ k d within. has_to l.0 _ (block.of_instance k d within) (own k d within);
      connected = λ k d within. connects_from _ _ (block.connected k d within);
      pull_out = out_from l.0 (first_of trips) block.pull_out;
      pull_in = in_from l.0 (last_of trips) block.pull_in;
    }

    plan_to : (blocks : List LayerBlock) → IsPlan part blocks → IsPlan p blocks × IsWithin sets blocks
    plan_to blocks plan = (
      record {
        each_block = λ k d within. block_to _ _ (plan.each_block k d within);
        once = λ i within. plan.once i (omega (arith, within, length-narrowed p sets));
        fleet = plan.fleet;
      },
      λ k d within. block_within _ _ (plan.each_block k d within),
    )

    plan_from : (blocks : List LayerBlock) → IsPlan p blocks × IsWithin sets blocks → IsPlan part blocks
    plan_from blocks given = record {
      each_block = λ k d within. block_from _ _ (given.0.each_block k d within) (given.1 k d within);
      once = λ i within. given.0.once i (inside i within);
      fleet = given.0.fleet;
    }

    links_same : (l : LayerNo) (trips : List TripNo) → links_between part l trips ≡ links_between p l trips
    links_same l [] = refl
    links_same l (i ∷ []) = refl
    links_same l (i ∷ j ∷ rest) = λ k. link_same p sets l.0 i.0 j.0 k ∷ links_same l (j ∷ rest) k

    trips_same : (l : LayerNo) (trips : List TripNo)
        → sum_by (λ i. trip_piece part l.0 i.0) trips ≡ sum_by (λ i. trip_piece p l.0 i.0) trips
    trips_same l trips = λ k. sum_by (λ (i : TripNo). trip_same p sets l.0 i.0 k) trips

    pieces_same : (l : LayerNo) (trips : List TripNo) → pieces_cost part l trips ≡ pieces_cost p l trips
    pieces_same l trips = λ k. cost_of (out_same p sets l.0 (first_of trips) k) + trips_same l trips k
        + sum_by cost_of (links_same l trips k) + cost_of (in_same p sets l.0 (last_of trips) k)

    module _ (is : IsInstance p) where
      block_same : (l : LayerNo) (trips : List TripNo) → IsBlock part l trips
          → block_cost part l trips ≡ block_cost p l trips
      block_same l trips block =
          blocks_cost_their_pieces part l trips (narrowed-IsInstance p sets is restricts) block
          ∙ pieces_same l trips ∙ sym (blocks_cost_their_pieces p l trips is (block_to l trips block))

      blocks_same : (blocks : List LayerBlock) → All (λ b. IsBlock part b.0 b.1) blocks
          → plan_cost part blocks ≡ plan_cost p blocks
      blocks_same [] each = refl
      blocks_same (b ∷ blocks) each =
          let first = block_same b.0 b.1 (each 0 b (omega arith)) in
          let others = blocks_same blocks (λ k d within. each (suc k) d (omega arith)) in
          let own = sum_by-cons (λ (c : LayerBlock). block_cost part c.0 c.1) b blocks in
          let whole = sum_by-cons (λ (c : LayerBlock). block_cost p c.0 c.1) b blocks in
          own ∙ (λ k. first k + others k) ∙ sym whole

      pub plans_of_part : (blocks : List LayerBlock) → ArePlansOfPart p sets blocks
      plans_of_part blocks = record {
        plans = (plan_to blocks, plan_from blocks);
        cost = λ plan. blocks_same blocks plan.each_block;
      }
