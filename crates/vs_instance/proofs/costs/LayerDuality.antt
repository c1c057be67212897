-- Where prices hold in a layer, the trips of its blocks pay no more than the blocks cost and their vehicles pay.
use Rattle.std.proofs.Common.{◌≡◌, ℕ, ◌+◌, ◌<◌, Bool, true, false, List, [], ◌∷◌, length, map, sym, ap, ◌∙◌, subst, arith, Option, Some, ℤ, pos, ◌+ℤ◌, ◌-ℤ◌, ◌*ℤ◌, ◌≤ℤ◌}
use Rattle.std.specs.Prelude.{IfSome}
use Rattle.std.specs.List.{All, range_with_len}
use Rattle.std.proofs.lemmas.Int.{ints}
use Rattle.std.proofs.lemmas.List.Elements.{All-head, All-tail, All-nil, All-append}
use Rattle.std.proofs.lemmas.List.Sums.{sum_by-cons}
use Rattle.vs_types.specs.declared.numbers.LayerNo.{LayerNo}
use Rattle.vs_types.specs.declared.numbers.TripNo.{TripNo}
use Rattle.vs_types.proofs.CallerLemmas.{times_le, times_more, times_none}
use Rattle.vs_instance.specs.Problem.{Problem}
use Rattle.vs_instance.specs.Instance.{IsInstance}
use Rattle.vs_instance.specs.Lagrangian.{AreBlocksOf, total}
use Rattle.vs_instance.specs.Ways.{layer_of}
use Rattle.vs_instance.specs.Pieces.{out_piece, trip_piece, link_piece, in_piece}
use Rattle.vs_instance.specs.Blocks.{IsBlock, last_of, block_cost}
use Rattle.vs_instance.specs.BlockPieces.{cost_of, links_between}
use Rattle.vs_instance.specs.HoldingTable.{HoldsInLayer, price_of, scaled}
use Rattle.vs_instance.specs.Plan.{LayerBlock, all_trips, plan_cost, times_run}
use Rattle.vs_instance.proofs.costs.PieceLemmas.{out_taken, in_taken}
use Rattle.vs_instance.proofs.costs.Links.{link_taken}
use Rattle.vs_instance.proofs.costs.BlockPieces.{IsChain, chain_of_block, first_of_chain, last_of_chain, last_trip, last_of-is, trips_cost, links_cost, blocks_cost_their_pieces}
use Rattle.vs_instance.proofs.costs.Totals.{total-by_count, total-map_append}

-- costs are added before or after they are scaled
pub scaled-add : (ray : Bool) (a b : ℕ) → scaled ray (a + b) ≡ scaled ray a +ℤ scaled ray b
scaled-add true a b = omega (arith, ints)
scaled-add false a b = omega (arith, ints)

-- the same of three costs
scaled-add_three : (ray : Bool) (a b c : ℕ) → scaled ray (a + b + c) ≡ scaled ray a +ℤ scaled ray b +ℤ scaled ray c
scaled-add_three ray a b c =
    let outer = scaled-add ray (a + b) c in
    let inner = scaled-add ray a b in
    omega (arith, ints)

-- nothing costs nothing
pub scaled-none : (ray : Bool) → scaled ray 0 ≡ pos 0
scaled-none true = omega (arith, ints)
scaled-none false = omega (arith, ints)

-- what is said of a piece is so of the one that there is
at_piece : (piece : Option ℕ) (c : ℕ) (P : ℕ → Type 0) → piece ≡ Some c → IfSome piece P → P c
at_piece piece c P is all = subst (λ (o : Option ℕ). IfSome o P) is all

-- the block is one of layer l
abbrev pub IsOwnBlock : Problem → LayerNo → LayerBlock → Type 0
IsOwnBlock p l b = (b.0 ≡ l) × IsBlock p l b.1

-- each trip of the blocks is one of the instance
pub trips_inside : (p : Problem) (l : LayerNo) (blocks : List LayerBlock) → All (IsOwnBlock p l) blocks
    → All (λ i. i.0 < length p.trips) (all_trips blocks)
trips_inside p l [] each = All-nil (λ (i : TripNo). i.0 < length p.trips)
trips_inside p l (b ∷ blocks) each =
    All-append (λ (i : TripNo). i.0 < length p.trips) b.1 (all_trips blocks)
    (All-head (IsOwnBlock p l) b blocks each).1.of_instance
    (trips_inside p l blocks (All-tail (IsOwnBlock p l) b blocks each))

module _ (p : Problem) (l : LayerNo) (ray : Bool) (into from : List ℤ) (vehicle : ℤ) where
  -- what a trip pays: the price for entering it and its own cost, less the price for leaving it
  abbrev pub pays : ℕ → ℤ
  pays i = (price_of into i +ℤ scaled ray (trip_piece p l.0 i)) -ℤ price_of from i

  -- what trips pay together
  abbrev pub paid_by : List TripNo → ℤ
  paid_by trips = total (map (λ i. pays i.0) trips)

  abbrev HoldsHere : Type 0
  HoldsHere = HoldsInLayer p l.0 ray into from vehicle

  -- trips in order pay no more than entering the first and leaving the last is worth beside what they cost
  chain_pays : HoldsHere → (i : TripNo) (rest : List TripNo) → IsChain p l (i ∷ rest)
      → paid_by (i ∷ rest)
      ≤ℤ (price_of into i.0 +ℤ scaled ray (trips_cost p l (i ∷ rest) + links_cost p l (i ∷ rest))
      -ℤ price_of from (last_trip i rest).0)
  chain_pays holds i [] chain =
      let alone : 0 + trip_piece p l.0 i.0 + 0 ≡ trip_piece p l.0 i.0 = omega arith in
      let cost = ap (scaled ray) alone in
      omega (arith, ints, cost)
  chain_pays holds i (j ∷ rest) chain =
      let next = first_of_chain p l j rest chain.3 in
      let link = link_taken p l i j chain.2 in
      let cost = cost_of (link_piece p l.0 i.0 j.0) in
      let is_cost = ap cost_of link.is in
      let move : price_of into j.0 ≤ℤ (price_of from i.0 +ℤ scaled ray cost) =
      subst (λ (c : ℕ). price_of into j.0 ≤ℤ (price_of from i.0 +ℤ scaled ray c)) (sym is_cost)
      (at_piece _ _ (λ (c : ℕ). price_of into j.0 ≤ℤ (price_of from i.0 +ℤ scaled ray c)) link.is
      (holds.links i.0 j.0 chain.0 next.0 chain.1 next.1)) in
      let after = chain_pays holds j rest chain.3 in
      let trips = sum_by-cons (λ (k : TripNo). trip_piece p l.0 k.0) i (j ∷ rest) in
      let links = sum_by-cons cost_of (link_piece p l.0 i.0 j.0) (links_between p l (j ∷ rest)) in
      let whole : trips_cost p l (i ∷ j ∷ rest) + links_cost p l (i ∷ j ∷ rest)
      ≡ trip_piece p l.0 i.0 + cost + (trips_cost p l (j ∷ rest) + links_cost p l (j ∷ rest)) =
      omega (arith, trips, links) in
      let parts =
      ap (scaled ray) whole
      ∙ scaled-add_three ray (trip_piece p l.0 i.0) cost (trips_cost p l (j ∷ rest) + links_cost p l (j ∷ rest)) in
      omega (arith, ints, move, after, parts)

  -- the trips of a block pay no more than the block costs and its vehicle pays
  pub block_pays : IsInstance p → HoldsHere → (trips : List TripNo) → IsBlock p l trips
      → paid_by trips ≤ℤ (vehicle +ℤ scaled ray (block_cost p l trips))
  block_pays instance holds [] block = absurd (omega (arith, block.some_trip))
  block_pays instance holds (i ∷ rest) block =
      let trips = i ∷ rest in
      let chain = chain_of_block p l trips block in
      let first = first_of_chain p l i rest chain in
      let last = last_of_chain p l i rest chain in
      let out = out_taken p l.0 i.0 block.pull_out in
      let back = in_taken p l.0 (last_of trips) block.pull_in in
      let out_cost = cost_of (out_piece p l.0 i.0) in
      let back_cost = cost_of (in_piece p l.0 (last_of trips)) in
      let enters : price_of into i.0 ≤ℤ (scaled ray out_cost +ℤ vehicle) =
      subst (λ (c : ℕ). price_of into i.0 ≤ℤ (scaled ray c +ℤ vehicle)) (sym (ap cost_of out.costs))
      (at_piece _ _ (λ (c : ℕ). price_of into i.0 ≤ℤ (scaled ray c +ℤ vehicle)) out.costs
      (holds.outs i.0 first.0 first.1)) in
      let same = sym (last_of-is i rest) in
      let at_last =
      subst (λ (k : ℕ). IfSome (in_piece p l.0 k) (λ c. pos 0 ≤ℤ (price_of from k +ℤ scaled ray c))) same
      (holds.ins (last_trip i rest).0 last.0 last.1) in
      let leaves : pos 0 ≤ℤ (price_of from (last_of trips) +ℤ scaled ray back_cost) =
      subst (λ (c : ℕ). pos 0 ≤ℤ (price_of from (last_of trips) +ℤ scaled ray c)) (sym (ap cost_of back.costs))
      (at_piece _ _ (λ (c : ℕ). pos 0 ≤ℤ (price_of from (last_of trips) +ℤ scaled ray c)) back.costs at_last) in
      let between =
      subst (λ (k : ℕ). paid_by trips
      ≤ℤ (price_of into i.0 +ℤ scaled ray (trips_cost p l trips + links_cost p l trips) -ℤ price_of from k)) same
      (chain_pays holds i rest chain) in
      let pieces = blocks_cost_their_pieces p l trips instance block in
      let whole : block_cost p l trips ≡ out_cost + (trips_cost p l trips + links_cost p l trips) + back_cost =
      omega (arith, pieces) in
      let parts =
      ap (scaled ray) whole
      ∙ scaled-add_three ray out_cost (trips_cost p l trips + links_cost p l trips) back_cost in
      omega (arith, ints, enters, leaves, between, parts)

  -- the trips of the layer's blocks pay no more than the blocks cost and a vehicle for each pays
  own_blocks_pay : IsInstance p → HoldsHere → (blocks : List LayerBlock) → All (IsOwnBlock p l) blocks
      → paid_by (all_trips blocks) ≤ℤ (vehicle *ℤ pos (length blocks) +ℤ scaled ray (plan_cost p blocks))
  own_blocks_pay instance holds [] each =
      let vehicles = times_none vehicle in
      let cost = scaled-none ray in
      omega (arith, ints, vehicles, cost)
  own_blocks_pay instance holds (b ∷ blocks) each =
      let block = All-head (IsOwnBlock p l) b blocks each in
      let here = subst (λ (m : LayerNo). paid_by b.1 ≤ℤ (vehicle +ℤ scaled ray (block_cost p m b.1))) (sym block.0)
      (block_pays instance holds b.1 block.1) in
      let rest = own_blocks_pay instance holds blocks (All-tail (IsOwnBlock p l) b blocks each) in
      let cost = sum_by-cons (λ (x : LayerBlock). block_cost p x.0 x.1) b blocks in
      let parts = ap (scaled ray) cost ∙ scaled-add ray (block_cost p b.0 b.1) (plan_cost p blocks) in
      let split = total-map_append (λ (i : TripNo). pays i.0) b.1 (all_trips blocks) in
      let vehicles = times_more vehicle (length blocks) in
      omega (arith, ints, here, rest, parts, split, vehicles)

  -- the trips that blocks of the layer run pay no more than the blocks cost and all its vehicles pay
  pub blocks_pay : IsInstance p → HoldsHere → (May : ℕ → Type 0) (blocks : List LayerBlock)
      → AreBlocksOf p l May blocks
      → total (map (λ i. pays i *ℤ pos (times_run blocks i)) (range_with_len 0 (length p.trips)))
      ≤ℤ (vehicle *ℤ pos (layer_of p l.0).fleet +ℤ scaled ray (plan_cost p blocks))
  blocks_pay instance holds May blocks are =
      let by_trip = total-by_count pays (λ (i : TripNo). i.0) (length p.trips) (all_trips blocks)
      (trips_inside p l blocks are.each_block) in
      let all = own_blocks_pay instance holds blocks are.each_block in
      let vehicles = times_le vehicle (length blocks) (layer_of p l.0).fleet holds.vehicle are.fleet in
      omega (arith, ints, by_trip, all, vehicles)
