-- A block costs what its pieces cost together.
use Rattle.std.proofs.Common.{◌≡◌, ℕ, suc, ◌+◌, ◌-◌, ◌*◌, ◌<◌, ◌≤◌, List, [], ◌∷◌, length, get_or, refl, sym, ap, ◌∙◌, subst, arith}
use Rattle.std.specs.Prelude.{sum_by, All}
use Rattle.std.specs.List.{AllAdjacentBelow}
use Rattle.std.proofs.lemmas.List.Sums.{sum_by-cons}
use Rattle.vs_types.specs.declared.numbers.LayerNo.{LayerNo}
use Rattle.vs_types.specs.declared.numbers.TripNo.{TripNo}
use Rattle.vs_instance.specs.Problem.{Problem}
use Rattle.vs_instance.specs.Instance.{IsInstance}
use Rattle.vs_instance.specs.Ways.{trip_of, layer_of, Connects, Permitted}
use Rattle.vs_instance.specs.Pieces.{rated, trip_piece, link_piece}
use Rattle.vs_instance.specs.Blocks.{IsBlock, last_of, block_metres, pull_in_minute, pull_out_minute, rested_between, rested_minutes, driven_between, metres_between, metres_of, minutes_of}
use Rattle.vs_instance.specs.declared.way.Way.{Way}
use Rattle.vs_instance.specs.BlockPieces.{cost_of, links_between, BlocksCostTheirPieces}
use Rattle.vs_instance.proofs.Known.{trip_of-IsTrip}
use Rattle.vs_instance.proofs.costs.PieceLemmas.{out_taken, in_taken}
use Rattle.vs_instance.proofs.costs.Rates.{rated-add}
use Rattle.vs_instance.proofs.costs.Links.{link_taken}

-- trips that one vehicle of layer l can run one after another
abbrev pub IsChain : Problem → LayerNo → List TripNo → Type 0
IsChain p l [] = Unit {0}
IsChain p l (i ∷ []) = (i.0 < length p.trips) × Permitted p l.0 i.0
IsChain p l (i ∷ j ∷ rest) = (i.0 < length p.trips) × Permitted p l.0 i.0 × Connects p i.0 j.0 × IsChain p l (j ∷ rest)

module _ (p : Problem) (l : LayerNo) where
  chain_of : (trips : List TripNo) → All (λ i. i.0 < length p.trips) trips → All (λ i. Permitted p l.0 i.0) trips
      → AllAdjacentBelow (λ i j. Connects p i.0 j.0) trips (length trips) → IsChain p l trips
  chain_of [] of_instance permitted connected = tt
  chain_of (i ∷ []) of_instance permitted connected = (of_instance 0 i (omega arith), permitted 0 i (omega arith))
  chain_of (i ∷ j ∷ rest) of_instance permitted connected = (
    of_instance 0 i (omega arith),
    permitted 0 i (omega arith),
    connected 0 i (omega arith),
    chain_of (j ∷ rest) (λ k d within. of_instance (suc k) d (omega arith))
        (λ k d within. permitted (suc k) d (omega arith))
        (λ k d within.
        let next : suc k + 1 ≡ suc (k + 1) = omega arith in
        subst (λ (n : ℕ). Connects p (get_or (j ∷ rest) k d).0 (get_or (i ∷ j ∷ rest) n d).0) next
        (connected (suc k) d (omega arith))),
  )

  -- the trips of a block are such
  pub chain_of_block : (trips : List TripNo) → IsBlock p l trips → IsChain p l trips
  chain_of_block trips block = chain_of trips block.of_instance block.permitted block.connected

-- the last of a trip and those after it
abbrev pub last_trip : TripNo → List TripNo → TripNo
last_trip i [] = i
last_trip i (j ∷ rest) = last_trip j rest

-- the first trip of such is one of the instance, permitted in the layer
pub first_of_chain : (p : Problem) (l : LayerNo) (i : TripNo) (rest : List TripNo) → IsChain p l (i ∷ rest)
    → (i.0 < length p.trips) × Permitted p l.0 i.0
first_of_chain p l i [] chain = chain
first_of_chain p l i (j ∷ rest) chain = (chain.0, chain.1)

-- the last trip of such
pub last_of_chain : (p : Problem) (l : LayerNo) (i : TripNo) (rest : List TripNo) → IsChain p l (i ∷ rest)
    → ((last_trip i rest).0 < length p.trips) × Permitted p l.0 (last_trip i rest).0
last_of_chain p l i [] chain = chain
last_of_chain p l i (j ∷ rest) chain = last_of_chain p l j rest chain.3

-- the last of a list is the last of what follows its first
pub last_of-cons : (i j : TripNo) (rest : List TripNo) → last_of (i ∷ j ∷ rest) ≡ last_of (j ∷ rest)
last_of-cons i j rest =
    let place : length (i ∷ j ∷ rest) - 1 ≡ suc (length (j ∷ rest) - 1) = omega arith in
    ap (λ (k : ℕ). (get_or (i ∷ j ∷ rest) k (record { 0 = 0 })).0) place

-- a trip, a link in which some minutes are rested, and the rest of a chain after it
rated-after : (p : Problem) (l a b c d r s x y m n : ℕ) → a ≤ b → b + r ≤ c → c + s ≤ d
    → rated p l (d - a - (r + s)) (x + m + (y + n))
    ≡ rated p l (b - a) x + (rated p l (c - b - r) y + rated p l (d - c - s) (m + n))
rated-after p l a b c d r s x y m n first second third =
    let time : d - a - (r + s) ≡ (b - a) + ((c - b - r) + (d - c - s)) = omega arith in
    let driven : x + m + (y + n) ≡ x + (y + (m + n)) = omega arith in
    ap (λ (t : ℕ). rated p l t (x + m + (y + n))) time
    ∙ ap (rated p l ((b - a) + ((c - b - r) + (d - c - s)))) driven
    ∙ rated-add p l (b - a) ((c - b - r) + (d - c - s)) x (y + (m + n))
    ∙ ap (λ (t : ℕ). rated p l (b - a) x + t) (rated-add p l (c - b - r) (d - c - s) y (m + n))

-- the costs of all trips, those of all links, and the metres of all trips
abbrev pub trips_cost : Problem → LayerNo → List TripNo → ℕ
trips_cost p l trips = sum_by (λ i. trip_piece p l.0 i.0) trips

abbrev pub links_cost : Problem → LayerNo → List TripNo → ℕ
links_cost p l trips = sum_by cost_of (links_between p l trips)

abbrev pub trips_metres : Problem → List TripNo → ℕ
trips_metres p trips = sum_by (λ i. (trip_of p i.0).metres) trips

-- what the trips and links of a chain cost that ends with the trip last
record IsRated (p : Problem) (l : LayerNo) (first last : TripNo) (trips : List TripNo) : Type 0 where
  in_order : (trip_of p first.0).start + rested_minutes p l trips ≤ (trip_of p last.0).end
  cost : trips_cost p l trips + links_cost p l trips
      ≡ rated p l.0 ((trip_of p last.0).end - (trip_of p first.0).start - rested_minutes p l trips)
      (trips_metres p trips + metres_between p l trips)

pub last_of-is : (i : TripNo) (rest : List TripNo) → last_of (i ∷ rest) ≡ (last_trip i rest).0
last_of-is i [] = refl
last_of-is i (j ∷ rest) = last_of-cons i j rest ∙ last_of-is j rest

chain_cost : (p : Problem) (l : LayerNo) (i : TripNo) (rest : List TripNo) → IsInstance p → IsChain p l (i ∷ rest)
    → IsRated p l i (last_trip i rest) (i ∷ rest)
chain_cost p l i [] inst chain =
    let lasts = (trip_of-IsTrip p inst i.0 chain.0).lasts in
    let metres : (trip_of p i.0).metres ≡ 0 + (trip_of p i.0).metres + 0 = omega arith in
    let minutes : (trip_of p i.0).end - (trip_of p i.0).start ≡ (trip_of p i.0).end - (trip_of p i.0).start - 0 =
    omega arith in
    let cost = ap (λ (t : ℕ). rated p l.0 t (trip_of p i.0).metres) minutes
    ∙ ap (rated p l.0 ((trip_of p i.0).end - (trip_of p i.0).start - 0)) metres in
    record {
      in_order = omega arith;
      cost = omega (arith, cost);
    }
chain_cost p l i (j ∷ rest) inst chain =
    let lasts = (trip_of-IsTrip p inst i.0 chain.0).lasts in
    let after = chain_cost p l j rest inst chain.3 in
    let link = link_taken p l i j chain.2 in
    let last = last_trip j rest in
    let time = link.time in
    let trips = sum_by-cons (λ (k : TripNo). trip_piece p l.0 k.0) i (j ∷ rest) in
    let links = sum_by-cons cost_of (link_piece p l.0 i.0 j.0) (links_between p l (j ∷ rest)) in
    let metres = sum_by-cons (λ (k : TripNo). (trip_of p k.0).metres) i (j ∷ rest) in
    let costs = ap cost_of link.is ∙ link.costs in
    let in_order = after.in_order in
    let parts = rated-after p l.0 (trip_of p i.0).start (trip_of p i.0).end (trip_of p j.0).start (trip_of p last.0).end
    (rested_between p l i j) (rested_minutes p l (j ∷ rest))
    (trip_of p i.0).metres (driven_between p l i j) (trips_metres p (j ∷ rest)) (metres_between p l (j ∷ rest))
    (omega arith) time in_order in
    let driven : rated p l.0 ((trip_of p last.0).end - (trip_of p i.0).start - rested_minutes p l (i ∷ j ∷ rest))
    (trips_metres p (i ∷ j ∷ rest) + metres_between p l (i ∷ j ∷ rest))
    ≡ rated p l.0 ((trip_of p last.0).end - (trip_of p i.0).start - rested_minutes p l (i ∷ j ∷ rest))
    ((trip_of p i.0).metres + trips_metres p (j ∷ rest) + (driven_between p l i j + metres_between p l (j ∷ rest))) =
    ap (rated p l.0 ((trip_of p last.0).end - (trip_of p i.0).start - rested_minutes p l (i ∷ j ∷ rest)))
    (omega (arith, metres)) in
    record {
      in_order = omega arith;
      cost = omega (arith, trips, links, costs, after.cost, driven, parts);
    }

-- the way out, the chain and the way back, all together
whole_cost : (p : Problem) (l fixed start end rested trips between cost : ℕ) (out back : Way) → out.minutes ≤ start
    → start + rested ≤ end
    → cost ≡ rated p l (end - start - rested) (trips + between)
    → fixed + rated p l (end + back.minutes - (start - out.minutes) - rested)
    (out.metres + trips + between + back.metres)
    ≡ fixed + rated p l out.minutes out.metres + cost + rated p l back.minutes back.metres
whole_cost p l fixed start end rested trips between cost out back in_time in_order is =
    let time : end + back.minutes - (start - out.minutes) - rested
    ≡ out.minutes + ((end - start - rested) + back.minutes) =
    omega arith in
    let driven : out.metres + trips + between + back.metres ≡ out.metres + ((trips + between) + back.metres) =
    omega arith in
    let all = ap (λ (t : ℕ). rated p l t (out.metres + trips + between + back.metres)) time
    ∙ ap (rated p l (out.minutes + ((end - start - rested) + back.minutes))) driven in
    let first =
    rated-add p l out.minutes ((end - start - rested) + back.minutes) out.metres ((trips + between) + back.metres) in
    let second = rated-add p l (end - start - rested) back.minutes (trips + between) back.metres in
    omega (arith, all, first, second, is)

pub blocks_cost_their_pieces : BlocksCostTheirPieces
blocks_cost_their_pieces p l [] inst block = absurd (omega (arith, block.some_trip))
blocks_cost_their_pieces p l (i ∷ rest) inst block =
    let trips = i ∷ rest in
    let last = last_of trips in
    let chain =
    subst (λ (k : ℕ). IsRated p l i (record { 0 = k }) trips) (sym (last_of-is i rest))
    (chain_cost p l i rest inst (chain_of_block p l trips block)) in
    let out = out_taken p l.0 i.0 block.pull_out in
    let back = in_taken p l.0 last block.pull_in in
    let out_minutes = ap minutes_of out.is in
    let out_metres = ap metres_of out.is in
    let back_minutes = ap minutes_of back.is in
    let back_metres = ap metres_of back.is in
    let out_cost = ap cost_of out.costs in
    let back_cost = ap cost_of back.costs in
    let minutes : pull_in_minute p l trips - pull_out_minute p l trips - rested_minutes p l trips
    ≡ (trip_of p last).end + back.way.minutes - ((trip_of p i.0).start - out.way.minutes) - rested_minutes p l trips =
    omega (arith, out_minutes, back_minutes) in
    let metres : block_metres p l trips ≡ out.way.metres + trips_metres p trips + metres_between p l trips
    + back.way.metres =
    omega (arith, out_metres, back_metres) in
    let time = ap (λ (t : ℕ). (layer_of p l.0).per_minute * t) minutes in
    let driven = ap (λ (m : ℕ). (layer_of p l.0).per_metre * m) metres in
    let whole =
    whole_cost p l.0 (layer_of p l.0).fixed (trip_of p i.0).start (trip_of p last).end (rested_minutes p l trips)
    (trips_metres p trips) (metres_between p l trips)
    (trips_cost p l trips + links_cost p l trips) out.way back.way out.time chain.in_order chain.cost in
    omega (arith, time, driven, whole, out_cost, back_cost)
