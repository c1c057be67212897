-- The trips of a block one by one, and what a block costs at most.
use Rattle.std.proofs.Common.{◌≡◌, ℕ, zero, suc, ◌+◌, ◌-◌, ◌*◌, ◌<◌, ◌≤◌, true, false, cond, List, [], ◌∷◌, length, get_or, All, refl, sym, ap, ◌∙◌, subst, arith, drop, length-drop, Option, Some, None, ℤ, pos, ◌+ℤ◌, ◌≤ℤ◌, unwrap_or}
use Rattle.std.specs.Prelude.{IfSome, IsSomeAnd, option_map, sum_by}
use Rattle.std.specs.List.{AllAdjacentBelow}
use Rattle.std.proofs.lemmas.Int.{ints}
use Rattle.std.proofs.lemmas.List.{drop_more}
use Rattle.std.proofs.lemmas.List.Elements.{All-weaker}
use Rattle.std.proofs.lemmas.List.Sums.{sum_by-cons, sum_by-le}
use Rattle.std.proofs.lemmas.Nat.{mul-le}
use Rattle.vs_types.specs.declared.numbers.LayerNo.{LayerNo}
use Rattle.vs_types.specs.declared.numbers.TripNo.{TripNo}
use Rattle.vs_connect.specs.Cost.{IsCost}
use Rattle.vs_instance.specs.declared.way.Way.{Way}
use Rattle.vs_instance.specs.BlockPieces.{cost_of, links_between}
use Rattle.vs_instance.specs.Blocks.{IsBlock, block_cost, block_metres, driven_between, first_of, goes_by_depot, last_of, metres_between, metres_of, minutes_of, pull_in_minute, pull_out_minute, rested_minutes}
use Rattle.vs_instance.specs.Instance.{IsInstance}
use Rattle.vs_instance.specs.Pieces.{in_piece, link_piece, out_piece, trip_piece}
use Rattle.vs_instance.specs.Problem.{Problem}
use Rattle.vs_instance.specs.Ways.{Connects, layer_of, no_trip, trip_of, way, way_between, way_in, way_out}
use Rattle.vs_instance.specs.declared.limits.TheConstants.{MAX_FIXED, MAX_METRES, MAX_MINUTES, MAX_PER_METRE, MAX_PER_MINUTE, TWO_DAYS}
use Rattle.vs_instance.proofs.CallerLemmas.{blocks_cost_their_pieces, layer_of-IsLayer, trip_of-IsTrip, way-within}
use Rattle.vs_plan.specs.declared.costs.TheConstants.{MAX_COST_PER_TRIP}

-- the links of the trips from a place on
abbrev pub links_from : Problem → LayerNo → List TripNo → ℕ → ℕ
links_from p l trips k = sum_by cost_of (links_between p l (drop k trips))

-- they are that of the first two, and those of the trips from the next place on
pub links_from-more : (p : Problem) (l : LayerNo) (trips : List TripNo) (k next : ℕ) (d : TripNo) → k + 1 ≡ next
    → next < length trips
    → links_from p l trips k
    ≡ cost_of (link_piece p l.0 (get_or trips k d).0 (get_or trips next d).0) + links_from p l trips next
links_from-more p l trips k next d follows inside =
    let i = get_or trips k d in
    let j = get_or trips next d in
    let cost : List TripNo → ℕ = λ ts. sum_by cost_of (links_between p l ts) in
    let here : drop k trips ≡ i ∷ drop next trips =
    drop_more trips k d (omega arith) ∙ ap (λ (n : ℕ). i ∷ drop n trips) follows in
    let then : drop next trips ≡ j ∷ drop (next + 1) trips = drop_more trips next d inside in
    ap cost (here ∙ ap (λ (ts : List TripNo). i ∷ ts) then)
    ∙ sum_by-cons cost_of (link_piece p l.0 i.0 j.0) (links_between p l (j ∷ drop (next + 1) trips))
    ∙ ap (λ (ts : List TripNo). cost_of (link_piece p l.0 i.0 j.0) + cost ts) (sym then)

-- there are none between fewer than two trips
pub links_from-last : (p : Problem) (l : LayerNo) (trips : List TripNo) (k : ℕ) → length trips ≤ k + 1
    → links_from p l trips k ≡ 0
links_from-last p l trips k past = none (drop k trips) (omega (arith, length-drop k trips))
  where
    none : (ts : List TripNo) → length ts ≤ 1 → sum_by cost_of (links_between p l ts) ≡ 0
    none [] short = refl
    none (i ∷ []) short = refl
    none (i ∷ j ∷ rest) short = absurd (omega arith)

-- what a piece costs that is looked up, 0 where there is none
pub looked_up : (piece : Option ℕ) (found : Option ℤ) → found ≡ option_map pos piece
    → unwrap_or found (pos 0) ≡ pos (cost_of piece)
looked_up None found is = ap (λ (o : Option ℤ). unwrap_or o (pos 0)) is
looked_up (Some n) found is = ap (λ (o : Option ℤ). unwrap_or o (pos 0)) is

pub looked_up-IsCost : (found : Option ℤ) → IfSome found IsCost → IsCost (unwrap_or found (pos 0))
looked_up-IsCost None is = (omega (arith, ints), omega (arith, ints))
looked_up-IsCost (Some n) is = is

later : (o : Option Way) (a b : ℕ) → IsSomeAnd o (λ w. a + w.minutes ≤ b) → a ≤ b
later None a b h = absurd h
later (Some w) a b h = omega arith

-- each trip of a block starts a minute or more after the one before
start_rises : (p : Problem) (trips : List TripNo) → IsInstance p → All (λ i. i.0 < length p.trips) trips
    → AllAdjacentBelow (λ i j. Connects p i.0 j.0) trips (length trips) → (k : ℕ) (d : TripNo) → k < length trips
    → (trip_of p (get_or trips 0 d).0).start + k ≤ (trip_of p (get_or trips k d).0).start
start_rises p trips inst each linked zero d inside = omega arith
start_rises p trips inst each linked (suc k) d inside =
    let inside' : k < length trips = omega arith in
    let next : k + 1 < length trips = omega arith in
    let before = start_rises p trips inst each linked k d inside' in
    let lasts = (inst.trips (get_or trips k d).0 no_trip (each k d inside')).lasts in
    let follows =
    later (way_between p (get_or trips k d).0 (get_or trips (k + 1) d).0) (trip_of p (get_or trips k d).0).end
    (trip_of p (get_or trips (k + 1) d).0).start (linked k d next) in
    let same : get_or trips (k + 1) d ≡ get_or trips (suc k) d = ap (λ n. get_or trips n d) (omega arith) in
    let follows' = subst (λ (t : TripNo). (trip_of p (get_or trips k d).0).end ≤ (trip_of p t.0).start) same follows in
    omega arith

-- the first trip of a block starts before the last ends, by a minute for each trip
pub first_before_last : (p : Problem) (l : LayerNo) (trips : List TripNo) (d : TripNo) → IsInstance p
    → IsBlock p l trips
    → (trip_of p (get_or trips 0 d).0).start + length trips ≤ (trip_of p (get_or trips (length trips - 1) d).0).end
first_before_last p l trips d inst b =
    let some = b.some_trip in
    let last : length trips - 1 < length trips = omega arith in
    let rises = start_rises p trips inst b.of_instance b.connected (length trips - 1) d last in
    let lasts =
    (inst.trips (get_or trips (length trips - 1) d).0 no_trip (b.of_instance (length trips - 1) d last)).lasts in
    omega arith

-- a block has fewer trips than two days have minutes
pub few_in_block : (p : Problem) (l : LayerNo) (trips : List TripNo) → IsInstance p → IsBlock p l trips
    → length trips ≤ TWO_DAYS
few_in_block p l trips inst b =
    let some = b.some_trip in
    let d : TripNo = record { 0 = 0 } in
    let last : length trips - 1 < length trips = omega arith in
    let runs = first_before_last p l trips d inst b in
    let ends =
    (inst.trips (get_or trips (length trips - 1) d).0 no_trip (b.of_instance (length trips - 1) d last)).end in
    omega arith

-- the minutes and metres of a way are within the limits
way_limits : (p : Problem) → IsInstance p → (k s : ℕ)
    → (minutes_of (way p k s) ≤ MAX_MINUTES) × (metres_of (way p k s) ≤ MAX_METRES)
way_limits p inst k s = limits (way p k s) refl
  where
    limits : (o : Option Way) → way p k s ≡ o → (minutes_of o ≤ MAX_MINUTES) × (metres_of o ≤ MAX_METRES)
    limits None found = (omega arith, omega arith)
    limits (Some w) found = let within = way-within p inst k s w found in (within.minutes, within.metres)

trips_metres-limit : (p : Problem) (trips : List TripNo) → IsInstance p → All (λ i. i.0 < length p.trips) trips
    → sum_by (λ i. (trip_of p i.0).metres) trips ≤ length trips * MAX_METRES
trips_metres-limit p trips inst each =
    sum_by-le (λ (i : TripNo). (trip_of p i.0).metres) MAX_METRES trips
    (All-weaker (λ (i : TripNo). i.0 < length p.trips) (λ (i : TripNo). (trip_of p i.0).metres ≤ MAX_METRES)
    (λ i within. (trip_of-IsTrip p inst i.0 within).metres) trips each)

-- between two trips no more metres are driven than on two ways
driven_between-limit : (p : Problem) (l : LayerNo) (i j : TripNo) → IsInstance p
    → driven_between p l i j ≤ 2 * MAX_METRES
driven_between-limit p l i j inst =
    let back = (way_limits p inst (trip_of p i.0).to.0 (layer_of p l.0).depot.0).1 in
    let out = (way_limits p inst (layer_of p l.0).depot.0 (trip_of p j.0).from.0).1 in
    let straight = (way_limits p inst (trip_of p i.0).to.0 (trip_of p j.0).from.0).1 in
    elim (goes_by_depot p l i j) as
    (λ b. cond b (metres_of (way_in p l.0 i.0) + metres_of (way_out p l.0 j.0)) (metres_of (way_between p i.0 j.0))
    ≤ 2 * MAX_METRES) [
      | true ↦ omega (arith, back, out)
      | false ↦ omega (arith, straight)
    ]

metres_between-limit : (p : Problem) (l : LayerNo) (trips : List TripNo) → IsInstance p
    → metres_between p l trips ≤ 2 * MAX_METRES * (length trips - 1)
metres_between-limit p l [] inst = omega arith
metres_between-limit p l (i ∷ []) inst = omega arith
metres_between-limit p l (i ∷ j ∷ rest) inst =
    omega (arith, driven_between-limit p l i j inst, metres_between-limit p l (j ∷ rest) inst)

-- what minutes and metres at the rates of a layer cost at most
cost_limit : (fixed per_minute minutes per_metre metres trips : ℕ) → fixed ≤ MAX_FIXED → per_minute ≤ MAX_PER_MINUTE
    → minutes ≤ 4320 → per_metre ≤ MAX_PER_METRE → metres ≤ 3000000 * trips → 0 < trips
    → fixed + per_minute * minutes + per_metre * metres ≤ MAX_COST_PER_TRIP * trips
cost_limit fixed per_minute minutes per_metre metres trips f a m b n some =
    let timed = mul-le per_minute minutes MAX_PER_MINUTE 4320 a m in
    let driven = mul-le per_metre metres MAX_PER_METRE (3000000 * trips) b n in
    omega arith

-- what a block costs at most
block_cost-limit : (p : Problem) (l : LayerNo) (trips : List TripNo) → IsInstance p → IsBlock p l trips
    → block_cost p l trips ≤ MAX_COST_PER_TRIP * length trips
block_cost-limit p l trips inst block =
    let layer = layer_of-IsLayer p inst l.0 block.layer in
    let some = block.some_trip in
    let last : length trips - 1 < length trips = omega arith in
    let ends = (trip_of-IsTrip p inst (last_of trips) (block.of_instance (length trips - 1) (record { 0 = 0 })
    last)).end in
    let out = way_limits p inst (layer_of p l.0).depot.0 (trip_of p (first_of trips)).from.0 in
    let back = way_limits p inst (trip_of p (last_of trips)).to.0 (layer_of p l.0).depot.0 in
    let served = trips_metres-limit p trips inst block.of_instance in
    let between = metres_between-limit p l trips inst in
    cost_limit (layer_of p l.0).fixed (layer_of p l.0).per_minute
    (pull_in_minute p l trips - pull_out_minute p l trips - rested_minutes p l trips)
    (layer_of p l.0).per_metre (block_metres p l trips) (length trips) layer.fixed layer.per_minute
    (omega (arith, ends, back.0)) layer.per_metre (omega (arith, out.1, back.1, served, between)) some

-- the parts of a block, which are together what it costs
pub record AreParts (p : Problem) (l : LayerNo) (trips : List TripNo) (out served between back : ℤ) : Type 0 where
  pub whole : out +ℤ served +ℤ between +ℤ back ≡ pos (block_cost p l trips)
  pub out_low : pos 0 ≤ℤ out
  pub served_low : pos 0 ≤ℤ served
  pub between_low : pos 0 ≤ℤ between
  pub back_low : pos 0 ≤ℤ back
  pub limit : block_cost p l trips ≤ MAX_COST_PER_TRIP * length trips
  pub few : length trips ≤ TWO_DAYS

pub are_parts : (p : Problem) (l : LayerNo) (trips : List TripNo) (out served between back : ℤ) → IsInstance p
    → IsBlock p l trips
    → out ≡ pos (cost_of (out_piece p l.0 (first_of trips)))
    → served ≡ pos (sum_by (λ i. trip_piece p l.0 i.0) trips)
    → between ≡ pos (sum_by cost_of (links_between p l trips))
    → back ≡ pos (cost_of (in_piece p l.0 (last_of trips)))
    → AreParts p l trips out served between back
are_parts p l trips out served between back inst block out_is served_is between_is back_is = record {
  whole = omega (arith, ints, out_is, served_is, between_is, back_is, blocks_cost_their_pieces p l trips inst block);
  out_low = omega (arith, ints, out_is);
  served_low = omega (arith, ints, served_is);
  between_low = omega (arith, ints, between_is);
  back_low = omega (arith, ints, back_is);
  limit = block_cost-limit p l trips inst block;
  few = few_in_block p l trips inst block;
}
