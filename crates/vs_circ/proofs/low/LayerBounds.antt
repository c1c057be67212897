-- Where the prices of a layer hold, no blocks of it fall below what the prices show.
use Rattle.std.proofs.Common.{◌≡◌, ◌≢◌, ℕ, zero, suc, ◌≤◌, Bool, true, false, cond, eqb, List, [], ◌∷◌, length, map, get_or, count_by, refl, sym, ap, ◌∙◌, subst, arith, Option, Some, None, ℤ, pos, ◌+ℤ◌, ◌-ℤ◌, ◌*ℤ◌, ◌≤ℤ◌}
use Rattle.std.specs.Prelude.{IsSome}
use Rattle.std.specs.List.{All, range_with_len}
use Rattle.std.proofs.lemmas.Bool.{false≢true, ne_eqb}
use Rattle.std.proofs.lemmas.Int.{ints, clamps}
use Rattle.std.proofs.lemmas.List.Elements.{All-head, All-tail}
use Rattle.std.proofs.lemmas.List.Sums.{sum_by-cons}
use Rattle.vs_types.specs.declared.numbers.LayerNo.{LayerNo}
use Rattle.vs_types.specs.declared.numbers.TripNo.{TripNo}
use Rattle.vs_types.proofs.CallerLemmas.{times_none, times_one}
use Rattle.vs_instance.specs.Problem.{Problem}
use Rattle.vs_instance.specs.Instance.{IsInstance}
use Rattle.vs_instance.specs.HoldingTable.{HoldsInLayer, scaled}
use Rattle.vs_instance.specs.Lagrangian.{AreBlocksOf, multiplier_of, paid_for, reduced_cost, total}
use Rattle.vs_instance.specs.Plan.{LayerBlock, all_trips, plan_cost, times_run}
use Rattle.vs_instance.proofs.CallerLemmas.{blocks_pay, trips_inside, total-by_count, total-map_sub, total-range_le}
use Rattle.vs_circ.specs.declared.circ.LayerPrices.{LayerPrices}
use Rattle.vs_circ.specs.Offers.{IsOffered, MustRun, multipliers_of, offer_of, paid}
use Rattle.vs_circ.specs.LayerPrices.{pays_at, shown_of_offers, shown_of_trips, trip_pays}
use Rattle.vs_circ.specs.Circulations.{RunExactly}

-- a trip that may not be run is not
pub not_run : (May : ℕ → Type 0) (trips : List TripNo) (i : ℕ) → All (λ t. May t.0) trips → ¬ (May i)
    → count_by (λ t. eqb t.0 i) trips ≡ 0
not_run May [] i each never = refl
not_run May (t ∷ trips) i each never =
    let apart : t.0 ≢ i = λ is. never (subst May is (All-head (λ (t : TripNo). May t.0) t trips each)) in
    let rest = not_run May trips i (All-tail (λ (t : TripNo). May t.0) t trips each) never in
    let more = sum_by-cons (λ (t : TripNo). cond (eqb t.0 i) 1 0) t trips in
    let here = ap {B = ℕ} (λ (b : Bool). cond b 1 0) (ne_eqb t.0 i apart) in
    omega (arith, rest, more, here)

-- what trips are paid is a total
pub paid_for-total : (multipliers : List ℤ) (trips : List TripNo)
    → paid_for multipliers trips ≡ total (map (λ t. multiplier_of multipliers t.0) trips)
paid_for-total multipliers [] = refl
paid_for-total multipliers (t ∷ trips) =
    ap (λ (x : ℤ). multiplier_of multipliers t.0 +ℤ x) (paid_for-total multipliers trips)

-- the multiplier of a trip is what it is offered for
pub multiplier_of-offer : (offers : List (Option ℤ)) (i : ℕ)
    → multiplier_of (multipliers_of offers) i ≡ paid (offer_of offers i)
multiplier_of-offer [] i = refl
multiplier_of-offer (o ∷ offers) zero = refl
multiplier_of-offer (o ∷ offers) (suc i) = multiplier_of-offer offers i

-- a trip that runs at most once, and only where it is offered, gains no more by being left out than it pays
no_more_by_offer : (offer : Option ℤ) (x : ℤ) (n : ℕ) → n ≤ 1 → (¬ (IsSome offer) → n ≡ 0)
    → pays_at offer x ≤ℤ (x *ℤ pos n -ℤ paid offer *ℤ pos n)
no_more_by_offer None x n few none =
    let never : n ≡ 0 = none (λ some. cc) in
    let priced = ap (λ (k : ℕ). x *ℤ pos k) never ∙ times_none x in
    let unpaid = ap (λ (k : ℕ). pos 0 *ℤ pos k) never ∙ times_none (pos 0) in
    omega (arith, ints, priced, unpaid)
no_more_by_offer (Some m) x zero few none =
    let priced = times_none x in
    let unpaid = times_none m in
    omega (arith, ints, clamps, priced, unpaid)
no_more_by_offer (Some m) x (suc zero) few none =
    let priced = times_one x in
    let once = times_one m in
    omega (arith, ints, clamps, priced, once)
no_more_by_offer (Some m) x (suc (suc n)) few none = absurd (omega arith)

-- a trip that runs exactly where it has to pays as often
as_often : (must : Bool) (x : ℤ) (n : ℕ) → (must ≡ true → n ≡ 1) → (must ≡ false → n ≡ 0)
    → cond must x (pos 0) ≡ x *ℤ pos n
as_often true x n once never = sym (ap (λ (k : ℕ). x *ℤ pos k) (once refl) ∙ times_one x)
as_often false x n once never = sym (ap (λ (k : ℕ). x *ℤ pos k) (never refl) ∙ times_none x)

module _ (p : Problem) (l : LayerNo) (ray : Bool) (prices : LayerPrices) (instance : IsInstance p)
    (holds : HoldsInLayer p l.0 ray prices.into.items prices.from.items prices.fleet) where
  -- prices that hold show no more of trips that have to run than what blocks cost that run exactly these
  pub trips_bound : (must : List Bool) (blocks : List LayerBlock) → RunExactly p l must blocks
      → shown_of_trips p l.0 ray must prices ≤ℤ scaled ray (plan_cost p blocks)
  trips_bound must blocks run =
      let pay = blocks_pay p l ray prices.into.items prices.from.items prices.fleet instance holds (MustRun must)
      blocks run.are_blocks in
      let often = total-range_le (λ i. cond (get_or must i false) (trip_pays p l.0 ray prices i) (pos 0))
      (λ i. trip_pays p l.0 ray prices i *ℤ pos (times_run blocks i)) 0 (length p.trips)
      (λ i from within. let same = as_often (get_or must i false) (trip_pays p l.0 ray prices i) (times_run blocks i)
      (run.each i (omega arith))
      (λ not. not_run (MustRun must) (all_trips blocks) i run.are_blocks.within (λ is. false≢true (sym not ∙ is))) in
      omega (arith, ints, same)) in
      omega (arith, ints, pay, often)

module _ (p : Problem) (l : LayerNo) (prices : LayerPrices) (instance : IsInstance p)
    (holds : HoldsInLayer p l.0 false prices.into.items prices.from.items prices.fleet) where
  -- prices that hold show no more of offered trips than the reduced cost of any blocks of such
  pub offers_bound : (offers : List (Option ℤ)) (blocks : List LayerBlock) → AreBlocksOf p l (IsOffered offers) blocks
      → shown_of_offers p l.0 offers prices ≤ℤ reduced_cost p (multipliers_of offers) blocks
  offers_bound offers blocks are =
      let pays = trip_pays p l.0 false prices in
      let mult = multiplier_of (multipliers_of offers) in
      let pay = blocks_pay p l false prices.into.items prices.from.items prices.fleet instance holds (IsOffered offers)
      blocks are in
      let by_trip = total-by_count mult (λ (t : TripNo). t.0) (length p.trips) (all_trips blocks)
      (trips_inside p l blocks are.each_block) in
      let paid_is = paid_for-total (multipliers_of offers) (all_trips blocks) in
      let each = total-range_le (λ i. pays_at (offer_of offers i) (pays i))
      (λ i. pays i *ℤ pos (times_run blocks i) -ℤ mult i *ℤ pos (times_run blocks i)) 0 (length p.trips)
      (λ i from within.
      let less = no_more_by_offer (offer_of offers i) (pays i) (times_run blocks i) (are.at_most_once i (omega arith))
      (not_run (IsOffered offers) (all_trips blocks) i are.within) in
      let is = ap (λ (m : ℤ). m *ℤ pos (times_run blocks i)) (multiplier_of-offer offers i) in
      omega (arith, ints, less, is)) in
      let split = total-map_sub (λ i. pays i *ℤ pos (times_run blocks i)) (λ i. mult i *ℤ pos (times_run blocks i))
      (range_with_len 0 (length p.trips)) in
      omega (arith, ints, pay, by_trip, paid_is, each, split)
