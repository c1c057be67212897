-- Blocks of trips that are offered are blocks of trips whose sets have the layer, and cost the same.
use Rattle.std.proofs.Common.{◌≡◌, ℕ, ◌<◌, List, [], ◌∷◌, length, refl, sym, ap, ◌∙◌, subst, inl, inr, arith, Option, Some, None, ℤ, pos, ◌≤ℤ◌}
use Rattle.std.specs.Prelude.{IfSome, IsSome}
use Rattle.std.specs.List.{All}
use Rattle.std.proofs.lemmas.Bool.{cases_lt, false≢true}
use Rattle.std.proofs.lemmas.Int.{ints}
use Rattle.std.proofs.lemmas.List.{get_or_past}
use Rattle.std.proofs.lemmas.List.Elements.{All-head, All-tail, All-nil, All-cons}
use Rattle.vs_types.specs.declared.layer_set.LayerSet.{LayerSet}
use Rattle.vs_types.specs.declared.numbers.LayerNo.{LayerNo}
use Rattle.vs_types.specs.declared.numbers.TripNo.{TripNo}
use Rattle.vs_types.specs.LayerSet.{Has}
use Rattle.vs_instance.specs.declared.limits.TheConstants.{MAX_MULTIPLIER}
use Rattle.vs_instance.specs.Dearest.{most_multiplier}
use Rattle.vs_instance.specs.Problem.{Problem}
use Rattle.vs_instance.specs.Lagrangian.{AreBlocksOf, IsBlockList, IsLow, IsLowOf, multiplier_of, paid_for, reduced_cost}
use Rattle.vs_instance.specs.Plan.{LayerBlock, all_trips}
use Rattle.vs_instance.specs.Restriction.{IsRestriction, set_of}
use Rattle.vs_instance.proofs.CallerLemmas.{trips_inside, dec_has}
use Rattle.vs_circ.specs.Offers.{AreOffers, IsOffered, multipliers_of, offer_of, paid}
use Rattle.vs_circ.proofs.CallerLemmas.{multiplier_of-offer}
use Rattle.vs_multi.specs.Multipliers.{AreMultipliers, IsMultiplier}
use Rattle.vs_multi.specs.Offers.{AreOffersTo}

not_none : (offer : Option ℤ) → offer ≡ None → ¬ (IsSome offer)
not_none offer is some = false≢true (subst (λ (o : Option ℤ). IsSome o) is some)

-- the same by two names of a list's trips
all_where : {X : Type 0} (P Q R : X → Type 0) → ((x : X) → P x → Q x → R x) → (xs : List X) → All P xs → All Q xs
    → All R xs
all_where P Q R f [] ps qs = All-nil R
all_where P Q R f (x ∷ xs) ps qs =
    All-cons R x xs (f x (All-head P x xs ps) (All-head Q x xs qs))
    (all_where P Q R f xs (All-tail P x xs ps) (All-tail Q x xs qs))

module _ (p : Problem) (sets : List LayerSet) (multipliers : List ℤ) (l : LayerNo) (offers : List (Option ℤ))
    (are : AreOffersTo p sets multipliers l.0 offers) where
  -- a trip that is offered has the layer in its set
  offered_has : (i : ℕ) → IsOffered offers i → (i < length p.trips) × Has (set_of sets i) l.0
  offered_has i offered =
      elim (cases_lt i (length p.trips)) [
        | inl inside ↦
            elim (dec_has (set_of sets i) l.0) [
              | yes has ↦ (inside, has)
              | no none ↦ absurd (not_none (offer_of offers i) ((are.each i inside).left_out none) offered)
            ]
        | inr past ↦
            absurd (not_none (offer_of offers i) (get_or_past offers i None (omega (arith, are.each_trip))) offered)
      ]

  has_offered : (i : ℕ) → i < length p.trips → Has (set_of sets i) l.0 → IsOffered offers i
  has_offered i inside has = subst (λ (o : Option ℤ). IsSome o) (sym ((are.each i inside).offered has)) refl

  -- it is paid its multiplier
  paid_same : (i : ℕ) → IsOffered offers i → multiplier_of (multipliers_of offers) i ≡ multiplier_of multipliers i
  paid_same i offered =
      let has = offered_has i offered in
      multiplier_of-offer offers i ∙ ap paid ((are.each i has.0).offered has.1)

  trips_paid_same : (trips : List TripNo) → All (λ t. IsOffered offers t.0) trips
      → paid_for (multipliers_of offers) trips ≡ paid_for multipliers trips
  trips_paid_same [] each = refl
  trips_paid_same (t ∷ trips) each =
      let here = paid_same t.0 (All-head (λ (u : TripNo). IsOffered offers u.0) t trips each) in
      let rest = trips_paid_same trips (All-tail (λ (u : TripNo). IsOffered offers u.0) t trips each) in
      omega (arith, ints, here, rest)

  offered_blocks : (blocks : List LayerBlock) → IsBlockList p sets l blocks → AreBlocksOf p l (IsOffered offers) blocks
  offered_blocks blocks are_blocks = record {
    each_block = are_blocks.each_block;
    fleet = are_blocks.fleet;
    at_most_once = are_blocks.at_most_once;
    within = all_where (λ (t : TripNo). t.0 < length p.trips) (λ (t : TripNo). Has (set_of sets t.0) l.0)
        (λ (t : TripNo). IsOffered offers t.0) (λ t inside has. has_offered t.0 inside has) (all_trips blocks)
        (trips_inside p l blocks are_blocks.each_block) are_blocks.within;
  }

  listed_blocks : (blocks : List LayerBlock) → AreBlocksOf p l (IsOffered offers) blocks → IsBlockList p sets l blocks
  listed_blocks blocks are_blocks = record {
    each_block = are_blocks.each_block;
    fleet = are_blocks.fleet;
    at_most_once = are_blocks.at_most_once;
    within = all_where (λ (t : TripNo). t.0 < length p.trips) (λ (t : TripNo). IsOffered offers t.0)
        (λ (t : TripNo). Has (set_of sets t.0) l.0) (λ t inside offered. (offered_has t.0 offered).1) (all_trips blocks)
        (trips_inside p l blocks are_blocks.each_block) are_blocks.within;
  }

  same_cost : (blocks : List LayerBlock) → AreBlocksOf p l (IsOffered offers) blocks
      → reduced_cost p (multipliers_of offers) blocks ≡ reduced_cost p multipliers blocks
  same_cost blocks are_blocks =
      let same = trips_paid_same (all_trips blocks) are_blocks.within in
      omega (arith, ints, same)

  -- the least that blocks of offered trips cost is the layer's low
  pub low_once : (low value : ℤ) → IsLow p sets multipliers l low
      → IsLowOf p l (IsOffered offers) (multipliers_of offers) value → low ≡ value
  low_once low value of_sets of_offers =
      let mine = offered_blocks of_sets.blocks of_sets.are_blocks in
      let up = of_offers.least of_sets.blocks mine in
      let up_cost = same_cost of_sets.blocks mine in
      let down = of_sets.least of_offers.blocks (listed_blocks of_offers.blocks of_offers.are_blocks) in
      let down_cost = same_cost of_offers.blocks of_offers.are_blocks in
      omega (arith, ints, up, up_cost, down, down_cost, of_sets.cost, of_offers.cost)

  -- what is offered is lawful
  pub are_offers : IsRestriction p sets → AreMultipliers p multipliers → AreOffers p l.0 offers
  are_offers restriction within = record {
    each_trip = are.each_trip;
    permitted = λ i offered. let has = offered_has i offered in restriction.permitted i l.0 has.0 has.1;
    within = λ i. weaker (offer_of offers i) (within_at i (offer_of offers i) refl);
    payable = λ i. stronger (offer_of offers i) (within_at i (offer_of offers i) refl);
  }
    where
      weaker : (o : Option ℤ) → IfSome o (IsMultiplier (length p.trips))
          → IfSome o (λ m. (pos 0 ≤ℤ m) × (m ≤ℤ MAX_MULTIPLIER))
      weaker None is = tt
      weaker (Some m) is = (is.0, is.1)

      stronger : (o : Option ℤ) → IfSome o (IsMultiplier (length p.trips))
          → IfSome o (λ m. m ≤ℤ pos (most_multiplier (length p.trips)))
      stronger None is = tt
      stronger (Some m) is = is.2

      within_at : (i : ℕ) (o : Option ℤ) → offer_of offers i ≡ o → IfSome o (IsMultiplier (length p.trips))
      within_at i None is = tt
      within_at i (Some m) is =
          let has = offered_has i (subst (λ (o : Option ℤ). IsSome o) (sym is) refl) in
          let same : Some (multiplier_of multipliers i) ≡ Some m = sym ((are.each i has.0).offered has.1) ∙ is in
          subst (IsMultiplier (length p.trips)) (ap paid same)
          (subst (λ (n : ℕ). IsMultiplier n (multiplier_of multipliers i)) within.each_trip (within.within i))
