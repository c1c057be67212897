-- The parts of a search once a worker gave its leaf back.
use Rattle.std.proofs.Common.{◌≡◌, ◌≢◌, ℕ, ◌<◌, ◌≤◌, Bool, true, false, cond, [], ◌∷◌, ◌++◌, length, set, get_or, refl, sym, ap, ◌∙◌, arith, inl, inr, append-nil, suc}
use Rattle.std.proofs.lemmas.List.{set-get_or}
use Rattle.vs_prices.specs.declared.bound.Bound.TheVariants.{NoPlan}
use Rattle.vs_tree.specs.declared.calls.Hand.TheVariants.{Idle, Has, Gone}
use Rattle.vs_tree.specs.declared.spot.Spot.{Spot}
use Rattle.vs_tree.specs.declared.spot.Spot.TheVariants.{Free}
use Rattle.vs_tree.specs.History.{GaveBack, Opening, State, IsAmong, IsHeldBy, after, is_held, is_inner, prices_at, spot_at, state_of, table_of, with_spot}
use Rattle.vs_tree.specs.Prices.{no_prices}
use Rattle.vs_tree.specs.Search.{IsSearch, Parts, free_entry, hand_at, is_busy, steps_left, worth_at}
use Rattle.vs_tree.proofs.Spots.{leaf_within}
use Rattle.vs_tree.proofs.search.Facts.{few_taken, within_budget}
use Rattle.vs_tree.proofs.search.GivingBack.{alike-others, hand_has, worker_inside}
use Rattle.vs_tree.proofs.search.Hands.{sum-after}
use Rattle.vs_tree.proofs.search.Stepping.{IsCounted, stepped_search}
use Rattle.vs_tree.proofs.sound.GaveBack.{among-cons}
use Rattle.vs_tree.proofs.sound.Relabelled.{count-less, held-before, same-worth, sets-kept, spot-here, spot-there}

some_step : (leaf : ℕ) (offered : Bool) → 1 ≤ steps_left (Has leaf offered)
some_step leaf true = omega arith
some_step leaf false = omega arith

counted : (leaf : ℕ) (offered : Bool) → IsCounted 0 (Has leaf offered) Gone
counted leaf true = record { steps = omega arith; plans = omega arith }
counted leaf false = record { steps = omega arith; plans = omega arith }

module _ (o : Opening) (a : Parts) (is : IsSearch o a) (worker leaf : ℕ)
    (held : IsHeldBy (state_of o a.log.steps) worker leaf)
  where
    abbrev s : State
    s = state_of o a.log.steps

    abbrev n : State
    n = after s (GaveBack worker leaf)

    abbrev spot : Spot
    spot = Free (table_of (spot_at s leaf))

    inside : worker < length a.hands
    inside = worker_inside o a is worker leaf held

    abbrev has : (offered : Bool) × (hand_at a.hands worker ≡ Has leaf offered)
    has = hand_has o a is worker leaf held

    -- there is room for one more step of a worker that holds a leaf
    pub room_for_step : length a.log.steps < a.log.step_room
    room_for_step =
        let few = few_taken o a is in
        let sum = sum-after steps_left a.hands worker (Has leaf has.0) Idle inside has.1 in
        let some = some_step leaf has.0 in
        omega (arith, few, sum, some, is.parts.few_steps, is.parts.steps_room)

    was : is_inner (spot_at s leaf) ≡ false
    was = ap is_inner held.1

    within : leaf < length s.places
    within = leaf_within s.places leaf was

    elsewhere : (j : ℕ) → j ≢ leaf → spot_at n j ≡ spot_at s j
    elsewhere = spot-there s n leaf spot within refl

    here : spot_at n leaf ≡ spot
    here = spot-here s n leaf spot within refl

    still : (w : ℕ) → w ≢ worker → IsAmong w (worker ∷ s.gone) → IsAmong w s.gone
    still w apart among = elim (among-cons w worker s.gone among) [ inl same ↦ absurd (apart same) | inr old ↦ old ]

    pub gave_back_search : (b : Parts)
        → (b.log.steps ≡ a.log.steps ++ GaveBack worker leaf ∷ [])
        → (b.log.tables ≡ a.log.tables) → (b.log.plans ≡ a.log.plans)
        → (b.log.step_room ≡ a.log.step_room) → (b.log.table_room ≡ a.log.table_room)
        → (b.log.plan_room ≡ a.log.plan_room)
        → (b.places.places ≡ with_spot a.places.places leaf spot) → (b.places.room ≡ a.places.room)
        → (b.hands ≡ set a.hands worker Gone)
        → (b.free ≡ set a.free leaf (free_entry spot (worth_at a.worths leaf) leaf))
        → (b.worths ≡ a.worths) → (b.finished ≡ a.finished) → (length b.sets ≡ length a.sets) → IsSearch o b
    gave_back_search b steps tables plans step_room table_room plan_room places room hands frees worths finished sets =
        let less = count-less s n leaf spot within refl is_held (ap is_held held.1) refl in
        let same_prices : prices_at s leaf ≡ prices_at n leaf =
        sym (ap (λ (x : Spot). get_or s.tables (table_of x) no_prices) here) in
        stepped_search o a b is worker leaf 0 (GaveBack worker leaf) held spot (Has leaf has.0) Gone
        (worth_at a.worths leaf) [] refl (sym (append-nil s.tables)) refl (omega arith) was refl inside has.1
        (0, refl)
        (alike-others s n worker leaf held elsewhere (held-before s n leaf spot within refl refl)
        (λ w apart among. (suc among.0, among.1)) still refl)
        (counted leaf has.0) (omega (arith, less))
        (same-worth o.problem n s leaf (worth_at a.worths leaf) (sym (sets-kept s n leaf spot within refl leaf))
        same_prices
        (is.parts.worths leaf was))
        steps (tables ∙ sym (append-nil a.log.tables)) plans step_room table_room plan_room places room hands frees
        (worths ∙ sym (set-get_or a.worths leaf NoPlan)) (omega (arith, finished)) sets

    -- while a worker holds a leaf, less is finished than the budget allows
    pub unfinished : a.finished < o.budget
    unfinished =
        let some = sum-after (λ h. cond (is_busy h) 1 0) a.hands worker (Has leaf has.0) Idle inside has.1 in
        let few = within_budget o a is in
        omega (arith, some, few)
