-- The parts of a search once a leaf was taken.
use Rattle.std.proofs.Common.{◌≡◌, ◌≢◌, ℕ, ◌+◌, ◌<◌, true, false, List, [], ◌∷◌, ◌++◌, length, set, get_or, refl, sym, ap, ◌∙◌, subst, arith, inl, inr, length-set, length-append, count_by, sum_by, None, not, ◌==◌}
use Rattle.std.proofs.lemmas.Bool.{cases_eq, eq-eqb, ne_eqb}
use Rattle.std.proofs.lemmas.List.{get_or-set_same, get_or-set_other}
use Rattle.vs_prices.specs.declared.bound.Bound.{Bound}
use Rattle.vs_tree.specs.declared.calls.Hand.{Hand}
use Rattle.vs_tree.specs.declared.calls.Hand.TheVariants.{Idle, Has}
use Rattle.vs_tree.specs.declared.spot.Spot.{Spot}
use Rattle.vs_tree.specs.declared.spot.Spot.TheVariants.{Free, Held}
use Rattle.vs_tree.specs.Free.{Entries, entry_at}
use Rattle.vs_tree.specs.History.{FullStep, Opening, Place, State, Took, IsHeldBy, IsLeaf, IsLeafWorth, MayTake, after, is_held, is_inner, IsHistory, first_state, prices_at, spot_at, state_of, table_of, with_spot}
use Rattle.vs_plan.specs.CheckedPlan.{Checked}
use Rattle.vs_tree.specs.Prices.{no_prices}
use Rattle.vs_tree.specs.Search.{ArePartsOf, IsHandOf, IsSearch, Parts, free_entry, hand_at, is_busy, is_gone, offers_left, steps_left, worth_at}
use Rattle.vs_tree.proofs.search.Facts.{history-last, places_within, state-last}
use Rattle.vs_tree.proofs.search.Hands.{IsAlike, among-filter, count-after, filter-among, hands-after, idle-hand, sum-after}
use Rattle.vs_tree.proofs.sound.Relabelled.{count-more, leaves-kept, same-worth, sets-kept, spot-here, spot-there}
use Rattle.vs_tree.proofs.Spots.{leaf_within, length-with_spot}

module _ (o : Opening) (a : Parts) (is : IsSearch o a) (worker leaf : ℕ)
    (may : MayTake o (state_of o a.log.steps) worker leaf)
  where
    abbrev s : State
    s = state_of o a.log.steps

    abbrev n : State
    n = after s (Took worker leaf)

    abbrev spot : Spot
    spot = Held worker (table_of (spot_at s leaf))

    abbrev hand : Hand
    hand = Has leaf false

    free : spot_at s leaf ≡ Free may.next.free.0
    free = may.next.free.1

    was : is_inner (spot_at s leaf) ≡ false
    was = ap is_inner free

    within : leaf < length s.places
    within = leaf_within s.places leaf was

    inside : worker < length a.hands
    inside = omega (arith, may.is_worker, is.parts.workers)

    idle : hand_at a.hands worker ≡ Idle
    idle = idle-hand s worker (hand_at a.hands worker) (is.parts.hands worker inside) may.idle may.stays

    elsewhere : (j : ℕ) → j ≢ leaf → spot_at n j ≡ spot_at s j
    elsewhere = spot-there s n leaf spot within refl

    here : spot_at n leaf ≡ spot
    here = spot-here s n leaf spot within refl

    not_leaf : (w k : ℕ) → IsHeldBy s w k → k ≢ leaf
    not_leaf w k (table, held) same =
        let at : Free may.next.free.0 ≡ Held w table = sym free ∙ ap (spot_at s) (sym same) ∙ held in
        absurd cc

    other_back : (w k : ℕ) → w ≢ worker → IsHeldBy n w k → IsHeldBy s w k
    other_back w k apart (table, held) =
        elim (cases_eq k leaf) [
          | inl same ↦
              let at : Held worker (table_of (spot_at s leaf)) ≡ Held w table =
              sym here ∙ ap (spot_at n) (sym same) ∙ held in
              let alike : w ≡ worker = cc in
              absurd (apart alike)
          | inr other ↦ (table, sym (elsewhere k other) ∙ held)
        ]

    others : (w : ℕ) → w ≢ worker → IsAlike s n w
    others w apart = record {
      forth = λ k held. (held.0, elsewhere k (not_leaf w k held) ∙ held.1);
      back = λ k held. other_back w k apart held;
      gone = λ among. among;
      stays = λ among. among;
      offered = λ among. (among-filter (λ x. not (x == worker)) w s.offered among).0;
      offers = λ among.
          let other : not (w == worker) ≡ true = ap not (ne_eqb w worker apart) in
          filter-among (λ x. not (x == worker)) w s.offered other among;
    }

    mine : IsHandOf n worker hand
    mine = (
      (table_of (spot_at s leaf), here),
      λ among.
          let passes = (among-filter (λ x. not (x == worker)) worker s.offered among).1 in
          let fails : not (worker == worker) ≡ false = ap not (eq-eqb worker worker refl) in
          absurd cc,
    )

    holder : (w k : ℕ) → IsHeldBy n w k → w < length a.hands
    holder w k held =
        elim (cases_eq w worker) [
          | inl same ↦ omega (arith, same, inside)
          | inr apart ↦ is.parts.workers_hold w k (other_back w k apart held)
        ]

    -- the parts after the step
    module _ (b : Parts)
        (steps : b.log.steps ≡ a.log.steps ++ Took worker leaf ∷ [])
        (tables : b.log.tables ≡ a.log.tables) (plans : b.log.plans ≡ a.log.plans)
        (step_room : b.log.step_room ≡ a.log.step_room) (table_room : b.log.table_room ≡ a.log.table_room)
        (plan_room : b.log.plan_room ≡ a.log.plan_room)
        (places : b.places.places ≡ with_spot a.places.places leaf spot) (room : b.places.room ≡ a.places.room)
        (hands : b.hands ≡ set a.hands worker hand)
        (frees : b.free ≡ set a.free leaf None) (worths : b.worths ≡ a.worths) (finished : b.finished ≡ a.finished)
        (sets : length b.sets ≡ length a.sets) where
      hands_size : length b.hands ≡ length a.hands
      hands_size = ap (λ (x : List Hand). length x) hands ∙ length-set a.hands worker hand

      now_busy : count_by is_busy b.hands ≡ count_by is_busy a.hands + 1
      now_busy =
          let sum = count-after is_busy a.hands worker Idle hand inside idle in
          let same = ap (λ (x : List Hand). count_by is_busy x) hands in
          omega (arith, sum, same)

      now_gone : count_by is_gone b.hands ≡ count_by is_gone a.hands
      now_gone =
          let sum = count-after is_gone a.hands worker Idle hand inside idle in
          let same = ap (λ (x : List Hand). count_by is_gone x) hands in
          omega (arith, sum, same)

      now_steps : sum_by steps_left b.hands ≡ sum_by steps_left a.hands + 2
      now_steps =
          let sum = sum-after steps_left a.hands worker Idle hand inside idle in
          let same = ap (λ (x : List Hand). sum_by steps_left x) hands in
          omega (arith, sum, same)

      now_offers : sum_by offers_left b.hands ≡ sum_by offers_left a.hands + 1
      now_offers =
          let sum = sum-after offers_left a.hands worker Idle hand inside idle in
          let same = ap (λ (x : List Hand). sum_by offers_left x) hands in
          omega (arith, sum, same)

      free_size : length b.free ≡ length a.free
      free_size = ap (λ (x : Entries). length x) frees ∙ length-set a.free leaf None

      leaf_free : leaf < length a.free
      leaf_free =
          let same = ap (λ (x : List Place). length x) is.parts.places in
          let few = places_within o a is in
          omega (arith, within, same, few, is.parts.free_size)

      now_free : (k : ℕ) → k < length b.free → entry_at b.free k ≡ free_entry (spot_at n k) (worth_at b.worths k) k
      now_free k below =
          let at : entry_at b.free k ≡ entry_at (set a.free leaf None) k = ap (λ (x : Entries). entry_at x k) frees in
          elim (cases_eq k leaf) [
            | inl same ↦
                let none : entry_at (set a.free leaf None) k ≡ None =
                ap (entry_at (set a.free leaf None)) same ∙ get_or-set_same a.free leaf None None leaf_free in
                let held : spot_at n k ≡ spot = ap (spot_at n) same ∙ here in
                at ∙ none ∙ ap (λ (x : Spot). free_entry x (worth_at b.worths k) k) (sym held)
            | inr apart ↦
                at ∙ get_or-set_other a.free leaf k None None apart ∙ is.parts.free k (omega (arith, below, free_size))
                ∙ ap (λ (x : Spot). free_entry x (worth_at a.worths k) k) (sym (elsewhere k apart))
                ∙ ap (λ (x : List Bound). free_entry (spot_at n k) (worth_at x k) k) (sym worths)
          ]

      now_worths : (k : ℕ) → IsLeaf n k → IsLeafWorth o.problem n k (worth_at b.worths k)
      now_worths k leaf_k =
          let before : IsLeaf s k = sym (leaves-kept s n leaf spot within refl was refl k) ∙ leaf_k in
          let old = is.parts.worths k before in
          let same : worth_at b.worths k ≡ worth_at a.worths k = ap (λ (x : List Bound). worth_at x k) worths in
          subst (λ (x : Bound). IsLeafWorth o.problem n k x) (sym same)
          (same-worth o.problem n s k (worth_at a.worths k) (sym (sets-kept s n leaf spot within refl k))
          (prices_same k) old)
        where
          prices_same : (j : ℕ) → prices_at s j ≡ prices_at n j
          prices_same j =
              elim (cases_eq j leaf) [
                | inl at ↦
                    ap (λ (i : ℕ). prices_at s i) at
                    ∙ sym (ap (λ (x : Spot). get_or s.tables (table_of x) no_prices) here)
                    ∙ ap (λ (i : ℕ). prices_at n i) (sym at)
                | inr apart ↦ ap (λ (x : Spot). get_or s.tables (table_of x) no_prices) (sym (elsewhere j apart))
              ]

      pub took_parts : ArePartsOf o n b
      took_parts = record {
        workers = is.parts.workers ∙ sym hands_size;
        places = ap (λ (x : List Place). with_spot x leaf spot) is.parts.places ∙ sym places;
        tables = is.parts.tables ∙ sym tables;
        plans = is.parts.plans ∙ sym plans;
        finished = is.parts.finished ∙ sym finished;
        hands = λ w below. subst (λ (x : List Hand). IsHandOf n w (hand_at x w)) (sym hands)
            (hands-after s n a.hands worker hand inside is.parts.hands mine others w
            (omega (arith, below, hands_size, length-set a.hands worker hand)));
        workers_hold = λ w k held. omega (arith, holder w k held, hands_size);
        busy = let more = count-more s n leaf spot within refl is_held (ap is_held free) refl in
            omega (arith, more, now_busy, is.parts.busy);
        free = now_free;
        worths = now_worths;
        few_places =
            let size = ap (λ (x : List Place). length x) places in
            let same = length-with_spot a.places.places leaf spot in
            omega (arith, size, same, is.parts.few_places, finished);
        few_steps =
            let size = ap (λ (x : List FullStep). length x) steps in
            let one = length-append a.log.steps (Took worker leaf ∷ []) in
            omega (arith, size, one, now_steps, now_busy, now_gone, finished, is.parts.few_steps);
        few_plans =
            let size = ap (λ (x : List Checked). length x) plans in
            omega (arith, size, now_offers, now_busy, now_gone, finished, is.parts.few_plans);
        places_room = room ∙ is.parts.places_room;
        steps_room = step_room ∙ is.parts.steps_room;
        tables_room = table_room ∙ is.parts.tables_room;
        plans_room = plan_room ∙ is.parts.plans_room;
        free_size = free_size ∙ is.parts.free_size;
        worths_size = ap (λ (x : List Bound). length x) worths ∙ is.parts.worths_size;
        sets_size = sets ∙ is.parts.sets_size;
      }

      pub took_search : IsSearch o b
      took_search =
          let reached : state_of o b.log.steps ≡ n =
          ap (state_of o) steps ∙ state-last (first_state o) a.log.steps (Took worker leaf) in
          record {
            opening = is.opening;
            few_leaves = is.few_leaves;
            few_workers = is.few_workers;
            history = subst (λ (x : List FullStep). IsHistory o x) (sym steps)
                (history-last o (first_state o) a.log.steps (Took worker leaf) is.history may);
            parts = subst (λ (x : State). ArePartsOf o x b) (sym reached) took_parts;
          }
