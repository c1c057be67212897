-- The parts of a search once a worker did something else with its leaf than to split it.
use Rattle.std.proofs.Common.{◌≡◌, ◌≢◌, ℕ, ◌+◌, ◌*◌, ◌<◌, ◌≤◌, false, cond, List, [], ◌∷◌, ◌++◌, length, set, sym, ap, ◌∙◌, subst, arith, inl, inr, length-set, length-append, sum_by, None}
use Rattle.std.proofs.lemmas.Bool.{cases_eq}
use Rattle.std.proofs.lemmas.List.{get_or-set_same, get_or-set_other}
use Rattle.vs_prices.specs.declared.bound.Bound.{Bound}
use Rattle.vs_tree.specs.declared.calls.Hand.{Hand}
use Rattle.vs_tree.specs.declared.spot.Spot.{Spot}
use Rattle.vs_tree.specs.Free.{Entries, entry_at}
use Rattle.vs_tree.specs.History.{FullStep, Opening, Place, State, IsLeaf, IsLeafWorth, MayCome, after, count_spots, is_held, is_inner, IsHistory, first_state, spot_at, state_of, with_spot}
use Rattle.vs_plan.specs.CheckedPlan.{Checked}
use Rattle.vs_prices.specs.declared.bound.Bound.TheVariants.{NoPlan}
use Rattle.vs_tree.specs.Prices.{Prices}
use Rattle.vs_tree.specs.Search.{ArePartsOf, IsHandOf, IsSearch, Parts, free_entry, hand_at, is_busy, is_gone, offers_left, steps_left, worth_at}
use Rattle.vs_tree.proofs.search.Facts.{history-last, is_sound, places_within, state-last}
use Rattle.vs_tree.proofs.search.Hands.{IsAlike, hands-after, sum-after}
use Rattle.vs_tree.proofs.sound.Relabelled.{prices-kept, same-worth, sets-kept, spot-here, spot-there}
use Rattle.vs_tree.proofs.Spots.{leaf_within, length-with_spot}

-- what a step may do to the numbers of a search: the worker's hand is another one, and some leaf may be finished
pub record IsCounted (done : ℕ) (old hand : Hand) : Type 0 where
  pub steps : 1 + steps_left hand + 3 * (cond (is_busy old) 1 0 + cond (is_gone old) 1 0)
      ≤ steps_left old + 3 * (done + cond (is_busy hand) 1 0 + cond (is_gone hand) 1 0)
  pub plans : offers_left hand + (cond (is_busy old) 1 0 + cond (is_gone old) 1 0)
      ≤ offers_left old + (done + cond (is_busy hand) 1 0 + cond (is_gone hand) 1 0)

module _ (o : Opening) (a b : Parts) (is : IsSearch o a) (worker leaf done : ℕ) (step : FullStep)
    (may : MayCome o (state_of o a.log.steps) step) (spot : Spot) (old hand : Hand) (worth : Bound) (more : List Prices)
    (places_after : (after (state_of o a.log.steps) step).places
    ≡ with_spot (state_of o a.log.steps).places leaf spot)
    (tables_after : (after (state_of o a.log.steps) step).tables ≡ (state_of o a.log.steps).tables ++ more)
    (plans_after : (after (state_of o a.log.steps) step).accepted ≡ (state_of o a.log.steps).accepted)
    (finished_after : (after (state_of o a.log.steps) step).finished ≡ (state_of o a.log.steps).finished + done)
    (was : is_inner (spot_at (state_of o a.log.steps) leaf) ≡ false) (is_leaf : is_inner spot ≡ false)
    (inside : worker < length a.hands) (had : hand_at a.hands worker ≡ old)
    (mine : IsHandOf (after (state_of o a.log.steps) step) worker hand)
    (others : (w : ℕ) → w ≢ worker → IsAlike (state_of o a.log.steps) (after (state_of o a.log.steps) step) w)
    (counted : IsCounted done old hand)
    (held_count : count_spots is_held (after (state_of o a.log.steps) step).places + cond (is_busy old) 1 0
    ≡ count_spots is_held (state_of o a.log.steps).places + cond (is_busy hand) 1 0)
    (is_worth : IsLeafWorth o.problem (after (state_of o a.log.steps) step) leaf worth)
    (steps : b.log.steps ≡ a.log.steps ++ step ∷ [])
    (tables : b.log.tables ≡ a.log.tables ++ more) (plans : b.log.plans ≡ a.log.plans)
    (step_room : b.log.step_room ≡ a.log.step_room) (table_room : b.log.table_room ≡ a.log.table_room)
    (plan_room : b.log.plan_room ≡ a.log.plan_room)
    (places : b.places.places ≡ with_spot a.places.places leaf spot) (room : b.places.room ≡ a.places.room)
    (hands : b.hands ≡ set a.hands worker hand)
    (frees : b.free ≡ set a.free leaf (free_entry spot worth leaf))
    (worths : b.worths ≡ set a.worths leaf worth) (finished : b.finished ≡ a.finished + done)
    (sets : length b.sets ≡ length a.sets) where
  abbrev s : State
  s = state_of o a.log.steps

  abbrev n : State
  n = after s step

  within : leaf < length s.places
  within = leaf_within s.places leaf was

  elsewhere : (j : ℕ) → j ≢ leaf → spot_at n j ≡ spot_at s j
  elsewhere = spot-there s n leaf spot within places_after

  here : spot_at n leaf ≡ spot
  here = spot-here s n leaf spot within places_after

  hands_size : length b.hands ≡ length a.hands
  hands_size = ap (λ (x : List Hand). length x) hands ∙ length-set a.hands worker hand

  now_sum : (f : Hand → ℕ) → sum_by f b.hands + f old ≡ sum_by f a.hands + f hand
  now_sum f =
      let sum = sum-after f a.hands worker old hand inside had in
      let same = ap (λ (x : List Hand). sum_by f x) hands in
      omega (arith, sum, same)

  free_size : length b.free ≡ length a.free
  free_size = ap (λ (x : Entries). length x) frees ∙ length-set a.free leaf _

  leaf_inside : leaf < 2 * o.budget + 1
  leaf_inside =
      let same = ap (λ (x : List Place). length x) is.parts.places in
      let few = places_within o a is in
      omega (arith, within, same, few)

  worth_here : worth_at b.worths leaf ≡ worth
  worth_here =
      ap (λ (x : List Bound). worth_at x leaf) worths
      ∙ get_or-set_same a.worths leaf worth NoPlan (omega (arith, leaf_inside, is.parts.worths_size))

  worth_there : (k : ℕ) → k ≢ leaf → worth_at b.worths k ≡ worth_at a.worths k
  worth_there k apart =
      ap (λ (x : List Bound). worth_at x k) worths ∙ get_or-set_other a.worths leaf k worth NoPlan apart

  now_free : (k : ℕ) → k < length b.free → entry_at b.free k ≡ free_entry (spot_at n k) (worth_at b.worths k) k
  now_free k below =
      let entry = free_entry spot worth leaf in
      let at : entry_at b.free k ≡ entry_at (set a.free leaf entry) k = ap (λ (x : Entries). entry_at x k) frees in
      elim (cases_eq k leaf) [
        | inl same ↦
            let put : entry_at (set a.free leaf entry) k ≡ entry =
            ap (entry_at (set a.free leaf entry)) same
            ∙ get_or-set_same a.free leaf entry None (omega (arith, leaf_inside, is.parts.free_size)) in
            let is_entry : free_entry (spot_at n leaf) (worth_at b.worths leaf) leaf ≡ entry =
            ap (λ (x : Spot). free_entry x (worth_at b.worths leaf) leaf) here
            ∙ ap (λ (x : Bound). free_entry spot x leaf) worth_here in
            at ∙ put ∙ sym is_entry
            ∙ ap (λ (j : ℕ). free_entry (spot_at n j) (worth_at b.worths j) j) (sym same)
        | inr apart ↦
            at ∙ get_or-set_other a.free leaf k entry None apart ∙ is.parts.free k (omega (arith, below, free_size))
            ∙ ap (λ (x : Spot). free_entry x (worth_at a.worths k) k) (sym (elsewhere k apart))
            ∙ ap (λ (x : Bound). free_entry (spot_at n k) x k) (sym (worth_there k apart))
      ]

  now_worths : (k : ℕ) → IsLeaf n k → IsLeafWorth o.problem n k (worth_at b.worths k)
  now_worths k leaf_k =
      elim (cases_eq k leaf) [
        | inl same ↦
            let at : IsLeafWorth o.problem n leaf (worth_at b.worths leaf) =
            subst (λ (x : Bound). IsLeafWorth o.problem n leaf x) (sym worth_here) is_worth in
            subst (λ (j : ℕ). IsLeafWorth o.problem n j (worth_at b.worths j)) (sym same) at
        | inr apart ↦
            let before : IsLeaf s k = ap is_inner (sym (elsewhere k apart)) ∙ leaf_k in
            let number = (is_sound o a is).numbers k before in
            let prices = prices-kept s n k more tables_after number (elsewhere k apart) in
            subst (λ (x : Bound). IsLeafWorth o.problem n k x) (sym (worth_there k apart))
            (same-worth o.problem n s k (worth_at a.worths k) (sym (sets-kept s n leaf spot within places_after k))
            (sym prices) (is.parts.worths k before))
      ]

  parts_after : ArePartsOf o n b
  parts_after = record {
    workers = is.parts.workers ∙ sym hands_size;
    places = places_after ∙ ap (λ (x : List Place). with_spot x leaf spot) is.parts.places ∙ sym places;
    tables = tables_after ∙ ap (λ (x : List Prices). x ++ more) is.parts.tables ∙ sym tables;
    plans = plans_after ∙ is.parts.plans ∙ sym plans;
    finished = finished_after ∙ ap (λ (x : ℕ). x + done) is.parts.finished ∙ sym finished;
    hands = λ w below. subst (λ (x : List Hand). IsHandOf n w (hand_at x w)) (sym hands)
        (hands-after s n a.hands worker hand inside is.parts.hands mine others w
        (omega (arith, below, hands_size, length-set a.hands worker hand)));
    workers_hold = λ w k held. elim (cases_eq w worker) [
      | inl same ↦ omega (arith, same, inside, hands_size)
      | inr apart ↦ omega (arith, hands_size, is.parts.workers_hold w k ((others w apart).back k held))
    ];
    busy =
        let sum = now_sum (λ h. cond (is_busy h) 1 0) in
        omega (arith, sum, held_count, is.parts.busy);
    free = now_free;
    worths = now_worths;
    few_places =
        let size = ap (λ (x : List Place). length x) places in
        let same = length-with_spot a.places.places leaf spot in
        omega (arith, size, same, is.parts.few_places, finished);
    few_steps =
        let size = ap (λ (x : List FullStep). length x) steps in
        let one = length-append a.log.steps (step ∷ []) in
        let left = now_sum steps_left in
        let busy = now_sum (λ h. cond (is_busy h) 1 0) in
        let gone = now_sum (λ h. cond (is_gone h) 1 0) in
        omega (arith, size, one, left, busy, gone, finished, is.parts.few_steps, counted.steps);
    few_plans =
        let size = ap (λ (x : List Checked). length x) plans in
        let left = now_sum offers_left in
        let busy = now_sum (λ h. cond (is_busy h) 1 0) in
        let gone = now_sum (λ h. cond (is_gone h) 1 0) in
        omega (arith, size, left, busy, gone, finished, is.parts.few_plans, counted.plans);
    places_room = room ∙ is.parts.places_room;
    steps_room = step_room ∙ is.parts.steps_room;
    tables_room = table_room ∙ is.parts.tables_room;
    plans_room = plan_room ∙ is.parts.plans_room;
    free_size = free_size ∙ is.parts.free_size;
    worths_size = ap (λ (x : List Bound). length x) worths ∙ length-set a.worths leaf worth ∙ is.parts.worths_size;
    sets_size = sets ∙ is.parts.sets_size;
  }

  pub stepped_search : IsSearch o b
  stepped_search =
      let reached : state_of o b.log.steps ≡ n =
      ap (state_of o) steps ∙ state-last (first_state o) a.log.steps step in
      record {
        opening = is.opening;
        few_leaves = is.few_leaves;
        few_workers = is.few_workers;
        history = subst (λ (x : List FullStep). IsHistory o x) (sym steps)
            (history-last o (first_state o) a.log.steps step is.history may);
        parts = subst (λ (x : State). ArePartsOf o x b) (sym reached) parts_after;
      }
