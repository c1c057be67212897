-- The parts of a search once a plan was offered.
use Rattle.std.proofs.Common.{◌≡◌, ◌≢◌, ℕ, suc, ◌+◌, ◌<◌, ◌≤◌, true, false, cond, List, [], ◌∷◌, ◌++◌, length, set, refl, sym, ap, ◌∙◌, subst, arith, inl, inr, Option, None, Some, ℤ, length-append, length-set, sum_by}
use Rattle.vs_plan.specs.CheckedPlan.{Checked}
use Rattle.vs_prices.specs.declared.bound.Bound.{Bound}
use Rattle.vs_tree.specs.declared.calls.Hand.{Hand}
use Rattle.vs_tree.specs.declared.calls.Hand.TheVariants.{Idle, Has}
use Rattle.vs_tree.specs.Cuts.{Places}
use Rattle.vs_tree.specs.Free.{Entries, entry_at}
use Rattle.vs_tree.specs.History.{FullStep, Offered, Opening, State, IsAmong, IsHeldBy, IsHistory, IsLeafWorth, MayOffer, after, first_state, plans_of, spot_at, state_of}
use Rattle.vs_tree.specs.Search.{ArePartsOf, IsHandOf, IsSearch, Parts, free_entry, hand_at, is_busy, is_gone, offers_left, steps_left, worth_at}
use Rattle.vs_tree.proofs.search.Facts.{few_taken, history-last, is_sound, state-last}
use Rattle.vs_tree.proofs.search.GivingBack.{new-hand}
use Rattle.vs_tree.proofs.search.Hands.{IsAlike, hands-after, sum-after}
use Rattle.vs_tree.proofs.sound.GaveBack.{among-cons}

one_plan : (added : Option Checked) → length (plans_of added) ≤ 1
one_plan None = omega arith
one_plan (Some plan) = omega arith

module _ (o : Opening) (a : Parts) (is : IsSearch o a) (worker leaf : ℕ)
    (held : IsHeldBy (state_of o a.log.steps) worker leaf)
    (new : ¬ (IsAmong worker (state_of o a.log.steps).offered)) where
  abbrev s : State
  s = state_of o a.log.steps

  abbrev hand : Hand
  hand = Has leaf true

  inside : worker < length a.hands
  inside = is.parts.workers_hold worker leaf held

  pub had : hand_at a.hands worker ≡ Has leaf false
  had = new-hand o s (is_sound o a is) worker leaf (hand_at a.hands worker) held new (is.parts.hands worker inside)

  -- there is room for one more plan
  pub room_for_plan : length a.log.plans < a.log.plan_room
  room_for_plan =
      let few = few_taken o a is in
      let sum = sum-after offers_left a.hands worker (Has leaf false) Idle inside had in
      omega (arith, few, sum, is.parts.few_plans, is.parts.plans_room)

  module _ (cost : ℤ) (number : Option ℕ) (added : Option Checked) (may : MayOffer o s worker cost number added)
      (b : Parts)
      (steps : b.log.steps ≡ a.log.steps ++ Offered worker cost number added ∷ [])
      (tables : b.log.tables ≡ a.log.tables) (plans : b.log.plans ≡ a.log.plans ++ plans_of added)
      (step_room : b.log.step_room ≡ a.log.step_room) (table_room : b.log.table_room ≡ a.log.table_room)
      (plan_room : b.log.plan_room ≡ a.log.plan_room)
      (places : b.places ≡ a.places) (hands : b.hands ≡ set a.hands worker hand) (frees : b.free ≡ a.free)
      (worths : b.worths ≡ a.worths) (finished : b.finished ≡ a.finished) (sets : length b.sets ≡ length a.sets) where
    abbrev n : State
    n = after s (Offered worker cost number added)

    others : (w : ℕ) → w ≢ worker → IsAlike s n w
    others w apart = record {
      forth = λ k has. has;
      back = λ k has. has;
      gone = λ among. among;
      stays = λ among. among;
      offered = λ among.
          elim (among-cons w worker s.offered among) [ inl same ↦ absurd (apart same) | inr old ↦ old ];
      offers = λ among. (suc among.0, among.1);
    }

    hands_size : length b.hands ≡ length a.hands
    hands_size = ap (λ (x : List Hand). length x) hands ∙ length-set a.hands worker hand

    now_sum : (f : Hand → ℕ) → sum_by f b.hands + f (Has leaf false) ≡ sum_by f a.hands + f hand
    now_sum f =
        let sum = sum-after f a.hands worker (Has leaf false) hand inside had in
        let same = ap (λ (x : List Hand). sum_by f x) hands in
        omega (arith, sum, same)

    parts_after : ArePartsOf o n b
    parts_after =
        let busy = now_sum (λ h. cond (is_busy h) 1 0) in
        let gone = now_sum (λ h. cond (is_gone h) 1 0) in
        record {
          workers = is.parts.workers ∙ sym hands_size;
          places = is.parts.places ∙ ap (λ (x : Places). x.places) (sym places);
          tables = is.parts.tables ∙ sym tables;
          plans = ap (λ (x : List Checked). x ++ plans_of added) is.parts.plans ∙ sym plans;
          finished = is.parts.finished ∙ sym finished;
          hands = λ w below. subst (λ (x : List Hand). IsHandOf n w (hand_at x w)) (sym hands)
              (hands-after s n a.hands worker hand inside is.parts.hands (held, (0, refl)) others w
              (omega (arith, below, hands_size, length-set a.hands worker hand)));
          workers_hold = λ w k has. omega (arith, is.parts.workers_hold w k has, hands_size);
          busy = omega (arith, busy, is.parts.busy);
          free = λ k below.
              let size = ap (λ (x : Entries). length x) frees in
              ap (λ (x : Entries). entry_at x k) frees ∙ is.parts.free k (omega (arith, below, size))
              ∙ ap (λ (x : List Bound). free_entry (spot_at s k) (worth_at x k) k) (sym worths);
          worths = λ k is_leaf.
              let old = is.parts.worths k is_leaf in
              let kept : IsLeafWorth o.problem n k (worth_at a.worths k) =
              record { table = old.table; listed = old.listed; worth = old.worth } in
              subst (λ (x : List Bound). IsLeafWorth o.problem n k (worth_at x k)) (sym worths) kept;
          few_places =
              let size = ap (λ (x : Places). length x.places) places in
              omega (arith, size, is.parts.few_places, finished);
          few_steps =
              let size = ap (λ (x : List FullStep). length x) steps in
              let one = length-append a.log.steps (Offered worker cost number added ∷ []) in
              let left = now_sum steps_left in
              omega (arith, size, one, left, busy, gone, finished, is.parts.few_steps);
          few_plans =
              let size = ap (λ (x : List Checked). length x) plans in
              let one = length-append a.log.plans (plans_of added) in
              let left = now_sum offers_left in
              omega (arith, size, one, one_plan added, left, busy, gone, finished, is.parts.few_plans);
          places_room = ap (λ (x : Places). x.room) places ∙ is.parts.places_room;
          steps_room = step_room ∙ is.parts.steps_room;
          tables_room = table_room ∙ is.parts.tables_room;
          plans_room = plan_room ∙ is.parts.plans_room;
          free_size = ap (λ (x : Entries). length x) frees ∙ is.parts.free_size;
          worths_size = ap (λ (x : List Bound). length x) worths ∙ is.parts.worths_size;
          sets_size = sets ∙ is.parts.sets_size;
        }

    pub offered_search : IsSearch o b
    offered_search =
        let step = Offered worker cost number added in
        let reached : state_of o b.log.steps ≡ n =
        ap (state_of o) steps ∙ state-last (first_state o) a.log.steps step in
        record {
          opening = is.opening;
          few_leaves = is.few_leaves;
          few_workers = is.few_workers;
          history = subst (λ (x : List FullStep). IsHistory o x) (sym steps)
              (history-last o (first_state o) a.log.steps step is.history may);
          parts = subst (λ (x : State). ArePartsOf o x b) (sym reached) parts_after;
        }
