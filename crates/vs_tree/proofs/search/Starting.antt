-- The parts of a search that has made no step.
use Rattle.std.proofs.Common.{◌≡◌, ℕ, zero, suc, ◌+◌, ◌*◌, ◌<◌, ◌≤◌, cond, List, [], ◌∷◌, length, set, refl, sym, ap, ◌∙◌, subst, arith, length-set, sum_by, Option, None, Some, replicate}
use Rattle.std.proofs.lemmas.List.{get_or-set_same, get_or-set_other, get_or-replicate, length-replicate}
use Rattle.std.proofs.lemmas.List.Folds.{sum_by-replicate}
use Rattle.vs_instance.specs.Restriction.{permitted_sets}
use Rattle.vs_plan.specs.CheckedPlan.{Checked}
use Rattle.vs_prices.specs.declared.bound.Bound.{Bound}
use Rattle.vs_prices.specs.declared.bound.Bound.TheVariants.{NoPlan}
use Rattle.vs_tree.specs.declared.entry.Entry.{Entry}
use Rattle.vs_tree.specs.declared.calls.Hand.{Hand}
use Rattle.vs_tree.specs.declared.calls.Hand.TheVariants.{Idle, Gone}
use Rattle.vs_instance.specs.declared.limits.TheConstants.{MAX_BUDGET, MAX_WORKERS}
use Rattle.vs_tree.specs.declared.spot.Spot.TheVariants.{Free}
use Rattle.vs_tree.specs.Free.{Entries, entry_at}
use Rattle.vs_tree.specs.History.{FullStep, Opening, Place, State, IsHistory, IsLeaf, IsLeafWorth, first_state, plans_of, spot_at, state_of}
use Rattle.vs_tree.specs.Prices.{AreWorth, zero_prices}
use Rattle.vs_tree.specs.Search.{ArePartsOf, IsHandOf, IsSearch, Parts, free_entry, hand_at, is_busy, offers_left, steps_left, worth_at}
use Rattle.vs_tree.specs.Sound.{IsOpening}
use Rattle.vs_tree.proofs.sound.Histories.{not_held, only_root}

module _ (o : Opening) (b : Parts) (opening : IsOpening o) (few : o.budget ≤ MAX_BUDGET)
    (few_workers : o.workers ≤ MAX_WORKERS)
    (least : Bound) (worth : AreWorth o.problem (permitted_sets o.problem) (zero_prices o.problem) least)
    (steps : b.log.steps ≡ []) (tables : b.log.tables ≡ zero_prices o.problem ∷ [])
    (plans : b.log.plans ≡ plans_of o.first)
    (step_room : b.log.step_room ≡ 3 * (o.budget + o.workers)) (table_room : b.log.table_room ≡ o.budget + 1)
    (plan_room : b.log.plan_room ≡ o.budget + o.workers + 1)
    (places : b.places.places ≡ record { spot = Free 0; sets = permitted_sets o.problem } ∷ [])
    (room : b.places.room ≡ 2 * o.budget + 1)
    (hands : b.hands ≡ replicate o.workers Idle)
    (free : b.free ≡ set (replicate (2 * o.budget + 1) None) 0 (Some (record { worth = least; leaf = 0 })))
    (worths : b.worths ≡ set (replicate (2 * o.budget + 1) NoPlan) 0 least) (finished : b.finished ≡ 0)
    (sets : length b.sets ≡ length o.problem.trips) where
  abbrev s : State
  s = first_state o

  workers : length b.hands ≡ o.workers
  workers = ap (λ (x : List Hand). length x) hands ∙ length-replicate o.workers Idle

  none_left : (f : Hand → ℕ) → f Idle ≡ 0 → sum_by f b.hands ≡ 0
  none_left f none =
      ap (λ (x : List Hand). sum_by f x) hands ∙ sum_by-replicate f o.workers Idle
      ∙ omega (arith, ap (λ (x : ℕ). o.workers * x) none)

  idle : (w : ℕ) → w < length b.hands → hand_at b.hands w ≡ Idle
  idle w inside =
      ap (λ (x : List Hand). hand_at x w) hands
      ∙ get_or-replicate o.workers w Idle Gone (omega (arith, inside, workers))

  hand-is : (w : ℕ) → w < length b.hands → IsHandOf s w (hand_at b.hands w)
  hand-is w inside =
      let free_hands : IsHandOf s w Idle = (λ k held. not_held o opening w k held, λ among. cc) in
      subst (λ (h : Hand). IsHandOf s w h) (sym (idle w inside)) free_hands

  abbrev none : Option Entry
  none = None

  free_sized : length b.free ≡ 2 * o.budget + 1
  free_sized =
      ap (λ (x : Entries). length x) free ∙ length-set (replicate (2 * o.budget + 1) none) 0 _
      ∙ length-replicate (2 * o.budget + 1) none

  worth_root : worth_at b.worths 0 ≡ least
  worth_root =
      let size = length-replicate (2 * o.budget + 1) NoPlan in
      ap (λ (x : List Bound). worth_at x 0) worths
      ∙ get_or-set_same (replicate (2 * o.budget + 1) NoPlan) 0 least NoPlan (omega (arith, size))

  free-is : (k : ℕ) → k < length b.free → entry_at b.free k ≡ free_entry (spot_at s k) (worth_at b.worths k) k
  free-is zero inside =
      let size = length-replicate (2 * o.budget + 1) none in
      ap (λ (x : Entries). entry_at x 0) free
      ∙ get_or-set_same (replicate (2 * o.budget + 1) none) 0 _ none (omega (arith, size))
      ∙ ap (λ (x : Bound). Some (record { worth = x; leaf = 0 })) (sym worth_root)
  free-is (suc k) inside =
      ap (λ (x : Entries). entry_at x (suc k)) free
      ∙ get_or-set_other (replicate (2 * o.budget + 1) none) 0 (suc k) _ none (λ e. omega arith)
      ∙ get_or-replicate (2 * o.budget + 1) (suc k) none none (omega (arith, inside, free_sized))

  worth-is : (k : ℕ) → IsLeaf s k → IsLeafWorth o.problem s k (worth_at b.worths k)
  worth-is k leaf =
      let root : k ≡ 0 = only_root o opening k leaf in
      let at : IsLeafWorth o.problem s 0 (worth_at b.worths 0) =
      subst (λ (x : Bound). IsLeafWorth o.problem s 0 x) (sym worth_root) worth in
      subst (λ (j : ℕ). IsLeafWorth o.problem s j (worth_at b.worths j)) (sym root) at

  first_plans : (first : Option Checked) → length (plans_of first) ≤ 1
  first_plans None = omega arith
  first_plans (Some plan) = omega arith

  start_parts : ArePartsOf o s b
  start_parts = record {
    workers = sym workers;
    places = sym places;
    tables = sym tables;
    plans = sym plans;
    finished = sym finished;
    hands = hand-is;
    workers_hold = λ w k held. absurd (not_held o opening w k held);
    busy = none_left (λ h. cond (is_busy h) 1 0) refl;
    free = free-is;
    worths = worth-is;
    few_places = let size = ap (λ (x : List Place). length x) places in omega (arith, size);
    few_steps =
        let size = ap (λ (x : List FullStep). length x) steps in
        let left = none_left steps_left refl in
        omega (arith, size, left);
    few_plans =
        let size = ap (λ (x : List Checked). length x) plans in
        let left = none_left offers_left refl in
        omega (arith, size, left, first_plans o.first);
    places_room = room;
    steps_room = step_room;
    tables_room = table_room;
    plans_room = plan_room;
    free_size = free_sized;
    worths_size = ap (λ (x : List Bound). length x) worths
        ∙ length-set (replicate (2 * o.budget + 1) NoPlan) 0 least ∙ length-replicate (2 * o.budget + 1) NoPlan;
    sets_size = sets;
  }

  pub start_search : IsSearch o b
  start_search =
      let reached : state_of o b.log.steps ≡ s = ap (state_of o) steps in
      record {
        opening = opening;
        few_leaves = few;
        few_workers = few_workers;
        history = subst (λ (x : List FullStep). IsHistory o x) (sym steps) tt;
        parts = subst (λ (x : State). ArePartsOf o x b) (sym reached) start_parts;
      }
