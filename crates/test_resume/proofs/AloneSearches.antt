-- When a search by one worker is over.
use Rattle.std.proofs.Common.{◌≡◌, ℕ, zero, suc, ◌<◌, ◌≤◌, Bool, true, false, cond, List, [], ◌∷◌, inl, inr, refl, sym, ap, ◌∙◌, subst, arith, Option, None, option_map, ℤ}
use Rattle.std.specs.List.{last_or}
use Rattle.std.proofs.lemmas.Bool.{cases_lt}
use Rattle.std.proofs.lemmas.List.Sums.{sum_by-cons}
use Rattle.vs_types.specs.declared.layer_set.LayerSet.{LayerSet}
use Rattle.vs_instance.specs.Instance.{IsInstance}
use Rattle.vs_instance.specs.Problem.{Problem}
use Rattle.vs_instance.specs.Restriction.{permitted_sets}
use Rattle.vs_plan.specs.CheckedPlan.{Checked}
use Rattle.vs_prices.specs.Bounds.{IsBelow}
use Rattle.vs_prices.specs.declared.bound.Bound.{Bound}
use Rattle.vs_prices.specs.declared.bound.Bound.TheVariants.{AtLeast, NoPlan}
use Rattle.vs_prices.specs.declared.table.Table.{Table}
use Rattle.vs_tree.specs.declared.calls.Take.{Take}
use Rattle.vs_tree.specs.declared.calls.Take.TheVariants.{Node, Wait, Done, Spent}
use Rattle.vs_tree.specs.declared.spot.Spot.{Spot}
use Rattle.vs_tree.specs.declared.spot.Spot.TheVariants.{Inner, Free, Held, Closed}
use Rattle.vs_tree.specs.History.{Opening, Place, State, Took, IsHeldBy, IsHistory, count_spots, first_state, is_held, known, place_at, plans_of, spot_at}
use Rattle.vs_tree.specs.Prices.{AreWorth, Prices, zero_prices}
use Rattle.vs_tree.specs.Search.{Search, state}
use Rattle.vs_tree.specs.Sound.{IsOpening}
use Rattle.vs_tree.specs.Takes.{IsOver, IsTake, IsWorkLeft, held_leaves, taking}
use Rattle.vs_tree.proofs.CallerLemmas.{lawful_worth, state-last, zeros_lawful}
use Rattle.vs_node.specs.WorkedHistory.{AreWorked}
use Rattle.vs_crew.specs.Sharing.{IsIdle}
use Rattle.vs_crew.proofs.CallerLemmas.{holders_are_workers, worked-append}
use Rattle.test_resume.specs.Alone.{IsBetweenLeaves, begun_alone}

-- where some spots are held, one is
abbrev SomeHeld : List Place → Type 0
SomeHeld places = (k : ℕ) × (is_held (place_at places k).spot ≡ true)

held_first : (q : Place) (places : List Place) (b : Bool) → is_held q.spot ≡ b
    → 0 < count_spots is_held (q ∷ places) → (0 < count_spots is_held places → SomeHeld places) → SomeHeld (q ∷ places)
held_first q places true is some rest = (0, is)
held_first q places false is some rest =
    let none = ap {B = ℕ} (λ (b : Bool). cond b 1 0) is in
    let sum = sum_by-cons (λ (x : Place). cond (is_held x.spot) 1 0) q places in
    let later = rest (omega (arith, some, none, sum)) in
    (suc later.0, later.1)

some_held : (places : List Place) → 0 < count_spots is_held places → SomeHeld places
some_held [] some = absurd (omega (arith, some))
some_held (q ∷ places) some = held_first q places (is_held q.spot) refl some (some_held places)

-- by a worker
held_by : (s : State) (k : ℕ) → is_held (spot_at s k) ≡ true → (w : ℕ) × IsHeldBy s w k
held_by s k is = by_spot (spot_at s k) refl is
  where
    by_spot : (spot : Spot) → spot_at s k ≡ spot → is_held spot ≡ true → (w : ℕ) × IsHeldBy s w k
    by_spot (Inner trip left lower upper) at held = absurd cc
    by_spot (Free table) at held = absurd cc
    by_spot (Held w table) at held = (w, (table, at))
    by_spot (Closed table) at held = absurd cc

-- where the only worker has no leaf, none is held
pub none_held : (t : Search) → IsOpening t.opening → IsHistory t.opening t.steps → t.opening.workers ≡ 1
    → IsIdle 0 t.opening (state t) → held_leaves (state t) ≡ 0
none_held t opening history workers idle =
    elim (cases_lt 0 (held_leaves (state t))) [
      | inl some ↦
          let at = some_held (state t).places some in
          let by = held_by (state t) at.0 at.1 in
          let inside = holders_are_workers t.opening t.steps opening history by.0 at.0 by.1 in
          let first : by.0 ≡ 0 = omega (arith, inside, workers) in
          absurd (idle.holds_none at.0 (subst (λ (w : ℕ). IsHeldBy (state t) w at.0) first by.1))
      | inr none ↦ omega (arith, none)
    ]

-- where it is then told of no leaf, the search is over
pub told_end : (o : Opening) (s : State) (sets : List LayerSet) (table : Table) (take : Take) → held_leaves s ≡ 0
    → IsTake o s sets table take → ((leaf : ℕ) (cost : Option ℤ) → take ≡ Node leaf cost → ⊥) → IsOver o s
told_end o s sets table (Node leaf cost) none answer other = absurd (other leaf cost refl)
told_end o s sets table Wait none answer other = let some = answer.0 in absurd (omega (arith, some, none))
told_end o s sets table Done none answer other = record { none_held = answer.0; no_more = inl answer.1 }
told_end o s sets table Spent none answer other = record { none_held = answer.0; no_more = inr answer.2 }

-- and stays as it is
pub kept_search : (t new : Search) (take : Take) → ((leaf : ℕ) (cost : Option ℤ) → take ≡ Node leaf cost → ⊥)
    → new ≡ record t { steps = taking 0 t.steps take } → new ≡ t
kept_search t new (Node leaf cost) other is = absurd (other leaf cost refl)
kept_search t new Wait other is = is
kept_search t new Done other is = is
kept_search t new Spent other is = is

-- a leaf that is taken is none that is finished
pub taken_finished : (t new : Search) (take : Take) (leaf : ℕ) (cost : Option ℤ) → take ≡ Node leaf cost
    → new ≡ record t { steps = taking 0 t.steps take } → (state new).finished ≡ (state t).finished
taken_finished t new take leaf cost node is =
    let step = state-last (first_state t.opening) t.steps (Took 0 leaf) in
    ap (λ (n : Search). (state n).finished) (is ∙ ap (λ (k : Take). record t { steps = taking 0 t.steps k }) node)
    ∙ ap (λ (s : State). s.finished) step

-- and none that had to be worked on
pub taken_worked : (t new : Search) (take : Take) (leaf : ℕ) (cost : Option ℤ) → take ≡ Node leaf cost
    → new ≡ record t { steps = taking 0 t.steps take } → AreWorked t.opening t.steps → AreWorked new.opening new.steps
taken_worked t new take leaf cost node is worked =
    let then = is ∙ ap (λ (k : Take). record t { steps = taking 0 t.steps k }) node in
    subst (λ (n : Search). AreWorked n.opening n.steps) (sym then)
    (worked-append t.opening (first_state t.opening) t.steps (Took 0 leaf ∷ []) worked (tt, tt))

-- at first the worker has no leaf
module _ (o : Opening) where
  holds_none : (k : ℕ) → ¬ (IsHeldBy (first_state o) 0 k)
  holds_none zero held = let is = held.1 in cc
  holds_none (suc k) held = let is = held.1 in cc

  at_first : o.workers ≡ 1 → IsIdle 0 o (first_state o)
  at_first workers = record {
    is_worker = omega (arith, workers);
    holds_none = holds_none;
    stays = λ among. let is = among.1 in absurd cc;
  }

pub begins : (p : Problem) (budget : ℕ) (t : Search) → t ≡ record { opening = begun_alone p budget; steps = [] }
    → IsBetweenLeaves t
begins p budget t is =
    subst IsBetweenLeaves (sym is) (record { workers = refl; idle = at_first (begun_alone p budget) refl; worked = tt })

-- at first the root may be worked on
module _ (o : Opening) (is : IsInstance o.problem) (first : o.first ≡ None) where
  none_known : known (first_state o) ≡ None
  none_known =
      ap (λ (plan : Option Checked). option_map (λ (c : Checked). c.cost) (last_or None (plans_of plan))) first

  by_bound : (bound : Bound) → AreWorth o.problem (permitted_sets o.problem) (zero_prices o.problem) bound
      → IsWorkLeft o.problem (first_state o)
  by_bound NoPlan worth =
      let ray = worth.worth.0 in
      let not : worth.table.ray ≡ false = ap (λ (x : Prices). x.ray) worth.listed in
      absurd cc
  by_bound (AtLeast n) worth = record {
    leaf = 0;
    worth = AtLeast n;
    free = (0, refl);
    is_worth = worth;
    below = subst (λ (cost : Option ℤ). IsBelow (AtLeast n) cost) (sym none_known) tt;
  }

  work_left : IsWorkLeft o.problem (first_state o)
  work_left =
      let worth = lawful_worth o.problem (permitted_sets o.problem) (zero_prices o.problem)
      (zeros_lawful o.problem is) in
      by_bound worth.0 worth.1

  -- so a search that may work on a leaf isn't over at first
  pub first_not_over : 1 ≤ o.budget → ¬ (IsOver o (first_state o))
  first_not_over some over =
      elim over.no_more [ inl none ↦ none work_left | inr spent ↦ absurd (omega (arith, some, spent)) ]
