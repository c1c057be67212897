-- What becomes of a whole trace.
use Rattle.std.proofs.Common.{◌≡◌, ℕ, zero, suc, ◌+◌, ◌<◌, ◌≤◌, List, [], ◌∷◌, length, get_or, take, refl, sym, ap, ◌∙◌, subst, inl, inr, ◌⊎◌, arith, Option, Some, None, ℤ}
use Rattle.std.proofs.lemmas.List.{take_all}
use Rattle.vs_instance.specs.Problem.{Problem}
use Rattle.vs_plan.specs.CheckedPlan.{Checked}
use Rattle.vs_plan.specs.declared.block.Plan.{Plan}
use Rattle.vs_tree.specs.History.{FullStep, GaveBack, Opening, State, IsHistory, MayCome, MayFollow, after, first_state, plans_of, state_after, state_of}
use Rattle.vs_tree.specs.Search.{Search, state}
use Rattle.vs_tree.specs.Takes.{held_leaves}
use Rattle.vs_trace.specs.Traces.{first_plans, steps_from, told_first, told_opening, told_steps}
use Rattle.vs_trace.specs.declared.trace.Trace.{Trace}
use Rattle.vs_replay.specs.Making.{AreMade, next_steps}
use Rattle.vs_replay.specs.Replays.{IsFirstRight, IsLeftHeld, IsStuck, IsWrongAt, Replays}
use Rattle.vs_replay.proofs.StepByStep.{count_steps}

-- each step of a history may come where those before it lead to
each_may : (o : Opening) (s : State) (steps : List FullStep) (k : ℕ) (d : FullStep) → MayFollow o s steps
    → k < length steps → MayCome o (state_after s (take k steps)) (get_or steps k d)
each_may o s [] k d may lt = absurd (omega (arith, lt))
each_may o s (x ∷ steps) zero d may lt = may.0
each_may o s (x ∷ steps) (suc k) d may lt = each_may o (after s x) steps k d may.1 (omega (arith, lt))

first_counts : (p : Problem) (first : Option (ℤ × Plan)) → length (plans_of (told_first p first)) ≡ first_plans first
first_counts p None = refl
first_counts p (Some f) = refl

-- a search that begins as the trace tells, and has made no step
abbrev pub beginning : Problem → Trace → Search
beginning p t = record { opening = told_opening p t; steps = [] }

module _ (p : Problem) (t : Trace) where
  abbrev steps : List FullStep
  steps = told_steps p t

  -- the steps that are told are those that come next then
  steps_next : next_steps (beginning p t) t.steps.items ≡ steps
  steps_next = ap (λ (n : ℕ). steps_from p 1 n t.steps.items) (first_counts p t.first)

  count : length steps ≡ length t.steps.items
  count = count_steps p 1 (first_plans t.first) t.steps.items

  -- a place is counted from 1
  wrong_at : (k : ℕ) → IsStuck p t k ⊎ IsLeftHeld p t k → IsWrongAt p t (k + 1)
  wrong_at k wrong = let one : suc k ≡ k + 1 = omega arith in subst (IsWrongAt p t) one wrong

  module _ (now : Search) (made : ℕ) (right : IsFirstRight p t)
      (are : AreMade (beginning p t) now t.steps.items made) where
    before : MayFollow (told_opening p t) (first_state (told_opening p t)) (take made steps)
    before = subst
        (λ (xs : List FullStep). MayFollow (told_opening p t) (first_state (told_opening p t)) (take made xs))
        steps_next are.history

    module _ (all : made ≡ length t.steps.items) where
      pub is_tree : now ≡ record { opening = told_opening p t; steps = steps }
      is_tree = are.all all ∙ ap (λ (xs : List FullStep). record { opening = told_opening p t; steps = xs }) steps_next

      history : IsHistory (told_opening p t) steps
      history = subst (λ (xs : List FullStep). IsHistory (told_opening p t) xs)
          (take_all made steps (omega (arith, all, count))) before

      held_is : held_leaves (state now) ≡ held_leaves (state_of (told_opening p t) steps)
      held_is = ap (λ (s : Search). held_leaves (state s)) is_tree

      -- no leaf is held: the trace replays
      pub replays : held_leaves (state now) ≡ 0 → Replays p t
      replays none = record { first = right; history = history; none_held = sym held_is ∙ none }

      -- one is held: it doesn't
      pub left_held : 0 < held_leaves (state now) → IsWrongAt p t (made + 1) × ¬ (Replays p t)
      left_held some =
          let held : 0 < held_leaves (state_of (told_opening p t) steps) = omega (arith, some, held_is) in (
            wrong_at made (inr (record { first = right; history = history; all = all; held = held })),
            λ is. absurd (omega (arith, held, is.none_held)),
          )

    -- a step may not come
    pub is_stuck : made < length t.steps.items → IsWrongAt p t (made + 1) × ¬ (Replays p t)
    is_stuck less =
        let stuck : (d : FullStep) → ¬ (MayCome (told_opening p t) (state_of (told_opening p t) (take made steps))
        (get_or steps made d)) =
        λ d may.
        let P : List FullStep → Type 0 = λ xs. MayCome (told_opening p t) (state_of (told_opening p t) (take made xs))
        (get_or xs made d) in
        are.stuck less d (subst P (sym steps_next) may) in (
          wrong_at made (inl (record { first = right; before = before; inside = less; stuck = stuck })),
          λ is. let d = GaveBack 0 0 in
              stuck d (each_may (told_opening p t) (first_state (told_opening p t)) steps made d is.history
              (omega (arith, less, count))),
        )

  -- the first plan is wrong
  pub first_wrong : ¬ (IsFirstRight p t) → IsWrongAt p t 0 × ¬ (Replays p t)
  first_wrong wrong = (wrong, λ is. wrong is.first)

-- a search that begins so begins as the trace tells
pub begun : (p : Problem) (t : Trace) (own : Problem) (first : Option Checked) (start : Search)
    → start ≡ record {
      opening = record { problem = own; budget = t.budget; workers = t.workers; first = first };
      steps = [];
    } → own ≡ p → first ≡ told_first p t.first → start ≡ beginning p t
begun p t own first start is same given =
    is ∙ ap (λ (q : Problem). record {
      opening = record { problem = q; budget = t.budget; workers = t.workers; first = first };
      steps = [];
    }) same ∙ ap (λ (f : Option Checked). record {
      opening = record { problem = p; budget = t.budget; workers = t.workers; first = f };
      steps = [];
    }) given

-- where all begins as the trace tells
module _ (p : Problem) (t : Trace) (start now : Search) (made : ℕ) (as_told : start ≡ beginning p t)
    (right : IsFirstRight p t) (are : AreMade start now t.steps.items made) where
  are_made : AreMade (beginning p t) now t.steps.items made
  are_made = subst (λ (x : Search). AreMade x now t.steps.items made) as_told are

  pub ends_stuck : made < length t.steps.items → IsWrongAt p t (made + 1) × ¬ (Replays p t)
  ends_stuck less = is_stuck p t now made right are_made less

  pub ends_held : length t.steps.items ≤ made → 0 < held_leaves (state now)
      → IsWrongAt p t (made + 1) × ¬ (Replays p t)
  ends_held all some = left_held p t now made right are_made (omega (arith, all, are.few)) some

  pub ends_well : length t.steps.items ≤ made → held_leaves (state now) ≤ 0
      → Replays p t × (now ≡ record { opening = told_opening p t; steps = told_steps p t })
  ends_well all none =
      let every : made ≡ length t.steps.items = omega (arith, all, are.few) in (
        replays p t now made right are_made every (omega (arith, none)),
        is_tree p t now made right are_made every,
      )
