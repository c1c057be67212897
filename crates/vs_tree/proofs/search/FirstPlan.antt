-- The plan that a search began with is the first of those that were accepted.
use Rattle.std.proofs.Common.{◌≡◌, ◌<◌, List, [], ◌∷◌, ◌++◌, length, refl, sym, ap, ◌∙◌, subst, arith, append-nil, append_assoc, Option, Some, None, is_some, true, false, slice_get}
use Rattle.vs_plan.specs.CheckedPlan.{Checked}
use Rattle.vs_tree.specs.History.{FullStep, Opening, State, Took, Split, Closed, Offered, GaveBack, after, first_state, plans_of, state_after, state_of}

-- what was accepted before a step stands first of what is accepted after it
step-keeps : (s : State) (step : FullStep) → (more : List Checked) × ((after s step).accepted ≡ s.accepted ++ more)
step-keeps s (Took worker leaf) = ([], sym (append-nil s.accepted))
step-keeps s (Split worker leaf table trip left prices) = ([], sym (append-nil s.accepted))
step-keeps s (Closed worker leaf table prices) = ([], sym (append-nil s.accepted))
step-keeps s (Offered worker cost number added) = (plans_of added, refl)
step-keeps s (GaveBack worker leaf) = ([], sym (append-nil s.accepted))

steps-keep : (s : State) (steps : List FullStep)
    → (more : List Checked) × ((state_after s steps).accepted ≡ s.accepted ++ more)
steps-keep s [] = ([], sym (append-nil s.accepted))
steps-keep s (step ∷ steps) =
    let one = step-keeps s step in
    let rest = steps-keep (after s step) steps in (
      one.0 ++ rest.0,
      rest.1 ∙ ap (λ (x : List Checked). x ++ rest.0) one.1 ∙ append_assoc s.accepted one.0 rest.0,
    )

stands-first : (first : Option Checked) (more : List Checked) → is_some first ≡ true
    → slice_get (plans_of first ++ more) 0 ≡ first
stands-first None more given = absurd cc
stands-first (Some plan) more given = refl

is-one : (first : Option Checked) (more : List Checked) → is_some first ≡ true → 0 < length (plans_of first ++ more)
is-one None more given = absurd cc
is-one (Some plan) more given = omega arith

module _ (o : Opening) (steps : List FullStep) (given : is_some o.first ≡ true) where
  pub first-accepted : slice_get (state_of o steps).accepted 0 ≡ o.first
  first-accepted =
      let kept = steps-keep (first_state o) steps in
      ap (λ (x : List Checked). slice_get x 0) kept.1 ∙ stands-first o.first kept.0 given

  pub some-accepted : 0 < length (state_of o steps).accepted
  some-accepted =
      let kept = steps-keep (first_state o) steps in
      subst (λ (x : List Checked). 0 < length x) (sym kept.1) (is-one o.first kept.0 given)

-- where none was given there is none
pub none-given : (first : Option Checked) → is_some first ≡ false → first ≡ None
none-given None given = refl
none-given (Some plan) given = absurd cc
