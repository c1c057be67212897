-- The first step that may not come is one, whatever trace is read.
use Rattle.std.proofs.Common.{◌≡◌, ℕ, zero, suc, ◌+◌, ◌<◌, ◌≤◌, List, [], ◌∷◌, length, get_or, take, refl, sym, ap, ◌∙◌, subst, arith, inl, inr, ◌⊎◌, Option, Some, IfSome}
use Rattle.std.specs.List.{All, AllZip}
use Rattle.std.proofs.lemmas.Bool.{cases_order}
use Rattle.std.proofs.lemmas.List.Elements.{length_all_zip}
use Rattle.vs_instance.specs.Instance.{IsInstance}
use Rattle.vs_instance.specs.Problem.{Problem}
use Rattle.vs_plan.specs.CheckedPlan.{Checked}
use Rattle.vs_replay.specs.Alike.{IsAlike}
use Rattle.vs_replay.specs.Replays.{IsFirstRight, IsLeftHeld, IsStuck, IsWrongAt}
use Rattle.vs_replay.proofs.ToldSteps.{alike_history}
use Rattle.vs_replay.proofs.StepByStep.{count_steps}
use Rattle.vs_replay.proofs.OneTrace.{one_opening, told_alike}
use Rattle.vs_trace.specs.Alike.{AreAlike, AreAlikeSteps}
use Rattle.vs_trace.specs.Told.{told_of}
use Rattle.vs_trace.specs.Traces.{HasFitting, first_plans, steps_from, told_opening, told_plan, told_steps}
use Rattle.vs_trace.specs.declared.trace.Full.{Full}
use Rattle.vs_trace.specs.declared.trace.Full.TheVariants.{Took, Split, Closed, Offered, GaveBack}
use Rattle.vs_trace.specs.declared.trace.Trace.{Trace}
use Rattle.vs_tree.specs.History as full
use Rattle.vs_tree.specs.History.{FullStep, IsHistory, MayCome, MayFollow, Opening, State, after, first_state, state_after}
use Rattle.vs_tree.specs.Prices.{prices_of}
use Rattle.vs_tree.specs.Sound.{IsOpening, IsPlanOf}

-- the first of some steps that may follow may follow
fewer : (o : Opening) (s : State) (xs : List FullStep) (i j : ℕ) → i ≤ j → MayFollow o s (take j xs)
    → MayFollow o s (take i xs)
fewer o s xs zero j le may = tt
fewer o s xs (suc i) zero le may = absurd (omega (arith, le))
fewer o s [] (suc i) (suc j) le may = tt
fewer o s (x ∷ xs) (suc i) (suc j) le may = (may.0, fewer o (after s x) xs i j (omega (arith, le)) may.1)

some_of : (o : Opening) (s : State) (xs : List FullStep) (i : ℕ) → MayFollow o s xs → MayFollow o s (take i xs)
some_of o s xs zero may = tt
some_of o s [] (suc i) may = tt
some_of o s (x ∷ xs) (suc i) may = (may.0, some_of o (after s x) xs i may.1)

-- and each of them may come where those before it lead to
at_step : (o : Opening) (s : State) (xs : List FullStep) (k : ℕ) (d : FullStep) → MayFollow o s (take (suc k) xs)
    → k < length xs → MayCome o (state_after s (take k xs)) (get_or xs k d)
at_step o s [] k d may lt = absurd (omega (arith, lt))
at_step o s (x ∷ xs) zero d may lt = may.0
at_step o s (x ∷ xs) (suc k) d may lt = at_step o (after s x) xs k d may.1 (omega (arith, lt))

some_alike : (R : FullStep → FullStep → Type 0) (xs ys : List FullStep) (j : ℕ) → AllZip R xs ys
    → AllZip R (take j xs) (take j ys)
some_alike R xs ys zero alike = tt
some_alike R [] [] (suc j) alike = tt
some_alike R [] (y ∷ ys) (suc j) alike = absurd alike
some_alike R (x ∷ xs) [] (suc j) alike = absurd alike
some_alike R (x ∷ xs) (y ∷ ys) (suc j) alike = (alike.0, some_alike R xs ys j alike.1)

module _ (p : Problem) where
  -- each of the first steps that a trace tells is told
  some_told : (j n k : ℕ) (fs : List Full) → told_of (take j (steps_from p n k fs)) ≡ take j (steps_from p n k fs)
  some_told zero n k fs = refl
  some_told (suc j) n k [] = refl
  some_told (suc j) n k (Took w l ∷ fs) = ap (λ (xs : List FullStep). full.Took w l ∷ xs) (some_told j n k fs)
  some_told (suc j) n k (Split w l trip left table ∷ fs) =
      ap (λ (xs : List FullStep). full.Split w l n trip left (prices_of table) ∷ xs) (some_told j (n + 1) k fs)
  some_told (suc j) n k (Closed w l table ∷ fs) =
      ap (λ (xs : List FullStep). full.Closed w l n (prices_of table) ∷ xs) (some_told j (n + 1) k fs)
  some_told (suc j) n k (Offered w cost plan ∷ fs) =
      ap (λ (xs : List FullStep). full.Offered w cost (Some k) (Some (told_plan p cost plan)) ∷ xs)
      (some_told j n (k + 1) fs)
  some_told (suc j) n k (GaveBack w l ∷ fs) =
      ap (λ (xs : List FullStep). full.GaveBack w l ∷ xs) (some_told j n k fs)

  abbrev IsBegun : Trace → ℕ → Type 0
  IsBegun t j = IsHistory (told_opening p t) (take j (told_steps p t))

  module _ (instance : IsInstance p) (t u : Trace) (alike : AreAlike p t u)
      (fit : All (HasFitting p) t.steps.items) (also : All (HasFitting p) u.steps.items) where
    -- the first plans are right both, and so many steps are a history both
    also_right : IsFirstRight p t → IsFirstRight p u
    also_right right = subst (λ (f : Option Checked). IfSome f (IsPlanOf p)) alike.first right

    also_begun : (j : ℕ) → IsFirstRight p t → IsBegun t j → IsBegun u j
    also_begun j right begun =
        let opening : IsOpening (told_opening p t) = record { instance = instance; first = right } in
        let same : AllZip (IsAlike p) (told_of (take j (told_steps p t))) (take j (told_steps p u)) =
        subst (λ (xs : List FullStep). AllZip (IsAlike p) xs (take j (told_steps p u)))
        (sym (some_told j 1 (first_plans t.first) t.steps.items))
        (some_alike (IsAlike p) (told_steps p t) (told_steps p u) j (told_alike p t u alike fit also)) in
        subst (λ (o : Opening). IsHistory o (take j (told_steps p u))) (sym (one_opening p t u alike fit also))
        (alike_history (told_opening p t) (take j (told_steps p t)) (take j (told_steps p u)) opening begun same)

  -- where a step may not come, no more steps are a history
  not_begun : (t : Trace) (k : ℕ) → IsStuck p t k → IsBegun t (suc k) → ⊥
  not_begun t k stuck begun =
      let d = full.GaveBack 0 0 in
      let count = count_steps p 1 (first_plans t.first) t.steps.items in
      stuck.stuck d (at_step (told_opening p t) (first_state (told_opening p t)) (told_steps p t) k d begun
      (omega (arith, stuck.inside, count)))

  fewer_begun : (t : Trace) (i j : ℕ) → i ≤ j → IsBegun t j → IsBegun t i
  fewer_begun t i j le begun = fewer (told_opening p t) (first_state (told_opening p t)) (told_steps p t) i j le begun

  all_begun : (t : Trace) (i : ℕ) → IsHistory (told_opening p t) (told_steps p t) → IsBegun t i
  all_begun t i history = some_of (told_opening p t) (first_state (told_opening p t)) (told_steps p t) i history

  module _ (instance : IsInstance p) (t u : Trace) (one : AreAlike p t u) (other : AreAlike p u t)
      (fit : All (HasFitting p) t.steps.items) (also : All (HasFitting p) u.steps.items) where
    -- so the first that may not come is one
    one_place : (k j : ℕ) → IsStuck p t k ⊎ IsLeftHeld p t k → IsStuck p u j ⊎ IsLeftHeld p u j → k ≡ j
    one_place k j (inl a) (inl b) =
        elim (cases_order k j) [
          | inl same ↦ same
          | inr apart ↦ elim apart [
            | inl less ↦ absurd (not_begun t k a (also_begun instance u t other also fit (suc k) b.first
                (fewer_begun u (suc k) j (omega (arith, less)) b.before)))
            | inr more ↦ absurd (not_begun u j b (also_begun instance t u one fit also (suc j) a.first
                (fewer_begun t (suc j) k (omega (arith, more)) a.before)))
          ]
        ]
    one_place k j (inl a) (inr b) =
        absurd (not_begun t k a (also_begun instance u t other also fit (suc k) b.first
        (all_begun u (suc k) b.history)))
    one_place k j (inr a) (inl b) =
        absurd (not_begun u j b (also_begun instance t u one fit also (suc j) a.first
        (all_begun t (suc j) a.history)))
    one_place k j (inr a) (inr b) =
        a.all ∙ length_all_zip (AreAlikeSteps p) t.steps.items u.steps.items one.steps ∙ sym b.all

    right_of : (k : ℕ) → IsStuck p t k ⊎ IsLeftHeld p t k → IsFirstRight p t
    right_of k (inl a) = a.first
    right_of k (inr a) = a.first

    right_too : (k : ℕ) → IsStuck p u k ⊎ IsLeftHeld p u k → IsFirstRight p u
    right_too k (inl a) = a.first
    right_too k (inr a) = a.first

    pub one_step : (n m : ℕ) → IsWrongAt p t n → IsWrongAt p u m → n ≡ m
    one_step zero zero a b = refl
    one_step zero (suc j) a b = absurd (a (also_right instance u t other also fit (right_too j b)))
    one_step (suc k) zero a b = absurd (b (also_right instance t u one fit also (right_of k a)))
    one_step (suc k) (suc j) a b = ap suc (one_place k j a b)
