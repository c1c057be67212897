-- Whatever trace rows stand for, it tells of one search.
use Rattle.std.proofs.Common.{◌≡◌, ℕ, ◌+◌, List, [], ◌∷◌, length, refl, sym, ap, ◌∙◌, subst, Option, Some, None, ℤ}
use Rattle.std.specs.List.{All, AllZip}
use Rattle.std.proofs.lemmas.List.Elements.{All-head, All-tail}
use Rattle.vs_types.specs.declared.layer_set.LayerSet.{LayerSet}
use Rattle.vs_types.specs.declared.numbers.TripNo.{TripNo}
use Rattle.vs_instance.specs.Plan.{LayerBlock}
use Rattle.vs_instance.specs.Problem.{Problem}
use Rattle.vs_plan.specs.CheckedPlan.{Checked}
use Rattle.vs_plan.specs.declared.block.Plan.{Plan}
use Rattle.vs_prices.specs.Table.{Fits}
use Rattle.vs_prices.specs.declared.table.Table.{Table}
use Rattle.vs_replay.specs.Alike.{AreAlike as SayTheSame, IsAlike, IsTold}
use Rattle.vs_document.proofs.CallerLemmas.{same_table}
use Rattle.vs_trace.specs.Alike.{AreAlike, AreAlikeSteps, AreToldAlike}
use Rattle.vs_trace.specs.Told.{Tells, told_of}
use Rattle.vs_trace.specs.Traces.{HasFitting, first_plans, steps_from, told_first, told_opening, told_plan, told_steps}
use Rattle.vs_trace.specs.declared.trace.Full.{Full}
use Rattle.vs_trace.specs.declared.trace.Full.TheVariants.{Took, Split, Closed, Offered, GaveBack}
use Rattle.vs_trace.specs.declared.trace.Trace.{Trace}
use Rattle.vs_tree.specs.History as full
use Rattle.vs_tree.specs.History.{FullStep, Opening, plans_of}
use Rattle.vs_tree.specs.Prices.{prices_of}

-- each step that a trace tells is told
all_told : (p : Problem) (n k : ℕ) (fs : List Full) → told_of (steps_from p n k fs) ≡ steps_from p n k fs
all_told p n k [] = refl
all_told p n k (Took w j ∷ fs) = ap (λ (xs : List FullStep). full.Took w j ∷ xs) (all_told p n k fs)
all_told p n k (Split w j trip left table ∷ fs) =
    ap (λ (xs : List FullStep). full.Split w j n trip left (prices_of table) ∷ xs) (all_told p (n + 1) k fs)
all_told p n k (Closed w j table ∷ fs) =
    ap (λ (xs : List FullStep). full.Closed w j n (prices_of table) ∷ xs) (all_told p (n + 1) k fs)
all_told p n k (Offered w cost plan ∷ fs) =
    ap (λ (xs : List FullStep). full.Offered w cost (Some k) (Some (told_plan p cost plan)) ∷ xs)
    (all_told p n (k + 1) fs)
all_told p n k (GaveBack w j ∷ fs) = ap (λ (xs : List FullStep). full.GaveBack w j ∷ xs) (all_told p n k fs)

module _ (p : Problem) where
  abbrev Fit : List Full → Type 0
  Fit steps = All (HasFitting p) steps

  -- tables that are told alike say the same
  same_prices : (t u : Table) → Fits p t → Fits p u → AreToldAlike p t u → SayTheSame p (prices_of t) (prices_of u)
  same_prices t u fits_t fits_u alike = record {
    one = t;
    other = u;
    one_is = refl;
    other_is = refl;
    one_fits = fits_t;
    other_fits = fits_u;
    agree = same_table p t u 0 fits_t fits_u (alike 0);
  }

  -- steps that are alike tell steps that are the same but for tables that agree
  steps_alike : (n k : ℕ) (fs gs : List Full) → Fit fs → Fit gs → AllZip (AreAlikeSteps p) fs gs
      → AllZip (IsAlike p) (steps_from p n k fs) (steps_from p n k gs)
  steps_alike n k [] [] a b alike = tt
  steps_alike n k [] (g ∷ gs) a b alike = absurd alike
  steps_alike n k (f ∷ fs) [] a b alike = absurd alike
  steps_alike n k (Took w j ∷ fs) (Took v l ∷ gs) a b alike = (
    ap (λ (x : ℕ). full.Took x l) (sym alike.0.0) ∙ ap (λ (x : ℕ). full.Took w x) (sym alike.0.1),
    steps_alike n k fs gs (All-tail (HasFitting p) (Took w j) fs a) (All-tail (HasFitting p) (Took v l) gs b) alike.1,
  )
  steps_alike n k (GaveBack w j ∷ fs) (GaveBack v l ∷ gs) a b alike = (
    ap (λ (x : ℕ). full.GaveBack x l) (sym alike.0.0) ∙ ap (λ (x : ℕ). full.GaveBack w x) (sym alike.0.1),
    steps_alike n k fs gs (All-tail (HasFitting p) (GaveBack w j) fs a) (All-tail (HasFitting p) (GaveBack v l) gs b)
        alike.1,
  )
  steps_alike n k (Closed w j t ∷ fs) (Closed v l u ∷ gs) a b alike = (
    (
      prices_of u,
      ap (λ (x : ℕ). full.Closed x l n (prices_of u)) (sym alike.0.0)
          ∙ ap (λ (x : ℕ). full.Closed w x n (prices_of u)) (sym alike.0.1),
      same_prices t u (All-head (HasFitting p) (Closed w j t) fs a) (All-head (HasFitting p) (Closed v l u) gs b)
          alike.0.2,
    ),
    steps_alike (n + 1) k fs gs (All-tail (HasFitting p) (Closed w j t) fs a)
        (All-tail (HasFitting p) (Closed v l u) gs b) alike.1,
  )
  steps_alike n k (Split w j trip left t ∷ fs) (Split v l i part u ∷ gs) a b alike = (
    (
      prices_of u,
      ap (λ (x : ℕ). full.Split x l n i part (prices_of u)) (sym alike.0.0)
          ∙ ap (λ (x : ℕ). full.Split w x n i part (prices_of u)) (sym alike.0.1)
          ∙ ap (λ (x : TripNo). full.Split w j n x part (prices_of u)) (sym alike.0.2)
          ∙ ap (λ (x : LayerSet). full.Split w j n trip x (prices_of u)) (sym alike.0.3),
      same_prices t u (All-head (HasFitting p) (Split w j trip left t) fs a)
          (All-head (HasFitting p) (Split v l i part u) gs b) alike.0.4,
    ),
    steps_alike (n + 1) k fs gs (All-tail (HasFitting p) (Split w j trip left t) fs a)
        (All-tail (HasFitting p) (Split v l i part u) gs b) alike.1,
  )
  steps_alike n k (Offered w cost plan ∷ fs) (Offered v c other ∷ gs) a b alike = (
    ap (λ (x : ℕ). full.Offered x c (Some k) (Some (told_plan p c other))) (sym alike.0.0)
        ∙ ap (λ (x : ℤ). full.Offered w x (Some k) (Some (told_plan p x other))) (sym alike.0.1)
        ∙ ap (λ (blocks : List LayerBlock). full.Offered w cost (Some k)
        (Some (record { problem = p; blocks = blocks; cost = cost }))) (sym alike.0.2),
    steps_alike n (k + 1) fs gs (All-tail (HasFitting p) (Offered w cost plan) fs a)
        (All-tail (HasFitting p) (Offered v c other) gs b) alike.1,
  )
  steps_alike n k (f ∷ fs) (g ∷ gs) a b alike = absurd alike.0

  count : (first : Option (ℤ × Plan)) → first_plans first ≡ length (plans_of (told_first p first))
  count None = refl
  count (Some f) = refl

  module _ (t u : Trace) (alike : AreAlike p t u) (fit : Fit t.steps.items) (also : Fit u.steps.items) where
    pub one_opening : told_opening p u ≡ told_opening p t
    one_opening =
        ap (λ (b : ℕ). record { problem = p; budget = b; workers = u.workers; first = told_first p u.first })
        (sym alike.budget)
        ∙ ap (λ (w : ℕ). record { problem = p; budget = t.budget; workers = w; first = told_first p u.first })
        (sym alike.workers)
        ∙ ap (λ (f : Option Checked). record { problem = p; budget = t.budget; workers = t.workers; first = f })
        (sym alike.first)

    one_count : first_plans t.first ≡ first_plans u.first
    one_count =
        count t.first ∙ ap (λ (f : Option Checked). length (plans_of f)) alike.first ∙ sym (count u.first)

    pub told_alike : AllZip (IsAlike p) (told_steps p t) (told_steps p u)
    told_alike = subst (λ (k : ℕ). AllZip (IsAlike p) (told_steps p t) (steps_from p 1 k u.steps.items)) one_count
        (steps_alike 1 (first_plans t.first) t.steps.items u.steps.items fit also alike.steps)

    -- a trace that says the same as another tells of the search that that one tells
    pub told_by_other : IsTold (told_opening p t) (told_steps p t) u
    told_by_other = record {
      opening = one_opening;
      steps = subst (λ (xs : List FullStep). AllZip (IsAlike p) xs (told_steps p u))
          (sym (all_told p 1 (first_plans t.first) t.steps.items)) told_alike;
    }

-- and of that of which the other one tells
pub tells_too : (o : Opening) (steps : List FullStep) (t u : Trace) → Tells o steps t → AreAlike o.problem t u
    → All (HasFitting o.problem) t.steps.items → All (HasFitting o.problem) u.steps.items → IsTold o steps u
tells_too o steps t u tells alike fit also = record {
  opening = one_opening o.problem t u alike fit also ∙ tells.opening;
  steps = subst (λ (xs : List FullStep). AllZip (IsAlike o.problem) xs (told_steps o.problem u)) tells.steps
      (told_alike o.problem t u alike fit also);
}
