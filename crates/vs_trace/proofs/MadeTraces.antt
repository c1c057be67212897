-- A trace that tells of a search.
use Rattle.std.proofs.Common.{◌≡◌, ℕ, ◌+◌, ◌<◌, ◌≤◌, ◌^◌, List, [], ◌∷◌, ◌++◌, length, refl, sym, ap, ◌∙◌, subst, arith, append-nil, length-append, Option, Some, None, IfSome, ℤ}
use Rattle.std.specs.Prelude.{flat_map}
use Rattle.std.specs.List.{All}
use Rattle.std.proofs.lemmas.List.Elements.{All-cons, All-nil}
use Rattle.vs_instance.specs.Instance.{IsInstance}
use Rattle.vs_instance.specs.Plan.{IsPlan, LayerBlock}
use Rattle.vs_instance.specs.Problem.{Problem}
use Rattle.vs_plan.specs.CheckedPlan.{Checked}
use Rattle.vs_plan.specs.declared.block.Plan.{Plan}
use Rattle.vs_reader.specs.Names.{HaveCounts, NameLists}
use Rattle.vs_rows.specs.DocumentRows.{EndRow}
use Rattle.vs_tree.specs.History as full
use Rattle.vs_tree.specs.History.{FullStep, Opening, State, IsHistory, MayFollow, after, first_state, plans_of}
use Rattle.vs_tree.specs.Prices.{Prices, prices_of}
use Rattle.vs_tree.specs.Sound.{IsOpening, IsPlanOf}
use Rattle.vs_cert.proofs.CallerLemmas.{make_plan, vec-items, vec_of}
use Rattle.vs_trace.specs.Told.{Tells, WrittenTracesStand, told_of}
use Rattle.vs_trace.specs.TraceRows.{IsOpeningForm, PartRow, SayAllSo, TraceRow, first_rows, opening_rows, step_rows, trace_rows, trace_text}
use Rattle.vs_trace.specs.Traces.{HasFitting, TraceText, first_plans, steps_from, told_first, told_opening, told_plan, told_steps}
use Rattle.vs_trace.specs.declared.trace.Full.{Full}
use Rattle.vs_trace.specs.declared.trace.Full.TheVariants.{Took, Split, Closed, Offered, GaveBack}
use Rattle.vs_trace.specs.declared.trace.Trace.{Trace}
use Rattle.vs_trace.proofs.SaidSteps.{accepted_is, trace_says}

module _ (p : Problem) (instance : IsInstance p) where
  -- a plan of the instance, as it is told
  made_plan : (plan : Checked) → IsPlanOf p plan → (made : Plan) × (told_plan p plan.cost made ≡ plan)
  made_plan plan is =
      let blocks : IsPlan p plan.blocks = subst (λ (q : Problem). IsPlan q plan.blocks) is.1 is.0.plan in
      let made = make_plan p instance plan.blocks blocks in (
        made.0,
        ap (λ (bs : List LayerBlock). record { problem = p; blocks = bs; cost = plan.cost }) made.1
            ∙ ap (λ (q : Problem). record { problem = q; blocks = plan.blocks; cost = plan.cost }) (sym is.1),
      )

  made_first : (first : Option Checked) → IfSome first (IsPlanOf p)
      → (told : Option (ℤ × Plan)) × (told_first p told ≡ first) × (first_plans told ≡ length (plans_of first))
  made_first None is = (None, refl, refl)
  made_first (Some plan) is =
      let made = made_plan plan is in (Some (plan.cost, made.0), ap Some made.1, refl)

-- offers that weren't accepted have no rows
told_rows : (p : Problem) (steps : List FullStep)
    → flat_map (step_rows p) (told_of steps) ≡ flat_map (step_rows p) steps
told_rows p [] = refl
told_rows p (full.Offered worker cost number None ∷ steps) = told_rows p steps
told_rows p (full.Offered worker cost number (Some plan) ∷ steps) =
    ap (λ (rows : List TraceRow). step_rows p (full.Offered worker cost number (Some plan)) ++ rows)
    (told_rows p steps)
told_rows p (full.Took worker leaf ∷ steps) =
    ap (λ (rows : List TraceRow). step_rows p (full.Took worker leaf) ++ rows) (told_rows p steps)
told_rows p (full.Split worker leaf table trip left prices ∷ steps) =
    ap (λ (rows : List TraceRow). step_rows p (full.Split worker leaf table trip left prices) ++ rows)
    (told_rows p steps)
told_rows p (full.Closed worker leaf table prices ∷ steps) =
    ap (λ (rows : List TraceRow). step_rows p (full.Closed worker leaf table prices) ++ rows) (told_rows p steps)
told_rows p (full.GaveBack worker leaf ∷ steps) =
    ap (λ (rows : List TraceRow). step_rows p (full.GaveBack worker leaf) ++ rows) (told_rows p steps)

module _ (o : Opening) (opening : IsOpening o) where
  abbrev p : Problem
  p = o.problem

  abbrev Fit : List Full → Type 0
  Fit steps = All (HasFitting p) steps

  -- steps that tell these, behind the tables and the plans of a state
  make_steps : (s : State) (steps : List FullStep) → MayFollow o s steps
      → (made : List Full) × (steps_from p (length s.tables) (length s.accepted) made ≡ told_of steps) × Fit made
      × (length made ≤ length steps)
  make_steps s [] may = ([], refl, All-nil (HasFitting p), omega arith)
  make_steps s (full.Took worker leaf ∷ steps) may =
      let rest = make_steps (after s (full.Took worker leaf)) steps may.1 in (
        Took worker leaf ∷ rest.0,
        ap (λ (xs : List FullStep). full.Took worker leaf ∷ xs) rest.1,
        All-cons (HasFitting p) (Took worker leaf) rest.0 tt rest.2,
        omega (arith, rest.3),
      )
  make_steps s (full.Split worker leaf table trip left prices ∷ steps) may =
      let rest = make_steps (after s (full.Split worker leaf table trip left prices)) steps may.1 in
      let k : ℕ = length s.accepted in
      let gives = may.0.gives in
      let own = gives.lawful.table in
      let more = length-append s.tables (prices ∷ []) in
      let count : length s.tables + 1 ≡ length (s.tables ++ prices ∷ []) = omega (arith, more) in (
        Split worker leaf trip left own ∷ rest.0,
        ap (λ (n : ℕ). full.Split worker leaf n trip left (prices_of own)
            ∷ steps_from p (length s.tables + 1) k rest.0) (sym gives.number)
            ∙ ap (λ (x : Prices). full.Split worker leaf table trip left x
            ∷ steps_from p (length s.tables + 1) k rest.0) gives.lawful.listed
            ∙ ap (λ (n : ℕ). full.Split worker leaf table trip left prices ∷ steps_from p n k rest.0) count
            ∙ ap (λ (xs : List FullStep). full.Split worker leaf table trip left prices ∷ xs) rest.1,
        All-cons (HasFitting p) (Split worker leaf trip left own) rest.0 gives.lawful.fits rest.2,
        omega (arith, rest.3),
      )
  make_steps s (full.Closed worker leaf table prices ∷ steps) may =
      let rest = make_steps (after s (full.Closed worker leaf table prices)) steps may.1 in
      let k : ℕ = length s.accepted in
      let gives = may.0.gives in
      let own = gives.lawful.table in
      let more = length-append s.tables (prices ∷ []) in
      let count : length s.tables + 1 ≡ length (s.tables ++ prices ∷ []) = omega (arith, more) in (
        Closed worker leaf own ∷ rest.0,
        ap (λ (n : ℕ). full.Closed worker leaf n (prices_of own) ∷ steps_from p (length s.tables + 1) k rest.0)
            (sym gives.number)
            ∙ ap (λ (x : Prices). full.Closed worker leaf table x ∷ steps_from p (length s.tables + 1) k rest.0)
            gives.lawful.listed
            ∙ ap (λ (n : ℕ). full.Closed worker leaf table prices ∷ steps_from p n k rest.0) count
            ∙ ap (λ (xs : List FullStep). full.Closed worker leaf table prices ∷ xs) rest.1,
        All-cons (HasFitting p) (Closed worker leaf own) rest.0 gives.lawful.fits rest.2,
        omega (arith, rest.3),
      )
  make_steps s (full.Offered worker cost number None ∷ steps) may =
      let rest = make_steps (after s (full.Offered worker cost number None)) steps may.1 in (
        rest.0,
        ap (λ (plans : List Checked). steps_from p (length s.tables) (length plans) rest.0)
            (sym (append-nil s.accepted)) ∙ rest.1,
        rest.2,
        omega (arith, rest.3),
      )
  make_steps s (full.Offered worker cost number (Some plan) ∷ steps) may =
      let rest = make_steps (after s (full.Offered worker cost number (Some plan))) steps may.1 in
      let n : ℕ = length s.tables in
      let k : ℕ = length s.accepted in
      let is = accepted_is o s worker cost number plan may.0 in
      let made = made_plan p opening.instance plan is.of_instance in
      let costs : told_plan p cost made.0 ≡ plan =
      ap (λ (c : ℤ). told_plan p c made.0) (sym is.costs) ∙ made.1 in
      let more = length-append s.accepted (plan ∷ []) in
      let count : k + 1 ≡ length (s.accepted ++ plan ∷ []) = omega (arith, more) in (
        Offered worker cost made.0 ∷ rest.0,
        ap (λ (c : Checked). full.Offered worker cost (Some k) (Some c) ∷ steps_from p n (k + 1) rest.0) costs
            ∙ ap (λ (x : Option ℕ). full.Offered worker cost x (Some plan) ∷ steps_from p n (k + 1) rest.0)
            (sym is.next)
            ∙ ap (λ (j : ℕ). full.Offered worker cost number (Some plan) ∷ steps_from p n j rest.0) count
            ∙ ap (λ (xs : List FullStep). full.Offered worker cost number (Some plan) ∷ xs) rest.1,
        All-cons (HasFitting p) (Offered worker cost made.0) rest.0 tt rest.2,
        omega (arith, rest.3),
      )
  make_steps s (full.GaveBack worker leaf ∷ steps) may =
      let rest = make_steps (after s (full.GaveBack worker leaf)) steps may.1 in (
        GaveBack worker leaf ∷ rest.0,
        ap (λ (xs : List FullStep). full.GaveBack worker leaf ∷ xs) rest.1,
        All-cons (HasFitting p) (GaveBack worker leaf) rest.0 tt rest.2,
        omega (arith, rest.3),
      )

  module _ (steps : List FullStep) (history : IsHistory o steps) (few : length steps < 2 ^ 63) where
    abbrev made : (made : List Full) × (steps_from p 1 (length (plans_of o.first)) made ≡ told_of steps) × Fit made
        × (length made ≤ length steps)
    made = make_steps (first_state o) steps history

    few_made : length made.0 < 2 ^ 63
    few_made = omega (arith, made.3, few)

    abbrev first : (told : Option (ℤ × Plan)) × (told_first p told ≡ o.first)
        × (first_plans told ≡ length (plans_of o.first))
    first = made_first p opening.instance o.first opening.first

    abbrev trace : Trace
    trace = record { budget = o.budget; workers = o.workers; first = first.0; steps = vec_of made.0 few_made }

    opening_is : told_opening p trace ≡ o
    opening_is = ap (λ (f : Option Checked). record {
      problem = p;
      budget = o.budget;
      workers = o.workers;
      first = f;
    }) first.1

    steps_are : told_steps p trace ≡ told_of steps
    steps_are =
        ap (λ (xs : List Full). steps_from p 1 (first_plans first.0) xs) (vec-items made.0 few_made)
        ∙ ap (λ (n : ℕ). steps_from p 1 n made.0) first.2 ∙ made.1

    rows_are : trace_rows o steps ≡ trace_rows (told_opening p trace) (told_steps p trace)
    rows_are =
        ap (λ (rows : List TraceRow). opening_rows o ++ first_rows o.first ++ rows ++ PartRow EndRow ∷ [])
        (sym (told_rows p steps))
        ∙ ap (λ (xs : List FullStep). trace_rows o xs) (sym steps_are)
        ∙ ap (λ (x : Opening). trace_rows x (told_steps p trace)) (sym opening_is)

    tells : Tells o steps trace
    tells = record { opening = opening_is; steps = steps_are }

    stands : (names : NameLists) → IsOpeningForm o.budget o.workers → HaveCounts p names
        → TraceText p names (trace_text names o steps) trace
    stands names form counts = record {
      fits = subst Fit (sym (vec-items made.0 few_made)) made.2;
      rows_say = subst (SayAllSo names (trace_text names o steps)) rows_are
          (trace_says o opening form names counts steps history);
    }

    pub stands_for : (names : NameLists) → IsOpeningForm o.budget o.workers → HaveCounts p names
        → (t : Trace) × Tells o steps t × TraceText p names (trace_text names o steps) t
    stands_for names form counts = (trace, tells, stands names form counts)

pub written_traces_stand : WrittenTracesStand
written_traces_stand o steps names opening history few form counts =
    stands_for o opening steps history few names form counts
