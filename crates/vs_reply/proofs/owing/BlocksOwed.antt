-- What `blocks` answers is owed.
use Rattle.std.proofs.Common.{◌≡◌, ℕ, true, false, List, [], ◌∷◌, length, Result, Ok, Err, Option, Some, None, IfOk, IfSome, IsSome, ℤ, refl, sym, ap, subst}
use Rattle.std.specs.Prelude.{is_some}
use Rattle.vs_types.specs.declared.memory.Memory.{Memory}
use Rattle.vs_instance.specs.Firsts.{first}
use Rattle.vs_instance.specs.Problem.{Problem}
use Rattle.vs_instance.specs.Plan.{IsPlan}
use Rattle.vs_plan.specs.Blocks.{blocks_of}
use Rattle.vs_plan.specs.PlanFaults.{faults_of}
use Rattle.vs_plan.specs.declared.plan_fault.PlanFault.{PlanFault}
use Rattle.vs_check.specs.Flaws.{IsFlawWithin, flaws_of}
use Rattle.vs_check.specs.declared.flaw.Flaw.TheVariants.{Plan}
use Rattle.vs_check.proofs.CallerLemmas.{verdict_named}
use Rattle.vs_reply.specs.Cases.{CheckText}
use Rattle.vs_rows.specs.declared.document.Document.{Document}
use Rattle.vs_reader.specs.Names.{NameLists, HaveCounts}
use Rattle.vs_reader.specs.Rows.{lines}
use Rattle.vs_reply.specs.declared.answer.Answer.{Answer}
use Rattle.vs_reply.specs.declared.status.Status.TheVariants as status
use Rattle.vs_reply.specs.Answered.{IsTextOf}
use Rattle.vs_reply.specs.Owed.{BlocksOwes}
use Rattle.vs_reply.specs.FlawRows.{no_row}
use Rattle.vs_reply.specs.Timetable.{rows_beside, timetable}
use Rattle.vs_reply.proofs.owing.OwedAnswers.{owed_so}

-- a cost that is printed, and one that isn't
no_cost : (cost : Option ℤ) → is_some cost ≡ false → cost ≡ None
no_cost None is = refl
no_cost (Some n) is = cc

some_cost : (cost : Option ℤ) → is_some cost ≡ true → (n : ℤ) × (cost ≡ Some n)
some_cost None is = cc
some_cost (Some n) is = (n, refl)

module _ (bytes : List ℕ) (p : Problem) (names : NameLists) (d : Document) (text : CheckText bytes p names d) where
  -- nothing is written where no cost is printed
  pub no_cost_owed : (a : Answer) → is_some d.cost ≡ false → a.status ≡ status.Done → a.text.items ≡ []
      → IsTextOf (BlocksOwes bytes) a
  no_cost_owed a is done empty =
      let none = no_cost d.cost is in
      owed_so (BlocksOwes bytes) a status.Done [] (record {
        problem = p;
        names = names;
        document = d;
        text = text;
        plan = subst (λ (cost : Option ℤ). IfSome cost (λ _. IsPlan p (blocks_of d.plan))) (sym none) tt;
        rows_are = sym (ap (rows_beside p names (blocks_of d.plan)) none);
      }) done empty

  -- the timetable of a plan
  pub timetable_owed : (r : Result Answer Memory) → is_some d.cost ≡ true → IsPlan p (blocks_of d.plan)
      → IfOk r (λ a. (a.status ≡ status.Done)
      × (a.text.items ≡ lines (timetable p names (blocks_of d.plan)))) → IfOk r (IsTextOf (BlocksOwes bytes))
  timetable_owed (Ok a) is plan says =
      let some = some_cost d.cost is in
      owed_so (BlocksOwes bytes) a status.Done (timetable p names (blocks_of d.plan)) (record {
        problem = p;
        names = names;
        document = d;
        text = text;
        plan = subst (λ (cost : Option ℤ). IfSome cost (λ _. IsPlan p (blocks_of d.plan))) (sym some.1) plan;
        rows_are = sym (ap (rows_beside p names (blocks_of d.plan)) some.1);
      }) says.0 says.1
  timetable_owed (Err m) is plan says = tt

  -- the first fault of blocks that are no plan
  pub no_plan_owed : (fault : PlanFault) (r : Result Answer Memory) → is_some d.cost ≡ true
      → ¬ (IsPlan p (blocks_of d.plan)) → first (faults_of p (blocks_of d.plan)) ≡ Some fault
      → IfOk r (λ a. (a.status ≡ status.SaysNo) × (a.text.items ≡ lines (no_row names (Plan fault) ∷ [])))
      → IfOk r (IsTextOf (BlocksOwes bytes))
  no_plan_owed fault (Ok a) is none is_first says =
      let some = some_cost d.cost is in
      owed_so (BlocksOwes bytes) a status.SaysNo (no_row names (Plan fault) ∷ []) (record {
        problem = p;
        names = names;
        document = d;
        text = text;
        printed = subst IsSome (sym some.1) refl;
        no_plan = none;
        fault = fault;
        is_first = is_first;
        rows_are = refl;
      }) says.0 says.1
  no_plan_owed fault (Err m) is none is_first says = tt

-- such a fault is the document's first flaw, and names trips and layers of the instance
pub fault_named : (p : Problem) (names : NameLists) (d : Document) (fault : PlanFault) → HaveCounts p names
    → is_some d.cost ≡ true → first (faults_of p (blocks_of d.plan)) ≡ Some fault
    → IsFlawWithin (length names.layers) (length names.trips) (Plan fault)
fault_named p names d fault counts is is_first =
    let some = some_cost d.cost is in
    let cost = some.1 in
    let flaw : first (flaws_of p d) ≡ Some (Plan fault) = rw (cost, is_first) in
    let within : IsFlawWithin (length p.layers) (length p.trips) (Plan fault) =
    verdict_named p d (Some (Plan fault)) (sym flaw) in
    subst (λ (n : ℕ). IsFlawWithin n (length names.trips) (Plan fault)) (sym counts.layers)
    (subst (λ (n : ℕ). IsFlawWithin (length p.layers) n (Plan fault)) (sym counts.trips) within)
