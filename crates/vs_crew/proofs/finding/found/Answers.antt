use Rattle.std.proofs.Common.{◌≡◌, List, Option, Some, sym, ◌∙◌, subst, IfSome}
use Rattle.vs_types.specs.declared.layer_set.LayerSet.{LayerSet}
use Rattle.vs_instance.specs.Problem.{Problem}
use Rattle.vs_instance.specs.Restriction.{IsRestriction}
use Rattle.vs_tree.specs.Finishes.{AreWorths, IsNextIn}
use Rattle.vs_tree.specs.Prices.{prices_of}
use Rattle.vs_node.specs.declared.outcome.Outcome.{Outcome}
use Rattle.vs_node.specs.declared.outcome.Task.{Task}
use Rattle.vs_crew.specs.Found.{IsFound}
use Rattle.vs_crew.proofs.leaves.Finding.{next-in}
use Rattle.vs_crew.proofs.finding.found.Goals as goal

-- what was found, where something was
the_found : (p : Problem) (task : Task) (found : Option Outcome) (outcome : Outcome) → found ≡ Some outcome
    → IfSome found (IsFound p task) → IsFound p task outcome
the_found p task found outcome is each = subst (λ (o : Option Outcome). IfSome o (IsFound p task)) is each

pub of-finish-requires-clause-restriction : goal.of-finish-requires-clause-restriction
of-finish-requires-clause-restriction g c =
    subst (λ (x : List LayerSet). IsRestriction c.args.instance.now x)
    (sym (c.as_mut_slice-sets.ensures.value ∙ c.outcome_of.ensures.sets)) c.requires.lawful.restriction

pub of-finish-requires-clause-next : goal.of-finish-requires-clause-next
of-finish-requires-clause-next g c =
    subst (λ (x : List LayerSet). IsNextIn c.args.instance.now x c.in-Some.outcome.next)
    (sym (c.as_mut_slice-sets.ensures.value ∙ c.outcome_of.ensures.sets))
    (next-in c.args.instance.now c.args.task.now.sets.items c.args.task.now.known c.in-Some.outcome.table
    c.in-Some.outcome.plan c.requires.lawful.restriction c.in-Some.outcome.next
    (the_found c.args.instance.now c.args.task.now c.in_ok-found.found c.in-Some.outcome c.in-Some.is
    c.in_ok-found.ensures.found).next)

pub returns-clause-found : goal.returns-clause-found
returns-clause-found g c = record {
  found = the_found c.args.instance.now c.args.task.now c.in_ok-found.found c.in-Some.outcome c.in-Some.is
      c.in_ok-found.ensures.found;
  next = c.of-finish.ensures.next;
  worths = subst (λ (x : List LayerSet). AreWorths c.args.instance.now x (prices_of c.in-Some.outcome.table)
      c.of-finish.result) (c.as_mut_slice-sets.ensures.value ∙ c.outcome_of.ensures.sets)
      c.of-finish.ensures.worths;
}
