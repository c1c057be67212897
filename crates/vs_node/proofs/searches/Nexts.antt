-- What becomes of a leaf by what its table is worth.
use Rattle.std.proofs.Common.{subst, Option}
use Rattle.vs_instance.specs.Problem.{Problem}
use Rattle.vs_plan.specs.CheckedPlan.{Checked}
use Rattle.vs_prices.specs.declared.bound.Bound.{Bound}
use Rattle.vs_prices.specs.declared.table.Table.{Table}
use Rattle.vs_prices.specs.Worth.{IsWorth}
use Rattle.vs_prices.proofs.CallerLemmas.{worth_once}
use Rattle.vs_tree.specs.declared.calls.Next.{Next}
use Rattle.vs_tree.specs.declared.calls.Next.TheVariants.{Close, Split}
use Rattle.vs_node.specs.NextSteps.{IsNextBy, IsOpen}
use Rattle.vs_node.specs.Outcomes.{HasNext}
use Rattle.vs_node.specs.declared.outcome.Task.{Task}

-- what follows from the worth of a table follows from the table
pub next_of_worth : (p : Problem) (task : Task) (table : Table) (worth : Bound) (plan : Option Checked) (next : Next)
    → IsWorth p task.sets.items table worth → IsNextBy task.sets.items worth task.known plan next
    → HasNext p task table plan next
next_of_worth p task table worth plan Close is_worth by =
    λ other is. subst (λ (b : Bound). ¬ (IsOpen b task.known plan))
    (worth_once p task.sets.items table worth other is_worth is) by
next_of_worth p task table worth plan (Split trip left) is_worth by = (
  (λ other is. subst (λ (b : Bound). IsOpen b task.known plan)
      (worth_once p task.sets.items table worth other is_worth is) by.0),
  by.1,
)
