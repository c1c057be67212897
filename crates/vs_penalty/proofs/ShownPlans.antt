-- Plans that tables show.
use Rattle.std.proofs.Common.{List, Option, Some, None, IfSome}
use Rattle.vs_types.specs.declared.layer_set.LayerSet.{LayerSet}
use Rattle.vs_instance.specs.Problem.{Problem}
use Rattle.vs_node.specs.LeastPlans.{ShowsPlan}
use Rattle.vs_plan.specs.CheckedPlan.{Checked}
use Rattle.vs_prices.specs.declared.table.Table.{Table}
use Rattle.vs_penalty.specs.Seekers.{IsPlanOf}

-- a plan that a table shows is one of the instance
pub shown_plan : (p : Problem) (sets : List LayerSet) (table : Table) (plan : Option Checked)
    → ShowsPlan p sets table plan → IfSome plan (IsPlanOf p)
shown_plan p sets table None shows = tt
shown_plan p sets table (Some c) shows = (shows.0.problem, shows.0.checked)
