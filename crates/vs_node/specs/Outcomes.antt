-- What the work on a leaf finds beside its table.
use Rattle.std.specs.Prelude.{◌≡◌, List, Option}
use Rattle.vs_types.specs.declared.layer_set.LayerSet.{LayerSet}
use Rattle.vs_instance.specs.Problem.{Problem}
use Rattle.vs_match.specs.LayerGraph.{LayerGraph}
use Rattle.vs_multi.specs.Rounds.{IsCase}
use Rattle.vs_plan.specs.CheckedPlan.{Checked}
use Rattle.vs_prices.specs.declared.table.Table.{Table}
use Rattle.vs_prices.specs.declared.bound.Bound.{Bound}
use Rattle.vs_prices.specs.Bounds.{IsWorthNoLess}
use Rattle.vs_prices.specs.Table.{Fits, HoldingTable}
use Rattle.vs_prices.specs.Worth.{IsWorth}
use Rattle.vs_tree.specs.declared.calls.Next.{Next}
use Rattle.vs_tree.specs.declared.calls.Next.TheVariants.{Close, Split}
use Rattle.vs_node.specs.declared.outcome.Outcome.{Outcome}
use Rattle.vs_node.specs.declared.outcome.Task.{Task}
use Rattle.vs_node.specs.ChosenLayers.{AreChosen}
use Rattle.vs_node.specs.LeastPlans.{IsBestWithin}
use Rattle.vs_node.specs.NextSteps.{IsOpen, IsSplit}
use Rattle.vs_node.specs.WorkedStep.{IsWorked}

-- what the work on a leaf has at hand: a case, whose sets are the task's, and a table that fits and holds
pub record IsAtHand (p : Problem) (nets : List LayerGraph) (sets : List LayerSet) (task : Task) : Type 0 where
  pub case : IsCase p nets sets
  pub own : sets ≡ task.sets.items
  pub fits : Fits p task.table
  pub holds : HoldingTable p task.table

-- a least plan in which each trip is run in the layer that the table chooses for it, None exactly where there is none
pub record HasPlan (p : Problem) (sets : List LayerSet) (table : Table) (plan : Option Checked) : Type 0 where
  pub chosen : List LayerSet
  pub are_chosen : AreChosen p sets table chosen
  pub best : IsBestWithin p chosen plan

-- Close where the table leaves no room for a plan that is wanted, and else a lawful split
abbrev pub HasNext : Problem → Task → Table → Option Checked → Next → Type 0
HasNext p task table plan Close =
    (worth : Bound) → IsWorth p task.sets.items table worth → ¬ (IsOpen worth task.known plan)
HasNext p task table plan (Split trip left) =
    ((worth : Bound) → IsWorth p task.sets.items table worth → IsOpen worth task.known plan)
    × IsSplit task.sets.items trip left

-- what becomes of the leaf, by what is known and by what the work on it found
abbrev pub IsFollowedBy : Problem → Task → Outcome → Type 0
IsFollowedBy p task outcome = HasNext p task outcome.table outcome.plan outcome.next

-- what the work on a leaf comes to: a lawful table that is worth no less there than the leaf's own, and no less than
-- the Lagrangian value at the multipliers that the leaf begins with; and a least plan of the layers that it chooses
pub record IsOutcome (p : Problem) (task : Task) (outcome : Outcome) : Type 0 where
  pub fits : Fits p outcome.table
  pub holds : HoldingTable p outcome.table
  pub no_less : IsWorthNoLess p task.sets.items outcome.table task.table
  pub worked : IsWorked p task.root task.sets.items task.table outcome.table
  pub plan : HasPlan p task.sets.items outcome.table outcome.plan
