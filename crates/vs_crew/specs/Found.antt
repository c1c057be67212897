-- What the work on a leaf may find.
use Rattle.std.specs.Prelude.{◌≡◌, ◌<◌, true, List, length, Option, IfSome, ℤ}
use Rattle.vs_types.specs.declared.layer_set.LayerSet.{LayerSet}
use Rattle.vs_instance.specs.Problem.{Problem}
use Rattle.vs_instance.specs.Restriction.{IsRestriction, permitted_sets, set_of}
use Rattle.vs_plan.specs.CheckedPlan.{Checked}
use Rattle.vs_prices.specs.Bounds.{IsWorthNoLess}
use Rattle.vs_prices.specs.Table.{Fits, HoldingTable}
use Rattle.vs_prices.specs.Worth.{IsWorth}
use Rattle.vs_prices.specs.declared.bound.Bound.{Bound}
use Rattle.vs_prices.specs.declared.table.Table.{Table}
use Rattle.vs_tree.specs.Sound.{IsPlanOf}
use Rattle.vs_types.specs.Parts.{IsProperPart}
use Rattle.vs_tree.specs.declared.calls.Next.{Next}
use Rattle.vs_tree.specs.declared.calls.Next.TheVariants.{Close, Split}
use Rattle.vs_node.specs.NextSteps.{IsOpen}
use Rattle.vs_node.specs.WorkedStep.{IsWorked}
use Rattle.vs_node.specs.declared.outcome.Outcome.{Outcome}
use Rattle.vs_node.specs.declared.outcome.Task.{Task}
use Rattle.vs_tree.specs.Finishes.{AreWorths, next_in}
use Rattle.vs_tree.specs.Prices.{prices_of}
use Rattle.vs_crew.specs.declared.finding.Finding.{Finding}

-- a leaf is closed where its table leaves no room for a plan that costs less than the known cost and than the plan,
-- and else split by a trip of its sets
abbrev pub IsLawfulNext : Problem → List LayerSet → Option ℤ → Table → Option Checked → Next → Type 0
IsLawfulNext p sets known table plan Close = (worth : Bound) → IsWorth p sets table worth → ¬ (IsOpen worth known plan)
IsLawfulNext p sets known table plan (Split trip left) = (trip.0 < length sets) × IsProperPart left (set_of sets trip.0)

-- what the work on a leaf may find: a table with which it can be finished, and a plan of the instance, if any
pub record IsFound (p : Problem) (task : Task) (outcome : Outcome) : Type 0 where
  pub fits : Fits p outcome.table
  pub holds : HoldingTable p outcome.table
  pub no_less : IsWorthNoLess p task.sets.items outcome.table task.table
  pub worked : IsWorked p task.root task.sets.items task.table outcome.table
  pub plan : IfSome outcome.plan (IsPlanOf p)
  pub next : IsLawfulNext p task.sets.items task.known outcome.table outcome.plan outcome.next

-- a task that may be worked on: its sets are a restriction, its table fits and holds, and at the root each trip may be
-- run in the layers that permit it
pub record IsLawfulTask (p : Problem) (task : Task) : Type 0 where
  pub restriction : IsRestriction p task.sets.items
  pub fits : Fits p task.table
  pub holds : HoldingTable p task.table
  pub root : task.root ≡ true → task.sets.items ≡ permitted_sets p

-- what it found, and how the leaf is finished by that
pub record IsFinding (p : Problem) (task : Task) (finding : Finding) : Type 0 where
  pub found : IsFound p task finding.outcome
  pub next : next_in finding.finish ≡ finding.outcome.next
  pub worths : AreWorths p task.sets.items (prices_of finding.outcome.table) finding.finish
