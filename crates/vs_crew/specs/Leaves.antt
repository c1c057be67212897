-- What a worker knows of the leaf that it holds.
use Rattle.std.specs.Prelude.{◌≡◌, ◌==◌, ◌↔◌, ℕ, ◌<◌, Bool, IsTrue, Option, Some, None}
use Rattle.vs_plan.specs.CheckedPlan.{Checked}
use Rattle.vs_tree.specs.Calls.{offering, with_step}
use Rattle.vs_tree.specs.History.{Opening, State, IsAmong, IsCheaper, IsHeldBy, known, prices_at, sets_at}
use Rattle.vs_tree.specs.Prices.{prices_of}
use Rattle.vs_tree.specs.Search.{Search, state}
use Rattle.vs_tree.specs.Takes.{IsOver}
use Rattle.vs_tree.specs.declared.calls.Take.{Take}
use Rattle.vs_tree.specs.declared.calls.Take.TheVariants.{Node, Wait, Done, Spent}
use Rattle.vs_node.specs.declared.outcome.Task.{Task}
use Rattle.vs_crew.specs.declared.finding.Finding.{Finding}
use Rattle.vs_crew.specs.Found.{IsFinding, IsLawfulTask}
use Rattle.vs_crew.specs.Sharing.{IsIdle, Says}

-- the task is the leaf's
pub record IsTaskOf (s : State) (leaf : ℕ) (task : Task) : Type 0 where
  pub sets : task.sets.items ≡ sets_at s leaf
  pub prices : prices_of task.table ≡ prices_at s leaf
  pub known : task.known ≡ known s
  pub root : task.root ≡ (leaf == 0)

-- the worker holds this leaf, has offered nothing since it took it, and its task is the leaf's
pub record HoldsLeaf (worker leaf : ℕ) (task : Task) (o : Opening) (s : State) : Type 0 where
  pub is_worker : worker < o.workers
  pub holds : IsHeldBy s worker leaf
  pub fresh : ¬ (IsAmong worker s.offered)
  pub of_leaf : IsTaskOf s leaf task
  pub lawful : IsLawfulTask o.problem task

-- the worker holds this leaf, and this is what the work on it found
pub record HasFound (worker leaf : ℕ) (finding : Finding) (o : Opening) (s : State) : Type 0 where
  pub task : Task
  pub has : HoldsLeaf worker leaf task o s
  pub found : IsFinding o.problem task finding

-- what a worker knows once it was told this
abbrev pub IsTold : ℕ → Task → Take → Says
IsTold worker task (Node leaf cost) o s = HoldsLeaf worker leaf task o s
IsTold worker task Wait o s = IsIdle worker o s
IsTold worker task Done o s = IsOver o s
IsTold worker task Spent o s = IsOver o s

-- what it knows once it has asked for a leaf, where the gate that may stop it did so, and else
abbrev pub IsAsked : Type 0 → ℕ → Task → Option Take → Says
IsAsked stops worker task None o s = stops × IsIdle worker o s
IsAsked stops worker task (Some take) o s = IsTold worker task take o s

-- the worker offered the plan, where there is one
abbrev pub HasOffered : ℕ → Search → Option Checked → Search → Type 0
HasOffered worker old None new = new ≡ old
HasOffered worker old (Some plan) new = (added : Bool) × (IsTrue added ↔ IsCheaper plan.cost (known (state old)))
    × (new ≡ with_step old (offering (state old) worker plan added))
