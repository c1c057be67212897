-- A search by one worker, leaf after leaf.
use Rattle.std.specs.Prelude.{◌≡◌, ℕ, None}
use Rattle.vs_instance.specs.Problem.{Problem}
use Rattle.vs_node.specs.WorkedHistory.{AreWorked}
use Rattle.vs_node.specs.declared.outcome.Outcome.{Outcome}
use Rattle.vs_node.specs.declared.outcome.Task.{Task}
use Rattle.vs_tree.specs.History.{Opening}
use Rattle.vs_tree.specs.Search.{Search, state}
use Rattle.vs_crew.specs.Found.{IsFound}
use Rattle.vs_crew.specs.Leaves.{HoldsLeaf}
use Rattle.vs_crew.specs.Sharing.{IsIdle}

-- how a search begins that one worker makes without a plan
abbrev pub begun_alone : Problem → ℕ → Opening
begun_alone p budget = record { problem = p; budget = budget; workers = 1; first = None }

-- between two leaves: the worker has none, and worked on each that was split or closed
pub record IsBetweenLeaves (t : Search) : Type 0 where
  pub workers : t.opening.workers ≡ 1
  pub idle : IsIdle 0 t.opening (state t)
  pub worked : AreWorked t.opening t.steps

-- at a leaf: the worker has it, and its task
pub record IsAtLeaf (leaf : ℕ) (task : Task) (t : Search) : Type 0 where
  pub workers : t.opening.workers ≡ 1
  pub holds : HoldsLeaf 0 leaf task t.opening (state t)
  pub worked : AreWorked t.opening t.steps

-- it has worked on the leaf, and this is what it found
pub record HasOutcome (leaf : ℕ) (outcome : Outcome) (t : Search) : Type 0 where
  pub task : Task
  pub at_leaf : IsAtLeaf leaf task t
  pub found : IsFound t.opening.problem task outcome
