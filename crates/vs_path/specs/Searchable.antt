-- What is kept from one search to the next.
use Rattle.std.specs.Prelude.{ℕ, ◌<◌, ◌≤◌, List, length, replicate, ◌≡◌, ℤ, pos}
use Rattle.vs_queue.specs.declared.step.Step.{Step}
use Rattle.vs_path.specs.declared.labels.Labels.{Labels}
use Rattle.vs_path.specs.Labels.{AreListed, lists_of}
use Rattle.vs_path.specs.LeastPaths.{LeastPaths, IsSized}
use Rattle.vs_path.specs.Search.{Outcome}
use Rattle.vs_path.specs.Waiting.{CanWait}
use Rattle.vs_queue.specs.NodeLists.{NodeLists}

abbrev pub outcome_of : Labels → List Step → Outcome
outcome_of l path = record { nodes = length l.nodes.settled; path = path; reached = l.order.items }

-- the labels can be cleared, there is space for all nodes in the order and in the path, and by the zeros no node lacks
-- a unit
pub record CanSearch (l : Labels) (order path : ℕ) (zeros : List ℤ) : Type 0 where
  pub some : 0 < length l.nodes.settled
  pub are_listed : AreListed (length l.nodes.settled) (lists_of l)
  pub for_order : length l.nodes.settled ≤ order
  pub for_path : length l.nodes.settled ≤ path
  pub none_lacks : zeros ≡ replicate (length l.nodes.settled) (pos 0)

-- the labels can be cleared, all nodes can wait, there is space for all nodes in the order, for the paths to all of
-- them, and for their prices, and by the zeros no node lacks a unit
pub record CanFindAll (l : Labels) (order : ℕ) (heap : NodeLists) (paths : LeastPaths)
    (prices zeros : List ℤ) : Type 0 where
  pub some : 0 < length l.nodes.settled
  pub can_wait : CanWait (length l.nodes.settled) heap
  pub are_listed : AreListed (length l.nodes.settled) (lists_of l)
  pub for_order : length l.nodes.settled ≤ order
  pub size : IsSized (length l.nodes.settled) paths
  pub for_prices : length prices ≡ length l.nodes.settled
  pub none_lacks : zeros ≡ replicate (length l.nodes.settled) (pos 0)
