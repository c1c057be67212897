-- What a search keeps of each node, as lists by node.
use Rattle.std.specs.Prelude.{ℕ, List, map, slice_index_or, Option, Some, None, ℤ}
use Rattle.vs_queue.specs.declared.node_table.Settled.{Settled}
use Rattle.vs_queue.specs.declared.node_table.Mark.{Mark}
use Rattle.vs_queue.specs.declared.node_table.Mark.TheVariants.{Unknown, Waits, Placed}
use Rattle.vs_queue.specs.declared.node_table.NodeRecord.{NodeRecord}
use Rattle.vs_queue.specs.declared.step.Step.{Step}
use Rattle.vs_queue.specs.Keys.{Keys, IsBelow, key_at}

-- the distance and the place of a node that is marked as settled
abbrev pub settled_by : Mark → ℤ → Option Settled
settled_by Unknown distance = None
settled_by Waits distance = None
settled_by (Placed place) distance = Some (record { distance = distance; place = place })

-- the key of a node that is marked as waiting
abbrev pub key_by : Mark → ℤ → Option ℤ
key_by Unknown distance = None
key_by Waits distance = Some distance
key_by (Placed place) distance = None

abbrev pub settled_of : NodeRecord → Option Settled
settled_of n = settled_by n.mark n.distance

abbrev pub key_of : NodeRecord → Option ℤ
key_of n = key_by n.mark n.distance

abbrev pub step_of : NodeRecord → Option Step
step_of n = Some n.step

-- the least distance to a node that was found so far: the one at which it is settled, or else its key
abbrev pub label_of : Option Settled → Option ℤ → Option ℤ
label_of None key = key
label_of (Some a) key = Some a.distance

-- by node: the least distance and the place in the order, where it is settled; the key, where it waits; and the last
-- step of a path that was found
pub record NodeLists : Type 0 where
  pub settled : List (Option Settled)
  pub waiting : Keys
  pub steps : List (Option Step)

abbrev pub lists_by_node : List NodeRecord → NodeLists
lists_by_node ns = record { settled = map settled_of ns; waiting = map key_of ns; steps = map step_of ns }

-- the node isn't reached, or at a greater distance than this
abbrev pub IsFarther : NodeLists → ℕ → ℤ → Type 0
IsFarther lists v label =
    IsBelow label (label_of (slice_index_or lists.settled v None) (key_at lists.waiting v))
