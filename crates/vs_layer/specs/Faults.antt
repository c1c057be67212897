-- What keeps nodes and arcs from being a net.
use Rattle.std.specs.Prelude.{◌≡◌, ℕ, ◌<◌, ◌≤◌, ◌⊎◌, List, length}
use Rattle.vs_layer.specs.declared.arc.Arc.{Arc}
use Rattle.vs_layer.specs.declared.net_error.NetFault.{NetFault}
use Rattle.vs_layer.specs.declared.net_error.NetFault.TheVariants.{NoSuchNode, NotForward}
use Rattle.vs_layer.specs.declared.net_error.NetError.{NetError}
use Rattle.vs_layer.specs.declared.net_error.NetError.TheVariants as error
use Rattle.vs_layer.specs.Ends.{arc_at}
use Rattle.vs_layer.specs.Graph.{GoesOn, IsRightArc}

-- the fault is that of arc k of so many, in a net of so many nodes: an end is no node; else the arc doesn't go as it
-- should
abbrev pub IsFaultOf : ℕ → ℕ → ℕ → Arc → NetFault → Type 0
IsFaultOf nodes count k a (NoSuchNode n) = (n ≡ k) × ((nodes ≤ a.from) ⊎ (nodes ≤ a.to))
IsFaultOf nodes count k a (NotForward n) = (n ≡ k) × (a.from < nodes) × (a.to < nodes) × (¬ (GoesOn nodes count k a))

-- the fault is that of an arc before which all arcs are right
pub record IsFirstFault (nodes : ℕ) (arcs : List Arc) (fault : NetFault) : Type 0 where
  pub k : ℕ
  pub of_net : k < length arcs
  pub is_fault : IsFaultOf nodes (length arcs) k (arc_at arcs k) fault
  pub before : (j : ℕ) → j < k → IsRightArc nodes (length arcs) j (arc_at arcs j)

-- a fault that is answered is the first
abbrev pub IfFirstFault : ℕ → List Arc → NetError → Type 0
IfFirstFault nodes arcs (error.Fault fault) = IsFirstFault nodes arcs fault
IfFirstFault nodes arcs error.Memory = Unit {0}
