-- A net turned round: each arc leads the other way, and the nodes are numbered from the last one.
use Rattle.std.specs.Prelude.{◌≡◌, ℕ, ◌-◌, ◌<◌, List, length, ℤ, neg_ℤ}
use Rattle.vs_layer.specs.declared.arc.Arc.{Arc}
use Rattle.vs_layer.specs.Ends.{arc_at}
use Rattle.vs_layer.specs.Graph.{Graph, arc_of}
use Rattle.vs_path.specs.Residual.{ResidualNet, price_at}

-- the number of node v, of so many, in the net turned round
abbrev pub across : ℕ → ℕ → ℕ
across nodes v = (nodes - 1) - v

abbrev pub turned : ℕ → Arc → Arc
turned nodes a =
    record { from = across nodes a.to; to = across nodes a.from; cost = a.cost; room = a.room }

-- arcs that lead the other way
pub record AreTurnedArcs (g : Graph) (arcs : List Arc) : Type 0 where
  pub size : length arcs ≡ length g.arcs
  pub each : (k : ℕ) → k < length g.arcs → arc_at arcs k ≡ turned g.nodes (arc_of g k)

pub record IsMirror (g mirror : Graph) : Type 0 where
  pub nodes : mirror.nodes ≡ g.nodes
  pub arcs : AreTurnedArcs g mirror.arcs

-- the prices of the nodes turned round with them, so that moves cost the same
pub record AreTurned (old new : List ℤ) : Type 0 where
  pub size : length new ≡ length old
  pub each : (v : ℕ) → v < length old → price_at new v ≡ neg_ℤ (price_at old (across (length old) v))

-- what is residual on the net turned round: the same units, costs and rooms
pub record IsMirrorOf (r mirror : ResidualNet) : Type 0 where
  pub graph : IsMirror r.graph mirror.graph
  pub units : mirror.units ≡ r.units
  pub cost : mirror.cost ≡ r.cost
  pub room : mirror.room ≡ r.room
  pub arcs : mirror.arcs ≡ r.arcs
