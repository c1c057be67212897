-- Arcs that are put to others.
use Rattle.std.specs.Prelude.{ℕ, ◌⊎◌, ◌↔◌, List, Contains, AllPairs}
use Rattle.vs_layer.specs.declared.arc.Arc.{Arc}
use Rattle.vs_instance.specs.Problem.{Problem}
use Rattle.vs_match.specs.declared.event.Point.{Point}
use Rattle.vs_match.specs.declared.arc_kind.LayerArc.{LayerArc}
use Rattle.vs_match.specs.declared.matching.Matching.{Matching}
use Rattle.vs_match.specs.NetArcs.{IsArcOf, IsArcBefore}

-- the arc itself
abbrev pub arc_in : LayerArc → Arc
arc_in x = record { from = x.from; to = x.to; cost = x.cost; room = x.room }

-- the new items are the old ones, and all such ones
abbrev pub Adds : {X : Type 0} → (X → Type 0) → List X → List X → Type 0
Adds {X} Such old new = (x : X) → Contains new x ↔ (Contains old x ⊎ Such x)

-- the arcs of layer l's net by this matching, in order
pub record AreArcs (p : Problem) (l : ℕ) (matching : Matching) (points : List Point)
    (arcs : List LayerArc) : Type 0 where
  pub only : (x : LayerArc) → Contains arcs x → IsArcOf p l matching points x.kind (arc_in x)
  pub every : (x : LayerArc) → IsArcOf p l matching points x.kind (arc_in x) → Contains arcs x
  pub ordered : AllPairs (λ x y. IsArcBefore (arc_in x) x.kind (arc_in y) y.kind) arcs
