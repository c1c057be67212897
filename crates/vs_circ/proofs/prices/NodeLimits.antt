-- The arcs that limit the leeway of a node.
use Rattle.std.proofs.Common.{◌≡◌, ℕ, ◌<◌, List, length, get_or, sym, subst}
use Rattle.vs_layer.specs.declared.arc.End.TheVariants.{From, To}
use Rattle.vs_layer.specs.Graph.{Graph, arc_of}
use Rattle.vs_path.proofs.CallerLemmas.{of_node, in_node}
use Rattle.vs_circ.specs.declared.leeways.Side.{Side}
use Rattle.vs_circ.specs.declared.leeways.Side.TheVariants.{Leaving, Entering}
use Rattle.vs_circ.specs.node_prices.Leeways.{limited, limits_of}

-- each of them has the node at that end
pub limits-arc : (side : Side) (g : Graph) (v : ℕ) (ks : List ℕ) → ks ≡ limits_of side g v → (i : ℕ) → i < length ks
    → (get_or ks i 0 < length g.arcs) × (limited side (arc_of g (get_or ks i 0)) ≡ v)
limits-arc Leaving g v ks are i within =
    let P : List ℕ → Type 0 = λ js. i < length js
    → (get_or js i 0 < length g.arcs) × ((arc_of g (get_or js i 0)).from ≡ v) in
    subst P (sym are) (of_node From g.arcs (length g.arcs) v i) within
limits-arc Entering g v ks are i within =
    let P : List ℕ → Type 0 = λ js. i < length js
    → (get_or js i 0 < length g.arcs) × ((arc_of g (get_or js i 0)).to ≡ v) in
    subst P (sym are) (of_node To g.arcs (length g.arcs) v i) within

-- each arc that has the node at that end is one of them
pub limits-all : (side : Side) (g : Graph) (v : ℕ) (ks : List ℕ) → ks ≡ limits_of side g v → (k : ℕ)
    → k < length g.arcs → limited side (arc_of g k) ≡ v → (i : ℕ) × (i < length ks) × (get_or ks i 0 ≡ k)
limits-all Leaving g v ks are k within at =
    let P : List ℕ → Type 0 = λ js. (i : ℕ) × (i < length js) × (get_or js i 0 ≡ k) in
    subst P (sym are) (in_node From g.arcs (length g.arcs) v k within at)
limits-all Entering g v ks are k within at =
    let P : List ℕ → Type 0 = λ js. (i : ℕ) × (i < length js) × (get_or js i 0 ≡ k) in
    subst P (sym are) (in_node To g.arcs (length g.arcs) v k within at)
