-- A net as its nodes and arcs.
use Rattle.std.specs.Prelude.{◌≡◌, ℕ, ◌+◌, ◌<◌, ◌≤◌, List, length}
use Rattle.vs_layer.specs.declared.arc.TheConstants.{MAX_ARCS}
use Rattle.vs_layer.specs.declared.arc.Arc.{Arc}
use Rattle.vs_layer.specs.declared.arc.End.TheVariants.{From, To}
use Rattle.vs_layer.specs.Ends.{arc_at, arcs_at, heads_in}

-- so many nodes, counted from 0, and the arcs in the order of their numbers
pub record Graph : Type 0 where
  pub nodes : ℕ
  pub arcs : List Arc

abbrev pub arc_of : Graph → ℕ → Arc
arc_of g k = arc_at g.arcs k

-- by arc the node that it reaches
abbrev pub heads : Graph → List ℕ
heads g = heads_in g.arcs

-- the numbers of the arcs that leave node v, and of those that reach it, in order
abbrev pub leaving : Graph → ℕ → List ℕ
leaving g v = arcs_at From g.arcs v

abbrev pub reaching : Graph → ℕ → List ℕ
reaching g v = arcs_at To g.arcs v

-- arc k of so many goes from a lower to a higher node, or, as the last, from the last node back to node 0
pub record GoesOn (nodes count k : ℕ) (a : Arc) : Type 0 where
  pub forward : k + 1 < count → a.from < a.to
  pub from_last : k + 1 ≡ count → a.from + 1 ≡ nodes
  pub to_first : k + 1 ≡ count → a.to ≡ 0

-- arc k of so many stands in a net of so many nodes as it should
pub record IsRightArc (nodes count k : ℕ) (a : Arc) : Type 0 where
  pub from : a.from < nodes
  pub to : a.to < nodes
  pub goes_on : GoesOn nodes count k a

abbrev pub AllRight : ℕ → List Arc → Type 0
AllRight nodes arcs = (k : ℕ) → k < length arcs → IsRightArc nodes (length arcs) k (arc_at arcs k)

pub record IsNet (g : Graph) : Type 0 where
  pub nodes : 2 ≤ g.nodes
  pub some_arc : 0 < length g.arcs
  pub few_arcs : length g.arcs ≤ MAX_ARCS
  pub each_arc : AllRight g.nodes g.arcs
