-- The nets of an instance, one for each layer.
use Rattle.std.specs.Prelude.{◌≡◌, ℕ, ◌<◌, ◌≤◌, List, [], length, slice_index_or}
use Rattle.vs_layer.specs.Graph.{arc_of}
use Rattle.vs_instance.specs.Problem.{Problem}
use Rattle.vs_instance.specs.Instance.{IsInstance}
use Rattle.vs_match.specs.LayerGraph.{LayerGraph, arcs_in}
use Rattle.vs_match.specs.LawfulNets.{IsLawful}

-- what stands past the end of the nets
abbrev pub no_net : LayerGraph
no_net = record { graph = record { nodes = 0; arcs = [] }; kinds = []; points = [] }

abbrev pub net_at : List LayerGraph → ℕ → LayerGraph
net_at nets l = slice_index_or nets l no_net

-- the nets are those of an instance: a lawful one for each layer, in order
pub record AreLayerNets (p : Problem) (nets : List LayerGraph) : Type 0 where
  pub instance : IsInstance p
  pub each_layer : length nets ≡ length p.layers
  pub lawful : (l : ℕ) → l < length nets → IsLawful p l (net_at nets l)

-- the arcs stand in the order of the nodes that they leave
abbrev pub HasRisingArcs : LayerGraph → Type 0
HasRisingArcs n = (j k : ℕ) → j < k → k < arcs_in n → (arc_of n.graph j).from ≤ (arc_of n.graph k).from

-- the nets are those of an instance, with their arcs in order
pub record AreNets (p : Problem) (nets : List LayerGraph) : Type 0 where
  pub of_layers : AreLayerNets p nets
  pub rising : (l : ℕ) → l < length nets → HasRisingArcs (net_at nets l)
