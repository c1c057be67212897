-- The net of a layer that is read from the nets.
use Rattle.std.proofs.Common.{◌≡◌, ℕ, ◌<◌, List, length, get_or, sym, subst, arith}
use Rattle.std.proofs.lemmas.List.{get_or_default}
use Rattle.vs_instance.specs.Problem.{Problem}
use Rattle.vs_match.specs.LawfulNets.{IsLawful}
use Rattle.vs_match.specs.LayerGraph.{LayerGraph}
use Rattle.vs_match.specs.LayerNets.{AreLayerNets, net_at, no_net}

-- the net that stands at the number of a layer
pub net_there : (nets : List LayerGraph) (l : ℕ) (other : LayerGraph) → l < length nets
    → get_or nets l other ≡ net_at nets l
net_there nets l other inside = get_or_default nets l other no_net inside

-- is lawful
pub lawful_there : (p : Problem) (nets : List LayerGraph) (l : ℕ) (other : LayerGraph) → AreLayerNets p nets
    → l < length p.layers → IsLawful p l (get_or nets l other)
lawful_there p nets l other are layer =
    let inside : l < length nets = omega (arith, are.each_layer) in
    subst (IsLawful p l) (sym (net_there nets l other inside)) (are.lawful l inside)

-- the same of a net that is known to stand there
pub lawful_read : (p : Problem) (nets : List LayerGraph) (l : ℕ) (net : LayerGraph) → AreLayerNets p nets
    → l < length p.layers → net ≡ get_or nets l net → IsLawful p l net
lawful_read p nets l net are layer is = subst (IsLawful p l) (sym is) (lawful_there p nets l net are layer)
