-- How far the prices for leaving and for entering trips may stand from the prices of the nodes.
use Rattle.std.specs.Prelude.{◌≡◌, ℕ, ◌+◌, ◌-◌, ◌/◌, ◌<◌, ◌≤◌, Bool, List, length, slice_index, ℤ, pos, ◌+ℤ◌, ◌-ℤ◌, ◌≤ℤ◌}
use Rattle.vs_layer.specs.declared.arc.Arc.{Arc}
use Rattle.vs_layer.specs.Graph.{Graph, arc_of, leaving, reaching}
use Rattle.vs_match.specs.declared.arc_kind.ArcKind.{ArcKind}
use Rattle.vs_match.specs.declared.arc_kind.ArcKind.TheVariants.{Trip, Waiting, Deadhead, PullOut, PullIn, RestIn, RestWait, RestOut, Return}
use Rattle.vs_match.specs.LayerGraph.{LayerGraph, kind_of}
use Rattle.vs_path.specs.Residual.{price_at}
use Rattle.vs_circ.specs.declared.leeways.Side.{Side}
use Rattle.vs_circ.specs.declared.leeways.Side.TheVariants.{Leaving, Entering}
use Rattle.vs_circ.specs.declared.leeways.TheConstants.{MAX_LEEWAY}
use Rattle.vs_circ.specs.node_prices.NodePrices.{arc_cost}

-- of an arc's two nodes the one whose leeway it limits, and the one whose leeway it passes on
abbrev pub limited : Side → Arc → ℕ
limited Leaving a = a.from
limited Entering a = a.to

abbrev pub passing : Side → Arc → ℕ
passing Leaving a = a.to
passing Entering a = a.from

-- the arcs that limit the leeway of node v
abbrev pub limits_of : Side → Graph → ℕ → List ℕ
limits_of Leaving g v = leaving g v
limits_of Entering g v = reaching g v

-- what an arc costs beyond what a move along it is worth
abbrev pub spare : Bool → List ℤ → Arc → ℤ
spare ray prices a = (price_at prices a.from +ℤ arc_cost ray a) -ℤ price_at prices a.to

-- a trip leaves its node no leeway, and an empty move no more than so much
abbrev pub Allows : ArcKind → ℤ → ℕ → Type 0
Allows (Trip i) most leeway = leeway ≡ 0
Allows Waiting most leeway = pos leeway ≤ℤ most
Allows Deadhead most leeway = pos leeway ≤ℤ most
Allows PullOut most leeway = pos leeway ≤ℤ most
Allows PullIn most leeway = pos leeway ≤ℤ most
Allows RestIn most leeway = pos leeway ≤ℤ most
Allows RestWait most leeway = pos leeway ≤ℤ most
Allows RestOut most leeway = pos leeway ≤ℤ most
Allows Return most leeway = Unit {0}

-- arc k allows so much leeway: an empty move allows what the other node has, and what the move is not worth
abbrev pub ArcAllows : LayerGraph → Bool → Side → List ℤ → List ℕ → ℕ → ℕ → Type 0
ArcAllows n ray side prices leeways k leeway =
    Allows (kind_of n k)
    (pos (slice_index leeways (passing side (arc_of n.graph k))) +ℤ spare ray prices (arc_of n.graph k)) leeway

-- node v may have so much leeway: each arc that limits it allows so much, and it is no more than the greatest
pub record IsAllowed (n : LayerGraph) (ray : Bool) (side : Side) (prices : List ℤ) (leeways : List ℕ)
    (v leeway : ℕ) : Type 0 where
  pub most : leeway ≤ MAX_LEEWAY
  pub each_arc : (k : ℕ) → k < length n.graph.arcs → limited side (arc_of n.graph k) ≡ v
      → ArcAllows n ray side prices leeways k leeway

-- a leeway for each node that its arcs allow, and none for the first and the last
pub record AreLeeways (n : LayerGraph) (ray : Bool) (side : Side) (prices : List ℤ) (leeways : List ℕ)
    : Type 0 where
  pub size : length leeways ≡ n.graph.nodes
  pub allowed : (v : ℕ) → v < n.graph.nodes → IsAllowed n ray side prices leeways v (slice_index leeways v)
  pub first : slice_index leeways 0 ≡ 0
  pub last : slice_index leeways (n.graph.nodes - 1) ≡ 0

-- half of a leeway off the price, rounded down: for entering a trip it rises, and for leaving one it falls
abbrev pub shifted : Side → ℤ → ℕ → ℤ
shifted Entering price leeway = price +ℤ pos (leeway / 2)
shifted Leaving price leeway = price -ℤ pos ((leeway + 1) / 2)

-- a leeway for each node, none of them too great
pub record AreFewLeeways (prices : List ℤ) (leeways : List ℕ) : Type 0 where
  pub size : length leeways ≡ length prices
  pub few : (v : ℕ) → slice_index leeways v ≤ MAX_LEEWAY
