-- Entries made from prices and leeways that aren't too great are prices.
use Rattle.std.proofs.Common.{◌≡◌, ℕ, ◌<◌, ◌≤◌, ◌∙◌, List, length, ap, sym, subst, arith, ℤ, ◌-ℤ◌}
use Rattle.std.specs.Prelude.{slice_index}
use Rattle.std.proofs.lemmas.Int.{ints, clamps}
use Rattle.vs_layer.specs.declared.arc.Arc.{Arc}
use Rattle.vs_layer.specs.Graph.{IsRightArc, arc_of}
use Rattle.vs_instance.specs.Problem.{Problem}
use Rattle.vs_match.specs.LayerGraph.{LayerGraph, IsArcOfTrip}
use Rattle.vs_match.specs.LawfulNets.{IsLawful}
use Rattle.vs_path.specs.Residual.{AllWithin, IsWithin, price_at}
use Rattle.vs_path.specs.Raising.{HasSpan}
use Rattle.vs_circ.specs.declared.leeways.Side.{Side}
use Rattle.vs_circ.specs.declared.leeways.Side.TheVariants.{Leaving, Entering}
use Rattle.vs_circ.specs.declared.leeways.TheConstants.{MAX_LEEWAY}
use Rattle.vs_ship.specs.declared.gaps.TheConstants.{MAX_NODE_PRICE}
use Rattle.vs_circ.specs.LayerPrices.{IsPrice}
use Rattle.vs_circ.specs.node_prices.Leeways.{passing, shifted}
use Rattle.vs_circ.specs.node_prices.PriceTables.{IsEntry, base_price}
use Rattle.vs_circ.specs.PricedFlows.{end_node}

-- the price from which they count lies no further out than the prices
pub base-within : (n : LayerGraph) (prices : List ℤ) → AllWithin MAX_NODE_PRICE prices
    → IsWithin MAX_NODE_PRICE (base_price n prices)
base-within n prices within =
    let first = within 0 in
    let last = within (end_node n) in
    record {
      low = omega (arith, ints, clamps, first.low, first.high, last.low, last.high);
      high = omega (arith, ints, clamps, first.low, first.high, last.low, last.high);
    }

-- the node whose price is paid for entering or leaving a trip is one of the net
passing-inside : (side : Side) (nodes count k : ℕ) (a : Arc) → IsRightArc nodes count k a → passing side a < nodes
passing-inside Leaving nodes count k a arc = arc.to
passing-inside Entering nodes count k a arc = arc.from

-- no price lies further from the one from which they count than two prices may
base-apart : (n : LayerGraph) (prices : List ℤ) (v : ℕ) → 0 < length prices → end_node n < length prices
    → v < length prices → HasSpan MAX_NODE_PRICE prices
    → IsWithin MAX_NODE_PRICE (price_at prices v -ℤ base_price n prices)
base-apart n prices v some end here span =
    let above = span v 0 here some in
    let below = span 0 v some here in
    let above_end = span v (end_node n) here end in
    record {
      low = omega (arith, ints, clamps, below);
      high = omega (arith, ints, clamps, above, above_end);
    }

-- nor does that of the node of a trip's arc
pub entry-apart : (p : Problem) (l : ℕ) (n : LayerGraph) (side : Side) (prices : List ℤ) (i k node : ℕ) (base : ℤ)
    → IsLawful p l n → length prices ≡ n.graph.nodes → HasSpan MAX_NODE_PRICE prices → IsArcOfTrip n.kinds i k
    → node ≡ passing side (arc_of n.graph k) → base ≡ base_price n prices
    → IsWithin MAX_NODE_PRICE (price_at prices node -ℤ base)
entry-apart p l n side prices i k node base lawful size span is at base_is =
    let nodes = lawful.net.nodes in
    let arc = lawful.net.each_arc k (omega (arith, is.0, lawful.labelled.each_arc)) in
    let inside = passing-inside side n.graph.nodes (length n.graph.arcs) k (arc_of n.graph k) arc in
    subst (λ (z : ℤ). IsWithin MAX_NODE_PRICE (price_at prices node -ℤ z)) (sym base_is)
    (base-apart n prices node (omega (arith, size, nodes)) (omega (arith, size, nodes))
    (omega (arith, inside, at, size)) span)

-- moved by a leeway, what lies no further out is a price
pub shifted-price : (side : Side) (price : ℤ) (leeway : ℕ) → IsWithin MAX_NODE_PRICE price
    → leeway ≤ MAX_LEEWAY → IsPrice (shifted side price leeway)
shifted-price Leaving price leeway within few =
    (omega (arith, ints, within.low, within.high), omega (arith, ints, within.low, within.high))
shifted-price Entering price leeway within few =
    (omega (arith, ints, within.low, within.high), omega (arith, ints, within.low, within.high))

-- the entry of a trip with an arc
pub entry-of-arc : (p : Problem) (l : ℕ) (n : LayerGraph) (side : Side) (prices : List ℤ) (leeways : List ℕ)
    (i k node : ℕ) (base entry : ℤ) → IsLawful p l n → IsWithin MAX_NODE_PRICE (price_at prices node -ℤ base)
    → ((v : ℕ) → slice_index leeways v ≤ MAX_LEEWAY) → IsArcOfTrip n.kinds i k
    → node ≡ passing side (arc_of n.graph k) → base ≡ base_price n prices
    → entry ≡ shifted side (price_at prices node -ℤ base) (slice_index leeways node)
    → IsEntry n side prices leeways i entry
entry-of-arc p l n side prices leeways i k node base entry lawful apart few is at base_is entry_is =
    let Is : ℤ → Type 0 = IsPrice in
    record {
      with_arc = λ k' is'.
          let same : node ≡ passing side (arc_of n.graph k') =
          at ∙ ap (λ (j : ℕ). passing side (arc_of n.graph j)) (lawful.one_arc i k k' is is') in
          entry_is
          ∙ ap (λ (z : ℤ). shifted side (price_at prices node -ℤ z) (slice_index leeways node)) base_is
          ∙ ap (λ (v : ℕ). shifted side (price_at prices v -ℤ base_price n prices) (slice_index leeways v)) same;
      without = λ none. absurd (none k is);
      price = subst Is (sym entry_is)
          (shifted-price side (price_at prices node -ℤ base) (slice_index leeways node) apart (few node));
    }
