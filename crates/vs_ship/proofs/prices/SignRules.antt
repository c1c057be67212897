-- Prices made from prices with the sign rule have it too.
use Rattle.std.proofs.Common.{◌≡◌, ◌<◌, List, length, ap, inl, inr, arith, ℤ, pos}
use Rattle.std.proofs.lemmas.Int.{ints, by_lt_z}
use Rattle.vs_path.specs.StepCosts.{most_step}
use Rattle.vs_queue.specs.declared.step.Step.{Step}
use Rattle.vs_queue.specs.declared.step.Step.TheVariants.{Forward, Back}
use Rattle.vs_path.specs.Residual.{ResidualNet, IsResidual, HasSignRule, AllWithin, arc_no, from_of, to_of, price_at}
use Rattle.vs_path.proofs.CallerLemmas.{cost-within}
use Rattle.vs_ship.specs.Centring.{AreMeans}
use Rattle.vs_ship.specs.Gaps.{AreNear}

-- a step's ends are nodes
step-ends : (r : ResidualNet) → IsResidual r → (s : Step) → arc_no s < r.arcs
    → (from_of r s < r.graph.nodes) × (to_of r s < r.graph.nodes)
step-ends r is (Forward k) below = let arc = is.net.each_arc k (omega (arith, is.arcs)) in (arc.from, arc.to)
step-ends r is (Back k) below = let arc = is.net.each_arc k (omega (arith, is.arcs)) in (arc.to, arc.from)

-- where gaps are closed
pub sign-near : (r : ResidualNet) (old new : List ℤ) → IsResidual r
    → AllWithin (pos (most_step r.graph.nodes)) r.cost
    → length old ≡ r.graph.nodes → AreNear old new → HasSignRule r old → HasSignRule r new
sign-near r old new is costs each_node near rule s is_open =
    let ends = step-ends r is s is_open.arc in
    let cost = cost-within r (pos (most_step r.graph.nodes)) s costs in
    let most : most_step (length old) ≡ most_step r.graph.nodes = ap most_step each_node in
    let before = rule s is_open in
    by_lt_z (price_at old (to_of r s)) (price_at old (from_of r s))
    (λ falls.
    let closed = near.closed (to_of r s) (from_of r s) (omega (arith, ends.1, each_node))
    (omega (arith, ends.0, each_node)) (omega (arith, ints, falls)) in
    elim closed.enough [
      | inl enough ↦ omega (arith, ints, before, enough)
      | inr enough ↦ omega (arith, ints, cost.low, enough, most)
    ])
    (λ rises.
    let closed = near.closed (from_of r s) (to_of r s) (omega (arith, ends.0, each_node))
    (omega (arith, ends.1, each_node)) rises in
    omega (arith, ints, before, closed.no_more))

-- in the middle of two
pub sign-mean : (r : ResidualNet) (low high means : List ℤ) → IsResidual r → length low ≡ r.graph.nodes
    → AreMeans low high means → HasSignRule r low → HasSignRule r high → HasSignRule r means
sign-mean r low high means is each_node are rule rule' s is_open =
    let ends = step-ends r is s is_open.arc in
    let from = are.each (from_of r s) (omega (arith, ends.0, each_node)) in
    let to = are.each (to_of r s) (omega (arith, ends.1, each_node)) in
    let below = rule s is_open in
    let above = rule' s is_open in
    omega (arith, ints, below, above, from.no_more, from.no_less, to.no_more, to.no_less)
