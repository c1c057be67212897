use Rattle.std.proofs.Common.{◌≡◌, ◌<◌, ◌∙◌, ap, arith, length, get_or, List, ℕ}
use Rattle.std.proofs.lemmas.List.{get_or-map}
use Rattle.vs_layer.specs.declared.arc.Arc.{Arc}
use Rattle.vs_layer.specs.Ends.{no_arc}
use Rattle.vs_layer.specs.Graph.{Graph, arc_of}
use Rattle.vs_path.specs.Residual.{ResidualNet, arc_no}
use Rattle.vs_path.proofs.residual.Residual.to.Goals as goal

-- the head of an arc of a net is a node
pub returns-in-Forward-clause-of_net : goal.returns-in-Forward-clause-of_net
returns-in-Forward-clause-of_net c =
    let k = c.in-Forward.k in
    let g = c.self.inside.net.now in
    let same : g ≡ c.args.self.now.graph = ap (λ (r : ResidualNet). r.graph) c.self.view_is in
    let within : k < length g.arcs =
    omega (arith, c.requires, ap arc_no c.in-Forward.is, ap (λ (h : Graph). length h.arcs) same) in
    let read : get_or c.self.inside.heads.now k 0 ≡ (arc_of g k).to =
    ap (λ (vs : List ℕ). get_or vs k 0) c.self.invariant.2
    ∙ get_or-map (λ (a : Arc). a.to) g.arcs k no_arc 0 within in
    let right = c.self.invariant.0.net.each_arc k within in
    omega (arith, read, right.to, ap (λ (h : Graph). h.nodes) same)
