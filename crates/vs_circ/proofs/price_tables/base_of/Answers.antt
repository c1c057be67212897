use Rattle.std.proofs.Common.{ℕ, ◌-◌, ◌∙◌, ap, arith}
use Rattle.std.proofs.lemmas.Int.{ints, clamps}
use Rattle.vs_layer.specs.Graph.{Graph}
use Rattle.vs_path.specs.Residual.{price_at}
use Rattle.vs_circ.proofs.price_tables.base_of.Goals as goal

pub returns : goal.returns
returns c =
    let first = c.requires.within 0 in
    let last = c.requires.within (c.nodes-end.result - 1) in
    let end =
    ap (λ (v : ℕ). price_at c.args.prices.now (v - 1))
    (c.nodes-end.ensures.count ∙ ap (λ (g : Graph). g.nodes) c.net.ensures.graph) in
    omega (arith, ints, clamps, first.low, first.high, last.low, last.high, c.min.ensures.value, end)
