use Rattle.std.proofs.Common.{◌-◌, ap, false, arith}
use Rattle.vs_layer.specs.Graph.{Graph}
use Rattle.vs_circ.specs.declared.leeways.Side.TheVariants.{Leaving}
use Rattle.vs_circ.proofs.prices.Passes.{leeways-set}
use Rattle.vs_circ.proofs.leeways.pass_against.Goals as goal

pub loop-v-preserved : goal.loop-v-preserved
loop-v-preserved c =
    let nodes = ap (λ (g : Graph). g.nodes) c.net.ensures.graph in
    leeways-set c.args.net.now false Leaving c.args.prices.now c.loop-v.leeways c.loop-v.invariant (c.loop-v.v - 1)
    c.leeway_of.result (omega arith) (omega (arith, nodes)) c.leeway_of.ensures
