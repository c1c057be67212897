use Rattle.std.proofs.Common.{arith, subst}
use Rattle.vs_layer.specs.Graph.{Graph}
use Rattle.vs_ship.specs.Works.{IsKeptFor}
use Rattle.vs_ship.proofs.shipping.Keeping.{kept-all, kept-more}
use Rattle.vs_ship.proofs.work.Work.new.Goals as goal

pub loop-net-preserved : goal.loop-net-preserved
loop-net-preserved c =
    kept-more c.args.nets.now c.loop-net.kept.items c.push.new.self.items c.loop-net.net-index c.net-item.result
    c.in_ok-start.start c.in_ok-push.ensures.items c.loop-net.invariant c.net-item.is
    (subst (λ (g : Graph). IsKeptFor g c.in_ok-start.start) c.net.ensures.graph c.in_ok-start.ensures.kept)

pub returns : goal.returns
returns c = kept-all c.args.nets.now _ c.loop-net.net-index (omega (arith, c.loop-net.auto.net-index-end))
    c.loop-net.invariant
