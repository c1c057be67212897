use Rattle.std.proofs.Common.{arith, subst}
use Rattle.vs_layer.specs.Graph.{Graph}
use Rattle.vs_ship.specs.Works.{IsRenewedAt}
use Rattle.vs_circ.proofs.shipping.Readying.{ready-all, ready-more}
use Rattle.vs_circ.proofs.running.begin_runs.Goals as goal

pub loop-place-init : goal.loop-place-init
loop-place-init c = record {
  size = omega arith;
  each = λ i k below stands. absurd (omega (arith, below));
}

pub renew-requires : goal.renew-requires
renew-requires c = omega (arith, c.loop-place.invariant.size)

pub loop-place-preserved : goal.loop-place-preserved
loop-place-preserved c =
    let Renewed : Graph → Type 0 = λ g.
    IsRenewedAt g c.loop-place.work.kept.items c.renew.new.self.kept.items c.loop-place.place in
    ready-more c.args.nets.now c.loop-place.work c.renew.new.self c.loop-place.place c.index-nets-place.result
    c.loop-place-test.true c.index-nets-place.is (subst Renewed c.net.ensures.graph c.in_ok-renew.ensures)
    c.loop-place.invariant

pub returns : goal.returns
returns c =
    ready-all c.args.nets.now c.loop-place.work c.loop-place.place (omega (arith, c.loop-place-test.false))
    c.loop-place.invariant
