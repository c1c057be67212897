use Rattle.std.proofs.Common.{◌≡◌, ◌+◌, ◌-◌, ap, ◌∙◌, subst, sym, arith}
use Rattle.std.proofs.lemmas.Int.{ints}
use Rattle.vs_connect.specs.Cost.{IsCost}
use Rattle.vs_plan.proofs.BlockCosts.{links_from, links_from-last, links_from-more, looked_up, looked_up-IsCost}
use Rattle.vs_plan.proofs.costs.links_cost.Goals as goal

pub loop-place-preserved : goal.loop-place-preserved
loop-place-preserved c =
    let p = c.args.instance.now in
    let l = c.args.l in
    let trips = c.args.trips.now in
    let place = c.loop-place.place in
    let inv = c.loop-place.invariant in
    let one = c.loop-place.auto.place in
    let more =
    links_from-more p l trips (place - 1) place (record { 0 = 0 }) (omega (arith, one)) c.loop-place-test.true in
    let again : links_from p l trips (place + 1 - 1) ≡ links_from p l trips place =
    ap (links_from p l trips) (omega arith) in
    let link = c.unwrap_or-cost.ensures ∙ looked_up _ c.link_cost.result c.link_cost.ensures.value in
    let within =
    subst IsCost (sym c.unwrap_or-cost.ensures) (looked_up-IsCost c.link_cost.result c.link_cost.ensures.limit) in
    let few = c.requires.few in
    let inside = c.loop-place-test.true in
    record {
      value = omega (arith, ints, inv.value, more, again, link, inv.low, inv.limit, within.0, within.1);
      low = omega (arith, ints, inv.low, inv.limit, within.0, within.1);
      limit = omega (arith, ints, inv.low, inv.limit, within.0, within.1, one);
    }

pub returns : goal.returns
returns c =
    let place = c.loop-place.place in
    let last =
    links_from-last c.args.instance.now c.args.l c.args.trips.now (place - 1)
    (omega (arith, c.loop-place-test.false, c.loop-place.auto.place)) in
    omega (arith, ints, c.loop-place.invariant.value, last)
