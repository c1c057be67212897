use Rattle.std.proofs.Common.{ℕ, sym, subst}
use Rattle.vs_layer.specs.Graph.{Graph}
use Rattle.vs_ship.specs.Shipments.{IsStuck, Ships}
use Rattle.vs_circ.specs.shipping.Supplied.{HasStuckUnits}
use Rattle.vs_circ.proofs.shipping.Supplying.{supplied-on}
use Rattle.vs_circ.proofs.fixing.fix.Goals as goal

pub covered-requires-clause-supplied : goal.covered-requires-clause-supplied
covered-requires-clause-supplied c =
    let n = c.args.net.now in
    let Sent : Graph → Type 0 = λ g. Ships g c.supply.new.shipment c.drain.new.shipment in
    supplied-on n c.args.must.now c.supply.new.shipment c.drain.new.shipment c.supply.ensures
    (subst Sent c.net-arcs.ensures.graph c.drain.ensures.ships)

pub short-requires-clause-stuck : goal.short-requires-clause-stuck
short-requires-clause-stuck c =
    let n = c.args.net.now in
    let now = c.drain.new.shipment in
    let reached = c.drain.new.search.reached in
    let Sent : Graph → Type 0 = λ g. Ships g c.supply.new.shipment now in
    let Stuck : Graph → Type 0 = λ g. (source : ℕ) × IsStuck g now source reached in
    let stuck = subst Stuck c.net-arcs.ensures.graph (_, c.in-Some.ensures.left) in
    subst (HasStuckUnits n c.args.must.now) (sym c.reached.ensures.reached)
    (record {
      shipment = now;
      supplied = supplied-on n c.args.must.now c.supply.new.shipment now c.supply.ensures
          (subst Sent c.net-arcs.ensures.graph c.drain.ensures.ships);
      source = stuck.0;
      stuck = stuck.1;
    })
