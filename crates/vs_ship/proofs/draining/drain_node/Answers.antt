use Rattle.std.proofs.Common.{◌∙◌}
use Rattle.vs_ship.proofs.shipping.Shipping.{ships-on}
use Rattle.vs_ship.proofs.draining.drain_node.Goals as goal

pub returns-then-not-send-clause-ships : goal.returns-then-not-send-clause-ships
returns-then-not-send-clause-ships c =
    ships-on c.args.net.now c.args.shipment.now c.loop-search.shipment c.send.new.shipment c.loop-search.invariant.ships
    c.send.ensures.ships

pub loop-search-preserved : goal.loop-search-preserved
loop-search-preserved c = record {
  ships = ships-on c.args.net.now c.args.shipment.now c.loop-search.shipment c.send.new.shipment
      c.loop-search.invariant.ships
      c.send.ensures.ships;
  nodes = c.send.ensures.nodes ∙ c.loop-search.invariant.nodes;
  loads = c.send.ensures.loads;
}
