-- Where units suit their arcs, no step gains anything.
use Rattle.std.proofs.Common.{arith}
use Rattle.std.proofs.lemmas.Int.{ints}
use Rattle.vs_layer.specs.Graph.{Graph}
use Rattle.vs_queue.specs.declared.step.Step.TheVariants.{Forward, Back}
use Rattle.vs_path.specs.Residual.{HasSignRule}
use Rattle.vs_ship.specs.declared.shipment.Shipment.{Shipment}
use Rattle.vs_ship.specs.Shipments.{residual_of}
use Rattle.vs_ship.specs.Suiting.{AllSuit}

pub suit-signs : (g : Graph) (s : Shipment)
    → AllSuit g s.costs.cost.items s.costs.room.items s.prices.items s.flow.units.items
    → HasSignRule (residual_of g s) s.prices.items
suit-signs g s suit (Forward k) open_ =
    let more = (suit k open_.arc).more open_.room in omega (arith, ints, more)
suit-signs g s suit (Back k) open_ =
    let less = (suit k open_.arc).less open_.room in omega (arith, ints, less)
