-- Shipments from which nothing is left to send.
use Rattle.std.specs.Prelude.{List, Option, ℤ, pos}
use Rattle.vs_layer.specs.Circulation.{IsCirculation}
use Rattle.vs_match.specs.LayerGraph.{LayerGraph}
use Rattle.vs_path.specs.declared.residual.TheConstants.{MAX_SEARCH_PRICE}
use Rattle.vs_path.specs.StepCosts.{most_step}
use Rattle.vs_path.specs.Residual.{AllWithin, HasSignRule}
use Rattle.vs_ship.specs.declared.shipment.Shipment.{Shipment}
use Rattle.vs_circ.specs.shipping.Prepared.{AreOfferedCosts, AreOfferedRooms}
use Rattle.vs_circ.specs.PricedFlows.{IsPricedFlow, KeepsOffers}
use Rattle.vs_ship.specs.Shipments.{AreInRoom, IsSized, residual_of}

-- the arcs cost and take what they do where these trips are offered, and none carries more
pub record IsOfOffers (n : LayerGraph) (offers : List (Option ℤ)) (s : Shipment) : Type 0 where
  pub costs : AreOfferedCosts n offers s.costs.cost.items
  pub small : AllWithin (pos (most_step n.graph.nodes)) s.costs.cost.items
  pub rooms : AreOfferedRooms n offers s.costs.room.items
  pub in_room : AreInRoom n.graph s

-- the units are a circulation of offered trips, at which nobody gains by the prices
pub record IsSettled (n : LayerGraph) (offers : List (Option ℤ)) (s : Shipment) : Type 0 where
  pub sized : IsSized n.graph s
  pub circulation : IsCirculation n.graph s.flow.units.items
  pub flow : IsPricedFlow n s.flow.units.items s.prices.items
  pub keeps : KeepsOffers n offers s.flow.units.items s.prices.items
  pub prices : AllWithin MAX_SEARCH_PRICE s.prices.items
  pub signs : HasSignRule (residual_of n.graph s) s.prices.items
  pub offered : IsOfOffers n offers s
