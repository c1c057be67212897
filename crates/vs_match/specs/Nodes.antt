-- The nodes of a layer's net, in their order and by their stops.
use Rattle.std.specs.Prelude.{ℕ, ◌*◌, ◌≤◌, length}
use Rattle.vs_instance.specs.declared.limits.TheConstants.{MAX_TRIPS}
use Rattle.vs_instance.specs.Problem.{Problem}
use Rattle.vs_instance.specs.Ways.{layer_of}
use Rattle.vs_match.specs.declared.nodes.Nodes.{Nodes}
use Rattle.vs_match.specs.Events.{ArePoints, DepartsAt, ArrivesAt, IsEvent}
use Rattle.vs_match.specs.StopNodes.{AreStopNodes, AreLineNodes}

pub record AreNodes (p : Problem) (l : ℕ) (nodes : Nodes) : Type 0 where
  pub points : ArePoints p l nodes.points.items
  pub few : length nodes.points.items ≤ 3 * MAX_TRIPS
  pub all : AreStopNodes nodes.points.items (IsEvent p l) nodes.all.items
  pub few_all : length nodes.all.items ≤ 3 * MAX_TRIPS
  pub departures : AreStopNodes nodes.points.items (DepartsAt p l) nodes.departures.items
  pub few_departures : length nodes.departures.items ≤ MAX_TRIPS
  pub arrivals : AreStopNodes nodes.points.items (ArrivesAt p l) nodes.arrivals.items
  pub few_arrivals : length nodes.arrivals.items ≤ MAX_TRIPS
  pub line : AreLineNodes nodes.points.items (layer_of p l).depot nodes.line.items
  pub few_line : length nodes.line.items ≤ 3 * MAX_TRIPS
