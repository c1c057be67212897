-- The drives between a layer's depot and its trips, by the nodes that they join.
use Rattle.std.specs.Prelude.{◌≡◌, ℕ, ◌+◌, ◌-◌, ◌≤◌, List, Some}
use Rattle.vs_instance.specs.declared.way.Way.{Way}
use Rattle.vs_instance.specs.Problem.{Problem}
use Rattle.vs_instance.specs.Ways.{way, layer_of}
use Rattle.vs_match.specs.declared.event.Point.{Point}
use Rattle.vs_match.specs.declared.arc_kind.LayerArc.{LayerArc}
use Rattle.vs_match.specs.declared.depot_drives.DepotDrive.{DepotDrive}
use Rattle.vs_match.specs.declared.depot_drives.DepotDrive.TheVariants.{PullOut, PullIn, RestIn, RestOut}
use Rattle.vs_match.specs.declared.nodes.Nodes.{Nodes}
use Rattle.vs_match.specs.declared.stop_node.StopNode.{StopNode}
use Rattle.vs_match.specs.Events.{IsWayAfterRest, HasLine, last_node}
use Rattle.vs_match.specs.StopNodes.{event_of}
use Rattle.vs_match.specs.ArcsOf.{pull_out_of, pull_in_of, rest_in_of, rest_out_of}
use Rattle.vs_match.specs.Parts.{IsPullOut, IsPullIn, IsRestIn, IsRestOut}
use Rattle.vs_match.specs.Sweep.{IsFirstFrom}

-- from the depot to this departure
pub record IsPullOutTo (p : Problem) (l : ℕ) (until : StopNode) (x : LayerArc) : Type 0 where
  pub by : Way
  pub way_is : way p (layer_of p l).depot.0 until.stop.0 ≡ Some by
  pub in_time : by.minutes ≤ until.minute
  pub is : x ≡ pull_out_of p l by until

-- from this arrival back to the depot
pub record IsPullInFrom (p : Problem) (l : ℕ) (points : List Point) (since : StopNode) (x : LayerArc) : Type 0 where
  pub by : Way
  pub way_is : way p since.stop.0 (layer_of p l).depot.0 ≡ Some by
  pub is : x ≡ pull_in_of p l (last_node points) by since

-- from this arrival to the first node of the depot line once the stay is over
pub record IsRestInFrom (p : Problem) (l : ℕ) (line : List StopNode) (since : StopNode) (x : LayerArc) : Type 0 where
  pub stay : ℕ
  pub by : Way
  pub until : StopNode
  pub stay_is : (layer_of p l).stay ≡ Some stay
  pub way_is : way p since.stop.0 (layer_of p l).depot.0 ≡ Some by
  pub first : IsFirstFrom line (since.minute + by.minutes + stay) until
  pub is : x ≡ rest_in_of p l by since until

-- to this departure from the node of the depot line at which a vehicle leaves for it
pub record IsRestOutTo (p : Problem) (l : ℕ) (points : List Point) (until : StopNode) (x : LayerArc) : Type 0 where
  pub by : Way
  pub since : ℕ
  pub after : IsWayAfterRest p l (event_of until) by
  pub leaves : HasLine points since (until.minute - by.minutes)
  pub is : x ≡ rest_out_of p l by since until

-- the nodes at which such drives begin or end at a trip
abbrev pub trip_nodes : DepotDrive → Nodes → List StopNode
trip_nodes PullOut nodes = nodes.departures.items
trip_nodes PullIn nodes = nodes.arrivals.items
trip_nodes RestIn nodes = nodes.arrivals.items
trip_nodes RestOut nodes = nodes.departures.items

-- the arc is such a drive, and begins or ends at this node
abbrev pub IsDriveAt : DepotDrive → Problem → ℕ → Nodes → StopNode → LayerArc → Type 0
IsDriveAt PullOut p l nodes at = IsPullOutTo p l at
IsDriveAt PullIn p l nodes at = IsPullInFrom p l nodes.points.items at
IsDriveAt RestIn p l nodes at = IsRestInFrom p l nodes.line.items at
IsDriveAt RestOut p l nodes at = IsRestOutTo p l nodes.points.items at

-- the arc is a drive of this kind in the layer's net
abbrev pub IsDrive : DepotDrive → Problem → ℕ → List Point → LayerArc → Type 0
IsDrive PullOut p l points = IsPullOut p l points
IsDrive PullIn p l points = IsPullIn p l points
IsDrive RestIn p l points = IsRestIn p l points
IsDrive RestOut p l points = IsRestOut p l points

-- or of any kind
abbrev pub IsDepotDrive : Problem → ℕ → List Point → LayerArc → Type 0
IsDepotDrive p l points x = (drive : DepotDrive) × IsDrive drive p l points x
