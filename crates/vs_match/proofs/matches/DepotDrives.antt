-- The drives between a layer's depot and its trips, by the nodes of departures and of arrivals.
use Rattle.std.proofs.Common.{◌≡◌, ℕ, ◌-◌, ◌<◌, ◌≤◌, List, length, get_or, sym, ap, ◌∙◌, subst, refl, arith}
use Rattle.std.specs.Prelude.{Contains}
use Rattle.std.proofs.lemmas.List.{get_or_default}
use Rattle.vs_instance.specs.declared.limits.TheConstants.{MAX_TRIPS, TWO_DAYS}
use Rattle.vs_instance.specs.declared.way.Way.{Way}
use Rattle.vs_instance.specs.Problem.{Problem}
use Rattle.vs_instance.specs.Instance.{IsInstance}
use Rattle.vs_match.specs.declared.event.Point.{Point}
use Rattle.vs_match.specs.declared.arc_kind.LayerArc.{LayerArc}
use Rattle.vs_match.specs.declared.depot_drives.DepotDrive.{DepotDrive}
use Rattle.vs_match.specs.declared.depot_drives.DepotDrive.TheVariants.{PullOut, PullIn, RestIn, RestOut}
use Rattle.vs_match.specs.declared.depot_drives.TheConstants.{DRIVES}
use Rattle.vs_match.specs.declared.nodes.Nodes.{Nodes}
use Rattle.vs_match.specs.declared.stop_node.StopNode.{StopNode}
use Rattle.vs_match.specs.Events.{HasPlace, HasLine, last_node}
use Rattle.vs_match.specs.ArcsOf.{pull_out_of, pull_in_of}
use Rattle.vs_match.specs.StopNodes.{event_of}
use Rattle.vs_match.specs.Adds.{Adds}
use Rattle.vs_match.specs.Nodes.{AreNodes}
use Rattle.vs_match.specs.DepotDrives.{IsDrive, IsDriveAt, IsDepotDrive, trip_nodes}
use Rattle.vs_match.proofs.events.Adding.{Upto, adds-as}
use Rattle.vs_match.proofs.matches.Deadheading.{arrives_within, departs_within}
use Rattle.vs_match.proofs.matches.RestedAt.{only_rest_in, only_rest_out, to_rest_in, from_rest_in}
use Rattle.vs_match.proofs.walks.ClosedWays.{some-same}

-- what a node past the end would be
abbrev pub no_stop_node : StopNode
no_stop_node = record { stop = record { 0 = 0 }; minute = 0; node = 0 }

-- the drives of a kind to or from node k
abbrev pub OfTripNode : DepotDrive → Problem → ℕ → Nodes → List StopNode → ℕ → LayerArc → Type 0
OfTripNode drive p l nodes at k = IsDriveAt drive p l nodes (get_or at k no_stop_node)

-- the drives of kind k
abbrev pub OfKind : Problem → ℕ → List Point → ℕ → LayerArc → Type 0
OfKind p l points k = IsDrive (get_or DRIVES k PullOut) p l points

module _ (p : Problem) (l : ℕ) (nodes : Nodes) (are : AreNodes p l nodes) where
  abbrev points : List Point
  points = nodes.points.items

  -- where and when they begin or end
  pub trip_node_within : IsInstance p → (drive : DepotDrive) (at : StopNode) → Contains (trip_nodes drive nodes) at
      → (at.minute < TWO_DAYS) × (at.stop.0 < p.stops)
  trip_node_within is PullOut at has = departs_within p is l (event_of at) (are.departures.only at has).1
  trip_node_within is PullIn at has = arrives_within p is l (event_of at) (are.arrivals.only at has).1
  trip_node_within is RestIn at has = arrives_within p is l (event_of at) (are.arrivals.only at has).1
  trip_node_within is RestOut at has = departs_within p is l (event_of at) (are.departures.only at has).1

  pub few_trip_nodes : (drive : DepotDrive) → length (trip_nodes drive nodes) ≤ MAX_TRIPS
  few_trip_nodes PullOut = are.few_departures
  few_trip_nodes PullIn = are.few_arrivals
  few_trip_nodes RestIn = are.few_arrivals
  few_trip_nodes RestOut = are.few_departures

  -- there is one of each kind at a node
  pub only_drive : (drive : DepotDrive) (at : StopNode) (x y : LayerArc) → IsDriveAt drive p l nodes at x
      → IsDriveAt drive p l nodes at y → x ≡ y
  only_drive PullOut at x y of of' =
      let by = some-same of.by of'.by (sym of.way_is ∙ of'.way_is) in
      of.is ∙ ap (λ (w : Way). pull_out_of p l w at) by ∙ sym of'.is
  only_drive PullIn at x y of of' =
      let by = some-same of.by of'.by (sym of.way_is ∙ of'.way_is) in
      of.is ∙ ap (λ (w : Way). pull_in_of p l (last_node points) w at) by ∙ sym of'.is
  only_drive RestIn at x y of of' = only_rest_in p l nodes.line.items are.line.rising at x y of of'
  only_drive RestOut at x y of of' = only_rest_out p l points are.points.ordered at x y of of'

  to_drive : (drive : DepotDrive) (at : StopNode) → Contains (trip_nodes drive nodes) at → (x : LayerArc)
      → IsDriveAt drive p l nodes at x → IsDrive drive p l points x
  to_drive PullOut at has x of =
      let here = are.departures.only at has in
      let P : ℕ → Type 0 = λ v. HasPlace points v (event_of at) in (
        ap (λ (y : LayerArc). y.kind) of.is,
        record {
          until = event_of at;
          by = of.by;
          from = ap (λ (y : LayerArc). y.from) of.is;
          to = subst P (sym (ap (λ (y : LayerArc). y.to) of.is)) here.0;
          departs = here.1;
          way_is = of.way_is;
          in_time = of.in_time;
          cost = ap (λ (y : LayerArc). y.cost) of.is;
          room = ap (λ (y : LayerArc). y.room) of.is;
        },
      )
  to_drive PullIn at has x of =
      let here = are.arrivals.only at has in
      let P : ℕ → Type 0 = λ v. HasPlace points v (event_of at) in (
        ap (λ (y : LayerArc). y.kind) of.is,
        record {
          since = event_of at;
          by = of.by;
          from = subst P (sym (ap (λ (y : LayerArc). y.from) of.is)) here.0;
          to = ap (λ (y : LayerArc). y.to) of.is;
          arrives = here.1;
          way_is = of.way_is;
          cost = ap (λ (y : LayerArc). y.cost) of.is;
          room = ap (λ (y : LayerArc). y.room) of.is;
        },
      )
  to_drive RestIn at has x of =
      to_rest_in p l points are.points nodes.line.items are.line at (are.arrivals.only at has) x of
  to_drive RestOut at has x of =
      let here = are.departures.only at has in
      let P : ℕ → Type 0 = λ v. HasPlace points v (event_of at) in
      let Q : ℕ → Type 0 = λ v. HasLine points v (at.minute - of.by.minutes) in (
        ap (λ (y : LayerArc). y.kind) of.is,
        record {
          until = event_of at;
          by = of.by;
          from = subst Q (sym (ap (λ (y : LayerArc). y.from) of.is)) of.leaves;
          to = subst P (sym (ap (λ (y : LayerArc). y.to) of.is)) here.0;
          departs = here.1;
          after = of.after;
          cost = ap (λ (y : LayerArc). y.cost) of.is;
          room = ap (λ (y : LayerArc). y.room) of.is;
        },
      )

  from_drive : (drive : DepotDrive) (x : LayerArc) → IsDrive drive p l points x
      → (at : StopNode) × Contains (trip_nodes drive nodes) at × IsDriveAt drive p l nodes at x
  from_drive PullOut x (kind, arc) =
      let at : StopNode = record { stop = arc.until.stop; minute = arc.until.minute; node = x.to } in (
        at,
        are.departures.every at arc.to arc.departs,
        record {
          by = arc.by;
          way_is = arc.way_is;
          in_time = arc.in_time;
          is = λ i. record { from = arc.from i; to = x.to; kind = kind i; cost = arc.cost i; room = arc.room i };
        },
      )
  from_drive PullIn x (kind, arc) =
      let at : StopNode = record { stop = arc.since.stop; minute = arc.since.minute; node = x.from } in (
        at,
        are.arrivals.every at arc.from arc.arrives,
        record {
          by = arc.by;
          way_is = arc.way_is;
          is = λ i. record { from = x.from; to = arc.to i; kind = kind i; cost = arc.cost i; room = arc.room i };
        },
      )
  from_drive RestIn x (kind, arc) =
      let at : StopNode = record { stop = arc.since.stop; minute = arc.since.minute; node = x.from } in (
        at,
        are.arrivals.every at arc.from arc.arrives,
        from_rest_in p l points are.points nodes.line.items are.line x (kind, arc),
      )
  from_drive RestOut x (kind, arc) =
      let at : StopNode = record { stop = arc.until.stop; minute = arc.until.minute; node = x.to } in (
        at,
        are.departures.every at arc.to arc.departs,
        record {
          by = arc.by;
          since = x.from;
          after = arc.after;
          leaves = arc.from;
          is = λ i. record { from = x.from; to = x.to; kind = kind i; cost = arc.cost i; room = arc.room i };
        },
      )

  pub drives_are : (drive : DepotDrive) (old new : List LayerArc)
      → Adds (Upto (OfTripNode drive p l nodes (trip_nodes drive nodes)) (length (trip_nodes drive nodes))) old new
      → Adds (IsDrive drive p l points) old new
  drives_are drive old new adds =
      let list = trip_nodes drive nodes in
      adds-as (Upto (OfTripNode drive p l nodes list) (length list)) (IsDrive drive p l points) old new adds
      (λ x (k, within, of).
      to_drive drive (get_or list k no_stop_node) (k, within, get_or_default list k _ _ within) x of)
      (λ x is.
      let (at, (k, within, same), of) = from_drive drive x is in
      let P : StopNode → Type 0 = λ s. IsDriveAt drive p l nodes s x in
      (k, within, subst P (sym same ∙ get_or_default list k _ _ within) of))

-- each kind comes once
kind_no : (drive : DepotDrive) → (k : ℕ) × (k < 4) × (get_or DRIVES k PullOut ≡ drive)
kind_no PullOut = (0, omega arith, refl)
kind_no PullIn = (1, omega arith, refl)
kind_no RestIn = (2, omega arith, refl)
kind_no RestOut = (3, omega arith, refl)

pub all_drives : (p : Problem) (l : ℕ) (points : List Point) (old new : List LayerArc)
    → Adds (Upto (OfKind p l points) 4) old new → Adds (IsDepotDrive p l points) old new
all_drives p l points old new adds =
    adds-as (Upto (OfKind p l points) 4) (IsDepotDrive p l points) old new adds
    (λ x (k, within, of). (get_or DRIVES k PullOut, of))
    (λ x (drive, of).
    let (k, within, same) = kind_no drive in
    let P : DepotDrive → Type 0 = λ d. IsDrive d p l points x in
    (k, within, subst P (sym same) of))
