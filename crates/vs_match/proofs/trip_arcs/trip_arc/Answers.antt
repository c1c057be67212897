use Rattle.std.proofs.Common.{List, sym, subst}
use Rattle.std.specs.Prelude.{Contains, AllPairs}
use Rattle.vs_match.specs.declared.event.Event.{Event}
use Rattle.vs_match.specs.declared.event.Point.{Point}
use Rattle.vs_match.specs.declared.event.TripEnd.TheVariants.{Departure, Arrival}
use Rattle.vs_match.specs.Events.{IsBefore, point_of}
use Rattle.vs_match.proofs.events.StopNodeLists.{event_known}
use Rattle.vs_match.proofs.trip_arcs.trip_arc.Goals as goal

pub node_of-from-requires-clause-ordered : goal.node_of-from-requires-clause-ordered
node_of-from-requires-clause-ordered c =
    let P : List Point → Type 0 = λ xs. AllPairs IsBefore xs in
    subst P (sym c.deref-points.ensures.value) c.requires.nodes.points.ordered

pub node_of-from-requires-clause-known : goal.node_of-from-requires-clause-known
node_of-from-requires-clause-known c =
    let p = c.args.instance.now in
    let known =
    event_known Departure p c.args.l.0 c.args.i.0 c.args.nodes.now.points.items c.requires.nodes.points
    c.requires.may_run in
    let P : List Point → Type 0 = λ xs. Contains xs c.point-start.result in
    let Q : Point → Type 0 = λ x. Contains c.args.nodes.now.points.items x in
    let R : Event → Type 0 = λ e. Contains c.args.nodes.now.points.items (point_of e) in
    subst P (sym c.deref-points.ensures.value)
    (subst Q (sym c.point-start.ensures) (subst R (sym c.event-departure.ensures) known))

pub node_of-to-requires-clause-ordered : goal.node_of-to-requires-clause-ordered
node_of-to-requires-clause-ordered c =
    let P : List Point → Type 0 = λ xs. AllPairs IsBefore xs in
    subst P (sym c.deref-points.ensures.value) c.requires.nodes.points.ordered

pub node_of-to-requires-clause-known : goal.node_of-to-requires-clause-known
node_of-to-requires-clause-known c =
    let p = c.args.instance.now in
    let known =
    event_known Arrival p c.args.l.0 c.args.i.0 c.args.nodes.now.points.items c.requires.nodes.points
    c.requires.may_run in
    let P : List Point → Type 0 = λ xs. Contains xs c.point-end.result in
    let Q : Point → Type 0 = λ x. Contains c.args.nodes.now.points.items x in
    let R : Event → Type 0 = λ e. Contains c.args.nodes.now.points.items (point_of e) in
    subst P (sym c.deref-points.ensures.value)
    (subst Q (sym c.point-end.ensures) (subst R (sym c.event-arrival.ensures) known))
