use Rattle.std.proofs.Common.{◌-◌, List, refl, subst, sym}
use Rattle.std.specs.Prelude.{Contains, AllPairs}
use Rattle.vs_instance.specs.Ways.{layer_of}
use Rattle.vs_instance.proofs.CallerLemmas.{way-within}
use Rattle.vs_match.specs.declared.event.Point.{Point}
use Rattle.vs_match.specs.Events.{IsBefore, line_point}
use Rattle.vs_match.specs.StopNodes.{event_of}
use Rattle.vs_match.proofs.matches.Deadheading.{departs_within}
use Rattle.vs_match.proofs.rests.rest_out.Goals as goal

pub way_after_rest-requires-clause-stop : goal.way_after_rest-requires-clause-stop
way_after_rest-requires-clause-stop c =
    (departs_within c.args.instance.now c.layers.ensures.instance c.args.l.0 (event_of c.args.until.now)
    c.requires.departs).1

pub returns-in_err-way : goal.returns-in_err-way
returns-in_err-way c = rw c.from_residual.ensures (λ x of. c.in_err-way.ensures of.by of.after)

pub node_of-since-requires-clause-ordered : goal.node_of-since-requires-clause-ordered
node_of-since-requires-clause-ordered c =
    let P : List Point → Type 0 = λ xs. AllPairs IsBefore xs in
    subst P (sym c.deref.ensures.value) c.requires.nodes.points.ordered

pub node_of-since-requires-clause-known : goal.node_of-since-requires-clause-known
node_of-since-requires-clause-known c =
    let until = c.args.until.now in
    let x = line_point (until.minute - c.in_ok-way.way.minutes) in
    let P : List Point → Type 0 = λ xs. Contains xs x in
    subst P (sym c.deref.ensures.value)
    (c.requires.nodes.points.every x
    (event_of until, c.requires.departs, (c.in_ok-way.way, c.in_ok-way.ensures, refl)))

pub rest_out_arc-requires-clause-way : goal.rest_out_arc-requires-clause-way
rest_out_arc-requires-clause-way c =
    let p = c.args.instance.now in
    let limits =
    way-within p c.layers.ensures.instance (layer_of p c.args.l.0).depot.0 c.args.until.now.stop.0 c.in_ok-way.way
    c.in_ok-way.ensures.way_is in
    (limits.minutes, limits.metres)
