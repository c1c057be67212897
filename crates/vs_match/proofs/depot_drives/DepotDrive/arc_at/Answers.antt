use Rattle.std.proofs.Common.{ℕ, List, Option, sym, subst}
use Rattle.std.specs.Prelude.{Contains, MatchOption}
use Rattle.vs_instance.specs.Problem.{Problem}
use Rattle.vs_match.specs.declared.arc_kind.LayerArc.{LayerArc}
use Rattle.vs_match.specs.declared.depot_drives.DepotDrive.{DepotDrive}
use Rattle.vs_match.specs.declared.nodes.Nodes.{Nodes}
use Rattle.vs_match.specs.declared.stop_node.StopNode.{StopNode}
use Rattle.vs_match.specs.DepotDrives.{IsDriveAt, IsRestInFrom, trip_nodes}
use Rattle.vs_match.proofs.matches.DepotDrives.{trip_node_within}
use Rattle.vs_match.proofs.depot_drives.DepotDrive.arc_at.Goals as goal

-- the drive of a kind at a node, where there is one
abbrev IsFound : Problem → ℕ → Nodes → StopNode → Option LayerArc → DepotDrive → Type 0
IsFound p l nodes at found drive =
    MatchOption found ((x : LayerArc) → ¬ (IsDriveAt drive p l nodes at x)) (IsDriveAt drive p l nodes at)

pub pull_out-requires-clause-stop : goal.pull_out-requires-clause-stop
pull_out-requires-clause-stop c =
    (trip_node_within c.args.instance.now c.args.l.0 c.args.nodes.now c.requires.nodes c.layers.ensures.instance
    c.args.self c.args.at.now c.requires.at).1

pub pull_in-requires-clause-stop : goal.pull_in-requires-clause-stop
pull_in-requires-clause-stop c =
    (trip_node_within c.args.instance.now c.args.l.0 c.args.nodes.now c.requires.nodes c.layers.ensures.instance
    c.args.self c.args.at.now c.requires.at).1

pub rest_in-requires-clause-stop : goal.rest_in-requires-clause-stop
rest_in-requires-clause-stop c =
    (trip_node_within c.args.instance.now c.args.l.0 c.args.nodes.now c.requires.nodes c.layers.ensures.instance
    c.args.self c.args.at.now c.requires.at).1

pub rest_in-requires-clause-minute : goal.rest_in-requires-clause-minute
rest_in-requires-clause-minute c =
    (trip_node_within c.args.instance.now c.args.l.0 c.args.nodes.now c.requires.nodes c.layers.ensures.instance
    c.args.self c.args.at.now c.requires.at).0

pub rest_out-requires-clause-departs : goal.rest_out-requires-clause-departs
rest_out-requires-clause-departs c =
    let at = c.args.at.now in
    let P : DepotDrive → Type 0 = λ drive. Contains (trip_nodes drive c.args.nodes.now) at in
    (c.requires.nodes.departures.only at (subst P c.in-RestOut.is c.requires.at)).1

pub returns-in-PullOut : goal.returns-in-PullOut
returns-in-PullOut c =
    subst (IsFound c.args.instance.now c.args.l.0 c.args.nodes.now c.args.at.now c.pull_out.result)
    (sym c.in-PullOut.is) c.pull_out.ensures

pub returns-in-PullIn : goal.returns-in-PullIn
returns-in-PullIn c =
    subst (IsFound c.args.instance.now c.args.l.0 c.args.nodes.now c.args.at.now c.pull_in.result)
    (sym c.in-PullIn.is) c.pull_in.ensures

pub returns-in-RestIn : goal.returns-in-RestIn
returns-in-RestIn c =
    let p = c.args.instance.now in
    let l = c.args.l.0 in
    let at = c.args.at.now in
    let P : List StopNode → Type 0 =
    λ line. MatchOption c.rest_in.result ((x : LayerArc) → ¬ (IsRestInFrom p l line at x)) (IsRestInFrom p l line at) in
    subst (IsFound p l c.args.nodes.now at c.rest_in.result) (sym c.in-RestIn.is)
    (subst P c.deref.ensures.value c.rest_in.ensures)

pub returns-in-RestOut : goal.returns-in-RestOut
returns-in-RestOut c =
    subst (IsFound c.args.instance.now c.args.l.0 c.args.nodes.now c.args.at.now c.rest_out.result)
    (sym c.in-RestOut.is) c.rest_out.ensures
