use Rattle.std.proofs.Common.{◌≡◌, ℕ, ◌∙◌, ap, subst, length, length-append, get_or, arith, List, ◌∷◌, [], ◌++◌, Vec, Global}
use Rattle.std.specs.Prelude.{Contains}
use Rattle.std.proofs.lemmas.List.{get_or_default}
use Rattle.std.proofs.lemmas.Option.{MatchOption-at_some, MatchOption-at_none}
use Rattle.vs_match.specs.declared.stop_node.StopNode.{StopNode}
use Rattle.vs_match.specs.declared.arc_kind.LayerArc.{LayerArc}
use Rattle.vs_match.specs.DepotDrives.{IsDriveAt}
use Rattle.vs_match.specs.Adds.{Adds}
use Rattle.vs_match.proofs.events.Adding.{Upto, upto-one, upto-skip}
use Rattle.vs_match.proofs.matches.DepotDrives.{OfTripNode, drives_are, few_trip_nodes, no_stop_node, only_drive}
use Rattle.vs_match.proofs.depot_drives.push_drives_of.Goals as goal
use Rattle.vs_match.proofs.depot_drives.push_drives_of.Goals.{in-Some+in_ok-push, in_default}

pub arc_at-requires-clause-at : goal.arc_at-requires-clause-at
arc_at-requires-clause-at c =
    let at = c.trip_nodes-at-items.result.now in
    let k = c.loop-at.at-index in
    let P : List StopNode → Type 0 = λ xs. Contains xs (get_or at k no_stop_node) in
    subst P c.trip_nodes-at-items.ensures (k, c.loop-at-test.true, get_or_default at k _ _ c.loop-at-test.true)

pub loop-at-preserved : goal.loop-at-preserved
loop-at-preserved c =
    let p = c.args.instance.now in
    let l = c.args.l.0 in
    let drive = c.args.drive in
    let nodes = c.args.nodes.now in
    let list = c.trip_nodes-at-items.result.now in
    let k = c.loop-at.at-index in
    let old = c.args.arcs.now.items in
    let before = c.loop-at.arcs.items in
    let at = get_or list k no_stop_node in
    let From = OfTripNode drive p l nodes list in
    elim c.match-arc_at.branch [
      | in-Some+in_ok-push w ↦
          let x = w.in-Some.arc in
          let of = MatchOption-at_some _ (IsDriveAt drive p l nodes at) x w.in-Some.is c.arc_at.ensures in
          let items : c.match-arc_at.arcs.items ≡ before ++ x ∷ [] =
          ap (λ (v : Vec LayerArc Global). v.items) w.arcs-is ∙ w.in_ok-push.ensures.items in
          record {
            adds = rw items
                (upto-one From k old before x c.loop-at.invariant.adds of
                (λ y of'. only_drive p l nodes c.requires.nodes drive at x y of of'));
            few = rw items (omega (arith, c.loop-at.invariant.few, length-append before (x ∷ [])));
          }
      | in_default w ↦
          let none = MatchOption-at_none _ (IsDriveAt drive p l nodes at) w.in_default.is c.arc_at.ensures in
          let same = ap (λ (v : Vec LayerArc Global). v.items) w.arcs-is in
          record {
            adds = rw same (upto-skip From k old before c.loop-at.invariant.adds none);
            few = rw same (omega (arith, c.loop-at.invariant.few));
          }
    ]

pub returns-clause-adds : goal.returns-clause-adds
returns-clause-adds c =
    let p = c.args.instance.now in
    let l = c.args.l.0 in
    let drive = c.args.drive in
    let nodes = c.args.nodes.now in
    let list = c.trip_nodes-at-items.result.now in
    let all : c.loop-at.at-index ≡ length list =
    omega (arith, c.loop-at.auto.at-index-end, c.loop-at-test.false) in
    let P : ℕ → Type 0 =
    λ n. Adds (Upto (OfTripNode drive p l nodes list) n) c.args.arcs.now.items c.loop-at.arcs.items in
    let Q : List StopNode → Type 0 =
    λ xs. Adds (Upto (OfTripNode drive p l nodes xs) (length xs)) c.args.arcs.now.items c.loop-at.arcs.items in
    drives_are p l nodes c.requires.nodes drive c.args.arcs.now.items c.loop-at.arcs.items
    (subst Q c.trip_nodes-at-items.ensures (subst P all c.loop-at.invariant.adds))

pub returns-clause-few : goal.returns-clause-few
returns-clause-few c =
    let count = ap length c.trip_nodes-at-items.ensures in
    let few = few_trip_nodes c.args.instance.now c.args.l.0 c.args.nodes.now c.requires.nodes c.args.drive in
    omega (arith, c.loop-at.invariant.few, c.loop-at.auto.at-index-end, count, few)
