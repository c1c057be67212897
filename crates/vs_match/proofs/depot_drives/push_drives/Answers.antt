use Rattle.std.proofs.Common.{◌≡◌, ℕ, arith, subst}
use Rattle.vs_match.specs.Adds.{Adds}
use Rattle.vs_match.proofs.events.Adding.{Upto, upto-many}
use Rattle.vs_match.proofs.matches.DepotDrives.{OfKind, all_drives}
use Rattle.vs_match.proofs.depot_drives.push_drives.Goals as goal

pub loop-drive-preserved : goal.loop-drive-preserved
loop-drive-preserved c =
    record {
      adds = upto-many (OfKind c.args.instance.now c.args.l.0 c.args.nodes.now.points.items) c.loop-drive.drive-index
          c.args.arcs.now.items c.loop-drive.arcs.items c.push_drives_of.new.arcs.items c.loop-drive.invariant.adds
          c.in_ok-push_drives_of.ensures.adds;
      few = omega (arith, c.loop-drive.invariant.few, c.in_ok-push_drives_of.ensures.few);
    }

pub returns-clause-adds : goal.returns-clause-adds
returns-clause-adds c =
    let p = c.args.instance.now in
    let points = c.args.nodes.now.points.items in
    let all : c.loop-drive.drive-index ≡ 4 =
    omega (arith, c.loop-drive.auto.drive-index-end, c.loop-drive-test.false) in
    let P : ℕ → Type 0 =
    λ n. Adds (Upto (OfKind p c.args.l.0 points) n) c.args.arcs.now.items c.loop-drive.arcs.items in
    all_drives p c.args.l.0 points c.args.arcs.now.items c.loop-drive.arcs.items
    (subst P all c.loop-drive.invariant.adds)
