use Rattle.std.proofs.Common.{◌≡◌, ℕ, subst, arith}
use Rattle.vs_match.specs.Adds.{Adds}
use Rattle.vs_match.specs.Parts.{IsDeadheadFrom}
use Rattle.vs_match.proofs.events.Adding.{Upto, upto-many}
use Rattle.vs_match.proofs.matches.Deadheading.{all_deadheads}
use Rattle.vs_match.proofs.deadheads.push_deadheads.Goals as goal

pub loop-stop-preserved : goal.loop-stop-preserved
loop-stop-preserved c = record {
  adds = upto-many
      (IsDeadheadFrom c.args.instance.now c.args.l.0 c.args.matching c.args.nodes.now.points.items) c.loop-stop.stop
      c.args.arcs.now.items
      c.loop-stop.arcs.items _ c.loop-stop.invariant.adds c.in_ok-push_from.ensures.adds;
  few = omega (arith, c.loop-stop.invariant.few, c.in_ok-push_from.ensures.few);
}

pub returns-clause-adds : goal.returns-clause-adds
returns-clause-adds c =
    let p = c.args.instance.now in
    let all : c.loop-stop.stop ≡ p.stops =
    omega (arith, c.loop-stop.auto.stop-end, c.loop-stop-test.false, c.stops-stop-end.ensures.count) in
    let From = IsDeadheadFrom p c.args.l.0 c.args.matching c.args.nodes.now.points.items in
    let P : ℕ → Type 0 = λ n. Adds (Upto From n) c.args.arcs.now.items c.loop-stop.arcs.items in
    all_deadheads p c.args.l.0 c.args.nodes.now c.requires.nodes c.stops-stop-end.ensures.instance c.args.matching
    c.args.arcs.now.items c.loop-stop.arcs.items
    (subst P all c.loop-stop.invariant.adds)
