use Rattle.std.proofs.Common.{◌≡◌, ℕ, ◌<◌, ◌∙◌, sym, ap, subst, arith, List, [], length, get_or, Bor, Vec, Global}
use Rattle.std.proofs.lemmas.Bool.{eqb-true, eqb-false, not-true, not-false}
use Rattle.std.proofs.lemmas.Option.{none-some}
use Rattle.vs_match.specs.declared.stop_node.StopNode.{StopNode}
use Rattle.vs_match.specs.declared.arc_kind.LayerArc.{LayerArc}
use Rattle.vs_match.specs.Adds.{Adds}
use Rattle.vs_match.specs.Parts.{IsDeadheadFrom, IsDeadheadTo}
use Rattle.vs_match.proofs.events.ByStop.{at_this_stop}
use Rattle.vs_match.proofs.events.Adding.{Upto, adds-none, upto-many, upto-skip}
use Rattle.vs_match.proofs.matches.Deadheading.{AreAt, matches_are, none_from, none_itself, none_without, from_all, arrivals_within, departures_within}
use Rattle.vs_match.proofs.deadheads.push_from.Goals as goal
use Rattle.vs_match.proofs.deadheads.push_from.Goals.{then-ne+in-Some+in_ok-push_matches, then-ne+in_default, else-ne}

-- what is found past the last stop
abbrev nowhere : Bor (List StopNode)
nowhere = record { ref_ptr = (0, 0); now = [] }

pub returns-then-is_empty-clause-adds : goal.returns-then-is_empty-clause-adds
returns-then-is_empty-clause-adds c =
    let p = c.args.instance.now in
    let from : AreAt c.args.from c.args.nodes.now.arrivals.items c.at_stop-arrivals.result.now =
    rw (← c.deref.ensures.value) c.at_stop-arrivals.ensures.same in
    let none = eqb-true _ 0 (sym c.is_empty.ensures ∙ c.if-is_empty.true) in
    adds-none
    (IsDeadheadFrom p c.args.by.l.0 c.args.by.matching c.args.nodes.now.points.items c.args.from.0)
    c.args.arcs.now.items
    (none_from p c.args.by.l.0 c.args.nodes.now c.requires.nodes c.args.by.matching c.args.from
    c.at_stop-arrivals.result.now from none)

pub push_matches-requires-clause-arrivals : goal.push_matches-requires-clause-arrivals
push_matches-requires-clause-arrivals c =
    let from : AreAt c.args.from c.args.nodes.now.arrivals.items c.at_stop-arrivals.result.now =
    rw (← c.deref.ensures.value) c.at_stop-arrivals.ensures.same in (
      c.at_stop-arrivals.ensures.rising,
      arrivals_within c.args.instance.now c.args.by.l.0 c.args.nodes.now c.requires.nodes
          c.stops-to-end.ensures.instance c.args.from c.at_stop-arrivals.result.now from,
    )

pub push_matches-requires-clause-departures : goal.push_matches-requires-clause-departures
push_matches-requires-clause-departures c =
    let stops = c.args.instance.now.stops in
    let within : c.loop-to.to < stops = omega (arith, c.loop-to-test.true, c.stops-to-end.ensures.count) in
    let there =
    at_this_stop stops c.args.nodes.now.departures.items c.args.departures.now c.requires.departures c.loop-to.to
    within in (
      there.1,
      departures_within c.args.instance.now c.args.by.l.0 c.args.nodes.now c.requires.nodes
          c.stops-to-end.ensures.instance (record { 0 = c.loop-to.to })
          (get_or c.args.departures.now c.loop-to.to nowhere).now there.0,
    )

pub loop-to-preserved : goal.loop-to-preserved
loop-to-preserved c =
    let p = c.args.instance.now in
    let l = c.args.by.l.0 in
    let nodes = c.args.nodes.now in
    let are = c.requires.nodes in
    let k = c.args.from.0 in
    let s = c.loop-to.to in
    let old = c.args.arcs.now.items in
    let before = c.loop-to.arcs.items in
    let To = IsDeadheadTo p l c.args.by.matching nodes.points.items k in
    let from : AreAt c.args.from nodes.arrivals.items c.at_stop-arrivals.result.now =
    rw (← c.deref.ensures.value) c.at_stop-arrivals.ensures.same in
    elim c.if-ne.branch [
      | then-ne+in-Some+in_ok-push_matches b ↦
          let within : s < p.stops = omega (arith, c.loop-to-test.true, c.stops-to-end.ensures.count) in
          let there = at_this_stop p.stops nodes.departures.items c.args.departures.now c.requires.departures
          s within in
          let apart = eqb-false k s (not-true _ (sym c.ne.ensures ∙ b.if-ne.true)) in
          let arcs = ap (λ (v : Vec LayerArc Global). v.items) b.arcs-is in
          let few = c.at_stop-arrivals.ensures.few in
          let all = ap length c.deref.ensures.value in
          record {
            adds = rw arcs (upto-many To s old before _ c.loop-to.invariant.adds
                (matches_are p l nodes are c.args.by.matching b.in-Some.way c.args.from (record { 0 = s }) apart
                (sym b.in-Some.ensures)
                c.at_stop-arrivals.result.now (get_or c.args.departures.now s nowhere).now from there.0 before _
                b.in_ok-push_matches.ensures.adds));
            few = rw arcs
                (omega (arith, c.loop-to.invariant.few, b.in_ok-push_matches.ensures.few, few, all, are.few_arrivals));
          }
      | then-ne+in_default b ↦
          let same = ap (λ (v : Vec LayerArc Global). v.items) b.arcs-is in
          record {
            adds = rw same (upto-skip To s old before c.loop-to.invariant.adds
                (none_without p l nodes are c.args.by.matching k s
                (λ w is. none-some w (sym b.in_default.is ∙ b.way.ensures ∙ is))));
            few = rw same (omega (arith, c.loop-to.invariant.few));
          }
      | else-ne b ↦
          let same = ap (λ (v : Vec LayerArc Global). v.items) b.arcs-is in
          let itself = eqb-true k s (not-false _ (sym c.ne.ensures ∙ b.if-ne.false)) in
          record {
            adds = rw same
                (upto-skip To s old before c.loop-to.invariant.adds
                (none_itself p l nodes are c.args.by.matching k s itself));
            few = rw same (omega (arith, c.loop-to.invariant.few));
          }
    ]

pub returns-clause-adds : goal.returns-clause-adds
returns-clause-adds c =
    let p = c.args.instance.now in
    let all : c.loop-to.to ≡ p.stops =
    omega (arith, c.loop-to.auto.to-end, c.loop-to-test.false, c.stops-to-end.ensures.count) in
    let P : ℕ → Type 0 =
    λ n. Adds
    (Upto (IsDeadheadTo p c.args.by.l.0 c.args.by.matching c.args.nodes.now.points.items c.args.from.0) n)
    c.args.arcs.now.items c.loop-to.arcs.items in
    from_all p c.args.by.l.0 c.args.nodes.now c.requires.nodes c.stops-to-end.ensures.instance c.args.by.matching
    c.args.from.0 c.args.arcs.now.items c.loop-to.arcs.items
    (subst P all c.loop-to.invariant.adds)
