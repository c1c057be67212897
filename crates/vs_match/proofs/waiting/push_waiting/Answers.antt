use Rattle.std.proofs.Common.{◌≡◌, ℕ, ◌+◌, ◌-◌, ◌<◌, ◌∙◌, sym, ap, subst, refl, length, length-append, arith, ◌∷◌, [], ◌++◌, Vec, Global}
use Rattle.std.proofs.lemmas.Bool.{eqb-true, false≢true, eq-eqb}
use Rattle.vs_types.specs.declared.numbers.StopNo.{StopNo}
use Rattle.vs_match.specs.declared.stop_node.StopNode.{StopNode}
use Rattle.vs_match.specs.declared.arc_kind.LayerArc.{LayerArc}
use Rattle.vs_match.specs.ArcsOf.{waiting_of}
use Rattle.vs_match.specs.StopNodes.{event_of}
use Rattle.vs_match.proofs.events.Adding.{upto-one, upto-skip, upto-none}
use Rattle.vs_match.proofs.matches.Deadheading.{event_within}
use Rattle.vs_match.proofs.matches.WaitedAt.{AtPlace, same_at}
use Rattle.vs_match.proofs.walks.WaitingChains.{same_stop}
use Rattle.vs_match.proofs.matches.WaitedAt.{OfNeighbours, at_stop_later, only_waiting, waiting_is, waiting_past, none_before_first}
use Rattle.vs_match.proofs.waiting.push_waiting.Goals as goal
use Rattle.vs_match.proofs.waiting.push_waiting.Goals.{then-eq+in_ok-push, else-eq}

pub waiting_arc-requires-clause-in_time : goal.waiting_arc-requires-clause-in_time
waiting_arc-requires-clause-in_time c =
    let stop_nodes = c.args.nodes.now.all.items in
    let since = c.index.result.now in
    let until = c.index-in-loop-k.result.now in
    let within : c.loop-k.k < length stop_nodes = omega (arith, c.loop-k-test.true, c.len-k-end.ensures) in
    let at : AtPlace stop_nodes (c.loop-k.k - 1) since = (omega (arith, within), sym c.index.ensures) in
    let at' : AtPlace stop_nodes c.loop-k.k until = (within, sym c.index-in-loop-k.ensures) in
    let same = same_stop _ _ (eqb-true since.stop.0 until.stop.0 (sym c.eq.ensures ∙ c.if-eq.true)) in
    let later =
    at_stop_later c.args.instance.now c.args.l.0 c.args.nodes.now.points.items c.requires.nodes.points stop_nodes
    c.requires.nodes.all
    (c.loop-k.k - 1) c.loop-k.k since until at at' same (omega (arith, c.loop-k.auto.k)) in
    let event = (c.requires.nodes.all.only until (c.loop-k.k, within, at'.1)).1 in
    (omega (arith, later), event_within c.args.instance.now c.layers.ensures.instance c.args.l.0 (event_of until) event)

pub loop-k-init : goal.loop-k-init
loop-k-init c =
    let old = c.args.arcs.now.items in
    let From = OfNeighbours c.args.instance.now c.args.l.0 c.args.nodes.now.all.items in
    record {
      adds = upto-skip From 0 old old (upto-none From old)
          (none_before_first c.args.instance.now c.args.l.0 c.args.nodes.now.all.items);
      few = omega arith;
      within = omega arith;
    }

pub loop-k-preserved : goal.loop-k-preserved
loop-k-preserved c =
    let p = c.args.instance.now in
    let l = c.args.l.0 in
    let k = c.loop-k.k in
    let all = c.args.nodes.now.all.items in
    let old = c.args.arcs.now.items in
    let before = c.loop-k.arcs.items in
    let From = OfNeighbours p l all in
    let since = c.index.result.now in
    let until = c.index-in-loop-k.result.now in
    let first : k ≡ (k - 1) + 1 = omega (arith, c.loop-k.auto.k) in
    let within : k < length all = omega (arith, c.loop-k-test.true, c.len-k-end.ensures) in
    let at : AtPlace all (k - 1) since = (omega (arith, within), sym c.index.ensures) in
    let at' : AtPlace all k until = (within, sym c.index-in-loop-k.ensures) in
    elim c.if-eq.branch [
      | then-eq+in_ok-push w ↦
          let same = same_stop _ _ (eqb-true since.stop.0 until.stop.0 (sym c.eq.ensures ∙ w.if-eq.true)) in
          let x = waiting_of p l since until in
          let items : c.if-eq.arcs.items ≡ before ++ x ∷ [] =
          ap (λ (v : Vec LayerArc Global). v.items) w.arcs-is ∙ w.in_ok-push.ensures.items
          ∙ ap (λ (y : LayerArc). before ++ y ∷ []) w.waiting_arc.ensures in
          let of : From k x = record {
            since = since;
            until = until;
            first = k - 1;
            follows = first;
            at = at;
            at_next = at';
            same = same;
            is = refl;
          } in
          record {
            adds = rw items
                (upto-one From k old before x c.loop-k.invariant.adds of (λ y of'. only_waiting p l all k x y of of'));
            few = rw items (omega (arith, c.loop-k.invariant.few, length-append before (x ∷ [])));
            within = omega (arith, within);
          }
      | else-eq w ↦
          let same = ap (λ (v : Vec LayerArc Global). v.items) w.arcs-is in
          record {
            adds = rw same (upto-skip From k old before c.loop-k.invariant.adds
                (λ x of.
                let P : ℕ → Type 0 = λ n. AtPlace all n of.since in
                let firsts : of.first ≡ k - 1 = omega (arith, of.follows) in
                let one = same_at all (k - 1) since of.since at (subst P firsts of.at) in
                let two = same_at all k until of.until at' of.at_next in
                let stops =
                ap (λ (s : StopNode). s.stop.0) one ∙ ap (λ (s : StopNo). s.0) of.same
                ∙ sym (ap (λ (s : StopNode). s.stop.0) two) in
                false≢true (sym w.if-eq.false ∙ c.eq.ensures ∙ eq-eqb since.stop.0 until.stop.0 stops)));
            few = rw same (omega (arith, c.loop-k.invariant.few));
            within = omega (arith, within);
          }
    ]

pub returns-clause-adds : goal.returns-clause-adds
returns-clause-adds c =
    let p = c.args.instance.now in
    let nodes = c.requires.nodes in
    let old = c.args.arcs.now.items in
    waiting_is p c.args.l.0 c.args.nodes.now.points.items nodes.points c.args.nodes.now.all.items nodes.all old
    c.loop-k.arcs.items
    (waiting_past p c.args.l.0 c.args.nodes.now.all.items c.loop-k.k old c.loop-k.arcs.items
    (omega (arith, c.loop-k-test.false, c.len-k-end.ensures))
    c.loop-k.invariant.adds)

pub returns-clause-few : goal.returns-clause-few
returns-clause-few c = omega (arith, c.loop-k.invariant.few, c.loop-k.invariant.within, c.requires.nodes.few_all)
