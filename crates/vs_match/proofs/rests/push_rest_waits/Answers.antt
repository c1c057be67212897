use Rattle.std.proofs.Common.{◌≡◌, ◌-◌, ◌<◌, ◌∙◌, sym, ap, refl, length, length-append, arith, ◌∷◌, [], ◌++◌}
use Rattle.vs_match.specs.declared.arc_kind.LayerArc.{LayerArc}
use Rattle.vs_match.specs.ArcsOf.{rest_wait_of}
use Rattle.vs_match.proofs.events.Adding.{upto-one, upto-skip, upto-none}
use Rattle.vs_match.proofs.matches.WaitedAt.{AtPlace}
use Rattle.vs_match.proofs.matches.RestedAt.{OfRestWait, only_wait_at, rest_waits_are, rests_past, no_rest_before}
use Rattle.vs_match.proofs.rests.push_rest_waits.Goals as goal

pub loop-k-init : goal.loop-k-init
loop-k-init c =
    let old = c.args.arcs.now.items in
    let line = c.args.nodes.now.line.items in
    let From = OfRestWait c.args.instance.now c.args.l.0 line in
    record {
      adds = upto-skip From 0 old old (upto-none From old) (no_rest_before c.args.instance.now c.args.l.0 line);
      few = omega arith;
      within = omega arith;
    }

pub loop-k-preserved : goal.loop-k-preserved
loop-k-preserved c =
    let p = c.args.instance.now in
    let l = c.args.l.0 in
    let k = c.loop-k.k in
    let line = c.args.nodes.now.line.items in
    let old = c.args.arcs.now.items in
    let before = c.loop-k.arcs.items in
    let From = OfRestWait p l line in
    let since = c.index.result.now in
    let until = c.index-in-loop-k.result.now in
    let within : k < length line = omega (arith, c.loop-k-test.true, c.len-k-end.ensures) in
    let at : AtPlace line (k - 1) since = (omega (arith, within), sym c.index.ensures) in
    let at' : AtPlace line k until = (within, sym c.index-in-loop-k.ensures) in
    let x = rest_wait_of p l since until in
    let items : c.push.new.self.items ≡ before ++ x ∷ [] =
    c.in_ok-push.ensures.items ∙ ap (λ (y : LayerArc). before ++ y ∷ []) c.rest_wait_arc.ensures in
    let of : From k x = record {
      since = since;
      until = until;
      first = k - 1;
      follows = omega (arith, c.loop-k.auto.k);
      at = at;
      at_next = at';
      is = refl;
    } in
    record {
      adds = rw items
          (upto-one From k old before x c.loop-k.invariant.adds of (λ y of'. only_wait_at p l line k x y of of'));
      few = rw items (omega (arith, c.loop-k.invariant.few, length-append before (x ∷ [])));
      within = omega (arith, within);
    }

pub returns-clause-adds : goal.returns-clause-adds
returns-clause-adds c =
    let p = c.args.instance.now in
    let l = c.args.l.0 in
    let nodes = c.requires.nodes in
    let line = c.args.nodes.now.line.items in
    let old = c.args.arcs.now.items in
    rest_waits_are p l c.args.nodes.now.points.items nodes.points line nodes.line old c.loop-k.arcs.items
    (rests_past p l line c.loop-k.k old c.loop-k.arcs.items (omega (arith, c.loop-k-test.false, c.len-k-end.ensures))
    c.loop-k.invariant.adds)

pub returns-clause-few : goal.returns-clause-few
returns-clause-few c = omega (arith, c.loop-k.invariant.few, c.loop-k.invariant.within, c.requires.nodes.few_line)
