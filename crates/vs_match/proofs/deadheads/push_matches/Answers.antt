use Rattle.std.proofs.Common.{◌≡◌, ℕ, ◌++◌, ◌∷◌, [], length, length-append, get_or, sym, ap, ◌∙◌, subst, arith, Vec, Global}
use Rattle.std.proofs.lemmas.Bool.{false≢true}
use Rattle.vs_match.specs.declared.stop_node.StopNode.{StopNode}
use Rattle.vs_match.specs.declared.arc_kind.LayerArc.{LayerArc}
use Rattle.vs_match.specs.ArcsOf.{deadhead_of}
use Rattle.vs_match.specs.Adds.{Adds}
use Rattle.vs_match.proofs.events.Adding.{Upto, upto-none, upto-one, upto-skip}
use Rattle.vs_match.proofs.matches.Sweeping.{OfArrival, are_matches, first_departure, early_take, early_more, of_arrival, only_arrival, kept_of, none_of_arrival}
use Rattle.vs_match.proofs.deadheads.push_matches.Goals as goal
use Rattle.vs_match.proofs.deadheads.push_matches.Goals.{then-first-departures+then-is_kept+in_ok-push, then-first-departures+else-is_kept, else-first-departures}

abbrev no_stop_node : StopNode
no_stop_node = record { stop = record { 0 = 0 }; minute = 0; node = 0 }

pub loop-k-init : goal.loop-k-init
loop-k-init c = record {
  adds = upto-none
      (OfArrival c.args.instance.now c.args.by.l.0 c.args.by.matching c.args.way c.args.arrivals.now
      c.args.departures.now) c.args.arcs.now.items;
  few = omega arith;
  within = omega arith;
  early = λ j m d none. absurd (omega arith);
}

pub first_from-first-requires-clause-earlier : goal.first_from-first-requires-clause-earlier
first_from-first-requires-clause-earlier c =
    early_take c.args.instance.now c.args.by.l.0 c.args.by.matching c.args.way c.args.arrivals.now c.args.departures.now
    c.requires.arrivals.0 c.requires.departures.0
    c.loop-k.k c.loop-k-test.true no_stop_node c.loop-k.first c.loop-k.invariant.within c.loop-k.invariant.early

pub loop-k-preserved : goal.loop-k-preserved
loop-k-preserved c =
    let p = c.args.instance.now in
    let l = c.args.by.l.0 in
    let w = c.args.way in
    let xs = c.args.arrivals.now in
    let ys = c.args.departures.now in
    let k = c.loop-k.k in
    let place = c.first_from-first.result in
    let earlier = c.first_from-first.ensures.earlier in
    let bound = c.first_from-first.ensures.place.1 in
    let old = c.args.arcs.now.items in
    let before = c.loop-k.arcs.items in
    let From = OfArrival p l c.args.by.matching w xs ys in
    let up = c.requires.arrivals.0 in
    let up' = c.requires.departures.0 in
    let within = c.loop-k-test.true in
    let early = early_more p l c.args.by.matching w xs ys up up' k within no_stop_node place bound earlier in
    elim c.if-first-departures.branch [
      | then-first-departures+then-is_kept+in_ok-push b ↦
          let until = get_or ys place no_stop_node in
          let first =
          first_departure ys up' _ place no_stop_node b.if-first-departures.true earlier
          (c.first_from-first.ensures.first no_stop_node b.if-first-departures.true) in
          let kept = (b.is_kept.ensures no_stop_node).0 b.if-is_kept.true in
          let items : c.if-first-departures.arcs.items ≡ before ++ deadhead_of p l w
          (get_or xs k no_stop_node) until ∷ [] =
          ap (λ (v : Vec LayerArc Global). v.items) b.arcs-is ∙ b.in_ok-push.ensures.items
          ∙ ap (λ (x : LayerArc). before ++ x ∷ []) b.deadhead_arc.ensures in
          record {
            adds = rw items
                (upto-one From k old before _ c.loop-k.invariant.adds
                (of_arrival p l c.args.by.matching w xs ys up up' k within no_stop_node until first kept)
                (only_arrival p l c.args.by.matching w xs ys up up' k within no_stop_node until first));
            few = rw items
                (omega (
                  arith,
                  c.loop-k.invariant.few,
                  length-append before (deadhead_of p l w (get_or xs k no_stop_node) until ∷ []),
                ));
            within = bound;
            early = early;
          }
      | then-first-departures+else-is_kept b ↦
          let until = get_or ys place no_stop_node in
          let first =
          first_departure ys up' _ place no_stop_node b.if-first-departures.true earlier
          (c.first_from-first.ensures.first no_stop_node b.if-first-departures.true) in
          let same = ap (λ (v : Vec LayerArc Global). v.items) b.arcs-is in
          record {
            adds = rw same (upto-skip From k old before c.loop-k.invariant.adds
                (λ x of. false≢true
                (sym b.if-is_kept.false
                ∙ (b.is_kept.ensures no_stop_node).1
                (kept_of p l c.args.by.matching w xs ys up up' k within no_stop_node until first x of))));
            few = rw same (omega (arith, c.loop-k.invariant.few));
            within = bound;
            early = early;
          }
      | else-first-departures b ↦
          let same = ap (λ (v : Vec LayerArc Global). v.items) b.arcs-is in
          record {
            adds = rw same (upto-skip From k old before c.loop-k.invariant.adds
                (none_of_arrival p l c.args.by.matching w xs ys up up' k within no_stop_node place
                b.if-first-departures.false earlier));
            few = rw same (omega (arith, c.loop-k.invariant.few));
            within = bound;
            early = early;
          }
    ]

pub returns-clause-adds : goal.returns-clause-adds
returns-clause-adds c =
    let all : c.loop-k.k ≡ length c.args.arrivals.now = omega (arith, c.loop-k.auto.k-end, c.loop-k-test.false) in
    let From =
    OfArrival c.args.instance.now c.args.by.l.0 c.args.by.matching c.args.way c.args.arrivals.now
    c.args.departures.now in
    let P : ℕ → Type 0 = λ n. Adds (Upto From n) c.args.arcs.now.items c.loop-k.arcs.items in
    are_matches c.args.instance.now c.args.by.l.0 c.args.by.matching c.args.way c.args.arrivals.now
    c.args.departures.now
    c.args.arcs.now.items c.loop-k.arcs.items
    (subst P all c.loop-k.invariant.adds)
