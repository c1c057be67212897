use Rattle.std.proofs.Common.{◌≡◌, List, ap, sym, subst}
use Rattle.std.specs.Prelude.{Contains, AllPairs}
use Rattle.vs_types.specs.declared.numbers.StopNo.{StopNo}
use Rattle.vs_instance.specs.declared.layer.Layer.{Layer}
use Rattle.vs_instance.specs.Ways.{layer_of}
use Rattle.vs_match.specs.declared.event.Point.{Point}
use Rattle.vs_match.specs.Events.{ArrivesAt, DepartsAt, IsBefore, point_of}
use Rattle.vs_match.specs.StopNodes.{AreStopNodes, AreLineNodes, event_of}
use Rattle.vs_match.proofs.nodes.nodes_of.Goals as goal

pub all_stop_nodes-requires-clause-ordered : goal.all_stop_nodes-requires-clause-ordered
all_stop_nodes-requires-clause-ordered c =
    let P : List Point → Type 0 = λ xs. AllPairs IsBefore xs in
    subst P (sym c.deref-order.ensures.value) c.in_ok-points.ensures.points.ordered

pub line_nodes-requires-clause-ordered : goal.line_nodes-requires-clause-ordered
line_nodes-requires-clause-ordered c =
    let P : List Point → Type 0 = λ xs. AllPairs IsBefore xs in
    subst P (sym c.deref-order.ensures.value) c.in_ok-points.ensures.points.ordered

pub returns : goal.returns
returns c =
    let p = c.args.instance.now in
    let l = c.args.l.0 in
    let points = c.in_ok-points.ensures.points in
    let all =
    subst (λ (xs : List Point). AreStopNodes xs (λ e. Contains xs (point_of e)) c.in_ok-all.all.items)
    c.deref-order.ensures.value
    c.in_ok-all.ensures.stop_nodes in
    let depot : c.layer.result.now.depot ≡ (layer_of p l).depot =
    ap (λ (x : Layer). x.depot) c.layer.ensures in
    let line =
    subst (λ (stop : StopNo). AreLineNodes c.in_ok-points.points.items stop c.in_ok-line.line.items) depot
    (subst (λ (xs : List Point). AreLineNodes xs c.layer.result.now.depot c.in_ok-line.line.items)
    c.deref-order.ensures.value c.in_ok-line.ensures.line) in
    record {
      points = points;
      few = c.in_ok-points.ensures.few;
      all = record {
        only = λ s has. let both = all.only s has in (both.0, points.only _ both.1);
        every = λ s at is. all.every s at (points.every (point_of (event_of s)) is);
        ordered = all.ordered;
      };
      few_all = c.in_ok-all.ensures.few;
      departures =
          subst (λ (es : List Point). AreStopNodes es (DepartsAt p l) c.in_ok-departures.departures.items)
          c.deref-order.ensures.value c.in_ok-departures.ensures.stop_nodes;
      few_departures = c.in_ok-departures.ensures.few;
      arrivals =
          subst (λ (es : List Point). AreStopNodes es (ArrivesAt p l) c.in_ok-arrivals.arrivals.items)
          c.deref-order.ensures.value c.in_ok-arrivals.ensures.stop_nodes;
      few_arrivals = c.in_ok-arrivals.ensures.few;
      line = line;
      few_line = c.in_ok-line.ensures.few;
    }
