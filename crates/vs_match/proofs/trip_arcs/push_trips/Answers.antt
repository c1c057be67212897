use Rattle.std.proofs.Common.{◌≡◌, ℕ, ◌∙◌, ap, subst, length, length-append, arith, ◌∷◌, [], ◌++◌, Vec, Global}
use Rattle.std.specs.Int.{bit_at}
use Rattle.std.proofs.lemmas.Bool.{false≢true}
use Rattle.vs_instance.specs.declared.trip.Trip.{Trip}
use Rattle.vs_match.specs.declared.arc_kind.LayerArc.{LayerArc}
use Rattle.vs_match.specs.Adds.{Adds}
use Rattle.vs_match.proofs.events.Adding.{Upto, upto-one, upto-skip}
use Rattle.vs_match.proofs.matches.TripsRun.{OfTripNo, only_trip, trips_are}
use Rattle.vs_match.proofs.trip_arcs.push_trips.Goals as goal
use Rattle.vs_match.proofs.trip_arcs.push_trips.Goals.{then-has+in_ok-push, else-has}

pub loop-i-preserved : goal.loop-i-preserved
loop-i-preserved c =
    let p = c.args.instance.now in
    let l = c.args.l.0 in
    let i = c.loop-i.i in
    let points = c.args.nodes.now.points.items in
    let old = c.args.arcs.now.items in
    let before = c.loop-i.arcs.items in
    let From = OfTripNo p l points in
    elim c.if-has.branch [
      | then-has+in_ok-push w ↦
          let items : c.if-has.arcs.items ≡ before ++ w.trip_arc.result ∷ [] =
          ap (λ (v : Vec LayerArc Global). v.items) w.arcs-is ∙ w.in_ok-push.ensures.items in
          let of : From i w.trip_arc.result = (w.trip_arc.ensures.kind, w.trip_arc.ensures.arc) in
          record {
            adds = rw items (upto-one From i old before w.trip_arc.result c.loop-i.invariant.adds of
                (λ x of'. only_trip p l points c.requires.nodes.points.ordered i w.trip_arc.result x of of'));
            few = rw items (omega (arith, c.loop-i.invariant.few, length-append before (w.trip_arc.result ∷ [])));
          }
      | else-has w ↦
          let same = ap (λ (v : Vec LayerArc Global). v.items) w.arcs-is in
          record {
            adds = rw same (upto-skip From i old before c.loop-i.invariant.adds
                (λ x of. false≢true
                (w.if-has.ensures.1 (ap (λ (t : Trip). bit_at t.layers.0 l) c.trip.ensures ∙ of.1.may_run.1))));
            few = rw same (omega (arith, c.loop-i.invariant.few));
          }
    ]

pub returns-clause-adds : goal.returns-clause-adds
returns-clause-adds c =
    let p = c.args.instance.now in
    let all : c.loop-i.i ≡ length p.trips =
    omega (arith, c.loop-i.auto.i-end, c.loop-i-test.false, c.trips-i-end.ensures.count) in
    let P : ℕ → Type 0 =
    λ n. Adds
    (Upto (OfTripNo p c.args.l.0 c.args.nodes.now.points.items) n) c.args.arcs.now.items c.loop-i.arcs.items in
    trips_are p c.args.l.0 c.args.nodes.now.points.items c.args.arcs.now.items c.loop-i.arcs.items
    (subst P all c.loop-i.invariant.adds)
