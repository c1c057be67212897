use Rattle.std.proofs.Common.{◌≡◌, ℕ, ◌∙◌, ap, subst, length, arith, [], Vec, Global}
use Rattle.std.specs.Int.{bit_at}
use Rattle.std.proofs.lemmas.Bool.{false≢true}
use Rattle.vs_instance.specs.declared.trip.Trip.{Trip}
use Rattle.vs_match.specs.declared.event.Point.{Point}
use Rattle.vs_match.specs.TripPoints.{OfTrip}
use Rattle.vs_match.specs.Adds.{Adds}
use Rattle.vs_match.proofs.events.Adding.{Upto, upto-none, upto-many, upto-skip}
use Rattle.vs_match.proofs.events.PointLists.{are_points, point_equal}
use Rattle.vs_match.proofs.nodes.points_of.Goals as goal
use Rattle.vs_match.proofs.nodes.points_of.Goals.{then-has+in_ok-push_points, else-has}

pub put_in_order-requires : goal.put_in_order-requires
put_in_order-requires c = point_equal

pub loop-i-init : goal.loop-i-init
loop-i-init c =
    let none = c.new-points.ensures.items in
    record {
      adds = rw none (upto-none (OfTrip c.args.instance.now c.args.l.0) []);
      few = rw none (omega arith);
    }

pub loop-i-preserved : goal.loop-i-preserved
loop-i-preserved c =
    let p = c.args.instance.now in
    let l = c.args.l.0 in
    let i = c.loop-i.i in
    let before = c.loop-i.points.items in
    elim c.if-has.branch [
      | then-has+in_ok-push_points w ↦
          let same = ap (λ (v : Vec Point Global). v.items) w.points-is in
          record {
            adds = rw same
                (upto-many (OfTrip p l) i [] before _ c.loop-i.invariant.adds w.in_ok-push_points.ensures.adds);
            few = rw same (omega (arith, c.loop-i.invariant.few, w.in_ok-push_points.ensures.few));
          }
      | else-has w ↦
          let same = ap (λ (v : Vec Point Global). v.items) w.points-is in
          record {
            adds = rw same (upto-skip (OfTrip p l) i [] before c.loop-i.invariant.adds
                (λ x of. false≢true
                (w.if-has.ensures.1 (ap (λ (t : Trip). bit_at t.layers.0 l) c.trip.ensures ∙ of.0.1))));
            few = rw same (omega (arith, c.loop-i.invariant.few));
          }
    ]

pub returns-clause-points : goal.returns-clause-points
returns-clause-points c =
    let all : c.loop-i.i ≡ length c.args.instance.now.trips =
    omega (arith, c.loop-i.auto.i-end, c.loop-i-test.false, c.trips-i-end.ensures.count) in
    let P : ℕ → Type 0 = λ n. Adds (Upto (OfTrip c.args.instance.now c.args.l.0) n) [] c.loop-i.points.items in
    are_points c.args.instance.now c.args.l.0 c.loop-i.points.items c.put_in_order.new.items.items
    (subst P all c.loop-i.invariant.adds) c.put_in_order.ensures.same c.put_in_order.ensures.ordered

pub returns-clause-few : goal.returns-clause-few
returns-clause-few c =
    omega (
      arith,
      c.put_in_order.ensures.few,
      c.loop-i.invariant.few,
      c.loop-i.auto.i-end,
      c.trips-i-end.ensures.count,
      c.trips-i-end.ensures.instance.few_trips,
    )
