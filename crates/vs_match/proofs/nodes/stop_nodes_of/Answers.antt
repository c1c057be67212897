use Rattle.std.proofs.Common.{◌≡◌, ℕ, ◌∙◌, sym, ap, subst, refl, length, arith, [], ◌∷◌, ◌++◌, length-append, Vec, Global}
use Rattle.std.specs.Int.{bit_at}
use Rattle.std.specs.Prelude.{Contains}
use Rattle.std.proofs.lemmas.Bool.{false≢true}
use Rattle.vs_instance.specs.declared.trip.Trip.{Trip}
use Rattle.vs_match.specs.declared.event.Event.{Event}
use Rattle.vs_match.specs.declared.stop_node.StopNode.{StopNode}
use Rattle.vs_match.specs.declared.event.Point.{Point}
use Rattle.vs_match.specs.Events.{MayRun, HasPoint, point_of}
use Rattle.vs_match.specs.Adds.{Adds}
use Rattle.vs_match.proofs.events.Adding.{Upto, upto-none, upto-one, upto-skip}
use Rattle.vs_match.proofs.events.StopNodeLists.{OfTripEnd, trip_stop_nodes, stop_node_equal, same_stop_node, event_known}
use Rattle.vs_match.proofs.nodes.stop_nodes_of.Goals as goal
use Rattle.vs_match.proofs.nodes.stop_nodes_of.Goals.{then-has+in_ok-push, else-has}

pub put_in_order-requires : goal.put_in_order-requires
put_in_order-requires c = stop_node_equal

pub node_of-requires-clause-known : goal.node_of-requires-clause-known
node_of-requires-clause-known c =
    let p = c.args.instance.now in
    let l = c.args.l.0 in
    let i = c.loop-i.i in
    let may : MayRun p l i = (
      omega (arith, c.loop-i-test.true, c.trips-i-end.ensures.count),
      ap (λ (t : Trip). bit_at t.layers.0 l) (sym c.trip.ensures) ∙ c.if-has.ensures.0 refl,
    ) in
    let P : Event → Type 0 = λ e. Contains c.args.points.now (point_of e) in
    let Q : Point → Type 0 = λ x. Contains c.args.points.now x in
    subst Q (sym c.point.ensures)
    (subst P (sym c.event-event.ensures) (event_known c.args.end p l i c.args.points.now c.requires.points may))

pub loop-i-init : goal.loop-i-init
loop-i-init c =
    let none = c.new-stop_nodes.ensures.items in
    record {
      adds = rw none (upto-none (OfTripEnd c.args.end c.args.instance.now c.args.l.0 c.args.points.now) []);
      few = rw none (omega arith);
    }

pub loop-i-preserved : goal.loop-i-preserved
loop-i-preserved c =
    let p = c.args.instance.now in
    let l = c.args.l.0 in
    let i = c.loop-i.i in
    let points = c.args.points.now in
    let before = c.loop-i.stop_nodes.items in
    let From = OfTripEnd c.args.end p l points in
    elim c.if-has.branch [
      | then-has+in_ok-push w ↦
          let may : MayRun p l i = (
            omega (arith, c.loop-i-test.true, c.trips-i-end.ensures.count),
            ap (λ (t : Trip). bit_at t.layers.0 l) (sym c.trip.ensures) ∙ w.if-has.ensures.0 refl,
          ) in
          let s : StopNode =
          record {
            stop = w.event-event.result.stop;
            minute = w.event-event.result.minute;
            node =
                w.node_of.result;
          } in
          let items : c.if-has.stop_nodes.items ≡ before ++ s ∷ [] =
          ap (λ (v : Vec StopNode Global). v.items) w.stop_nodes-is ∙ w.in_ok-push.ensures.items in
          let P : Point → Type 0 = λ x. HasPoint points w.node_of.result x in
          let node = subst P w.point.ensures w.node_of.ensures in
          let of : From i s = (may, (sym w.event-event.ensures, node)) in
          record {
            adds = rw items (upto-one From i [] before s c.loop-i.invariant.adds of
                (λ x of'. same_stop_node points c.requires.points.ordered s x (sym of.1.0 ∙ of'.1.0) of.1.1 of'.1.1));
            few = rw items (omega (arith, c.loop-i.invariant.few, length-append before (s ∷ [])));
          }
      | else-has w ↦
          let same = ap (λ (v : Vec StopNode Global). v.items) w.stop_nodes-is in
          record {
            adds = rw same (upto-skip From i [] before c.loop-i.invariant.adds
                (λ e of. false≢true
                (w.if-has.ensures.1 (ap (λ (t : Trip). bit_at t.layers.0 l) c.trip.ensures ∙ of.0.1))));
            few = rw same (omega (arith, c.loop-i.invariant.few));
          }
    ]

pub returns-clause-stop_nodes : goal.returns-clause-stop_nodes
returns-clause-stop_nodes c =
    let p = c.args.instance.now in
    let all : c.loop-i.i ≡ length p.trips =
    omega (arith, c.loop-i.auto.i-end, c.loop-i-test.false, c.trips-i-end.ensures.count) in
    let P : ℕ → Type 0 =
    λ n. Adds (Upto (OfTripEnd c.args.end p c.args.l.0 c.args.points.now) n) [] c.loop-i.stop_nodes.items in
    trip_stop_nodes c.args.end p c.args.l.0 c.args.points.now c.requires.points.ordered c.loop-i.stop_nodes.items
    c.put_in_order.new.items.items
    (subst P all c.loop-i.invariant.adds) c.put_in_order.ensures.same c.put_in_order.ensures.ordered

pub returns-clause-few : goal.returns-clause-few
returns-clause-few c =
    omega (
      arith,
      c.put_in_order.ensures.few,
      c.loop-i.invariant.few,
      c.loop-i.auto.i-end,
      c.trips-i-end.ensures.count,
      c.trips-i-end.ensures.instance.few_trips,
    )
