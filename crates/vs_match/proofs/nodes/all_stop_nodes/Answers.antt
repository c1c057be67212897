use Rattle.std.proofs.Common.{◌≡◌, ℕ, ◌+◌, ◌∙◌, ap, subst, length, arith, [], ◌∷◌, ◌++◌, length-append, get_or, None, Vec, Global}
use Rattle.vs_match.specs.declared.event.Point.{Point}
use Rattle.vs_match.specs.declared.stop_node.StopNode.{StopNode}
use Rattle.vs_match.specs.Adds.{Adds}
use Rattle.vs_match.proofs.events.Adding.{Upto, upto-none, upto-one, upto-skip}
use Rattle.vs_match.proofs.events.StopNodeLists.{OfPlace, of_place, only_place, no_place, event_stop_nodes, stop_node_equal}
use Rattle.vs_match.proofs.nodes.all_stop_nodes.Goals as goal
use Rattle.vs_match.proofs.nodes.all_stop_nodes.Goals.{in-Some+in_ok-push, in_default}

-- what stands past the last point
abbrev no_point : Point
no_point = record { minute = 0; stop = None }

pub put_in_order-requires : goal.put_in_order-requires
put_in_order-requires c = stop_node_equal

pub loop-k-init : goal.loop-k-init
loop-k-init c =
    let none = c.in_ok-stop_nodes.ensures.items in
    record { adds = rw none (upto-none (OfPlace c.args.points.now) []); few = rw none (omega arith) }

pub loop-k-preserved : goal.loop-k-preserved
loop-k-preserved c =
    let points = c.args.points.now in
    let k = c.loop-k.k in
    let before = c.loop-k.stop_nodes.items in
    let d = no_point in
    let x = get_or points k d in
    elim c.match-point.branch [
      | in-Some+in_ok-push w ↦
          let stop = w.in-Some.stop in
          let s : StopNode = record { stop = stop; minute = x.minute; node = k + 1 } in
          let items : c.match-point.stop_nodes.items ≡ before ++ s ∷ [] =
          ap (λ (v : Vec StopNode Global). v.items) w.stop_nodes-is ∙ w.in_ok-push.ensures.items in
          let of = of_place points k d stop c.loop-k-test.true w.in-Some.is in
          record {
            adds = rw items
                (upto-one (OfPlace points) k [] before s c.loop-k.invariant.adds of
                (λ t of'. only_place points k s t of of'));
            few = rw items (omega (arith, c.loop-k.invariant.few, length-append before (s ∷ [])));
          }
      | in_default w ↦
          let same = ap (λ (v : Vec StopNode Global). v.items) w.stop_nodes-is in
          record {
            adds = rw same
                (upto-skip (OfPlace points) k [] before c.loop-k.invariant.adds (no_place points k d w.in_default.is));
            few = rw same (omega (arith, c.loop-k.invariant.few));
          }
    ]

pub returns-clause-stop_nodes : goal.returns-clause-stop_nodes
returns-clause-stop_nodes c =
    let all : c.loop-k.k ≡ length c.args.points.now = omega (arith, c.loop-k.auto.k-end, c.loop-k-test.false) in
    let P : ℕ → Type 0 = λ n. Adds (Upto (OfPlace c.args.points.now) n) [] c.loop-k.stop_nodes.items in
    event_stop_nodes c.args.points.now c.requires.ordered c.loop-k.stop_nodes.items c.put_in_order.new.items.items
    (subst P all c.loop-k.invariant.adds) c.put_in_order.ensures.same c.put_in_order.ensures.ordered

pub returns-clause-few : goal.returns-clause-few
returns-clause-few c =
    omega (arith, c.put_in_order.ensures.few, c.loop-k.invariant.few, c.loop-k.auto.k-end, c.requires.few)
