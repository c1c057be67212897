use Rattle.std.proofs.Common.{◌≡◌, ℕ, ◌+◌, ◌∙◌, ap, subst, length, arith, [], ◌∷◌, ◌++◌, length-append, get_or, None, Vec, Global}
use Rattle.std.specs.Prelude.{not}
use Rattle.vs_match.specs.declared.event.Point.{Point}
use Rattle.vs_match.specs.declared.stop_node.StopNode.{StopNode}
use Rattle.vs_match.specs.Adds.{Adds}
use Rattle.vs_match.proofs.events.Adding.{Upto, upto-none, upto-one, upto-skip}
use Rattle.vs_match.proofs.events.StopNodeLists.{OfLine, of_line, only_line, no_line, are_line_nodes, stop_node_equal, none_of_test, some_of_test}
use Rattle.vs_match.proofs.nodes.line_nodes.Goals as goal
use Rattle.vs_match.proofs.nodes.line_nodes.Goals.{then-is_none+in_ok-push, else-is_none}

-- what stands past the last point
abbrev no_point : Point
no_point = record { minute = 0; stop = None }

pub put_in_order-requires : goal.put_in_order-requires
put_in_order-requires c = stop_node_equal

pub loop-k-init : goal.loop-k-init
loop-k-init c =
    let none = c.new-line.ensures.items in
    record { adds = rw none (upto-none (OfLine c.args.points.now c.args.depot) []); few = rw none (omega arith) }

pub loop-k-preserved : goal.loop-k-preserved
loop-k-preserved c =
    let points = c.args.points.now in
    let depot = c.args.depot in
    let k = c.loop-k.k in
    let before = c.loop-k.line.items in
    let d = no_point in
    let x = get_or points k d in
    elim c.if-is_none.branch [
      | then-is_none+in_ok-push w ↦
          let none = none_of_test x.stop (c.is_none.ensures ∙ ap not w.if-is_none.true) in
          let s : StopNode = record { stop = depot; minute = x.minute; node = k + 1 } in
          let items : c.if-is_none.line.items ≡ before ++ s ∷ [] =
          ap (λ (v : Vec StopNode Global). v.items) w.line-is ∙ w.in_ok-push.ensures.items in
          let of = of_line points depot k d c.loop-k-test.true none in
          record {
            adds = rw items
                (upto-one (OfLine points depot) k [] before s c.loop-k.invariant.adds of
                (λ t of'. only_line points depot k s t of of'));
            few = rw items (omega (arith, c.loop-k.invariant.few, length-append before (s ∷ [])));
          }
      | else-is_none w ↦
          let some = some_of_test x.stop (c.is_none.ensures ∙ ap not w.if-is_none.false) in
          let same = ap (λ (v : Vec StopNode Global). v.items) w.line-is in
          record {
            adds = rw same
                (upto-skip (OfLine points depot) k [] before c.loop-k.invariant.adds
                (no_line points depot k d some.0 some.1));
            few = rw same (omega (arith, c.loop-k.invariant.few));
          }
    ]

pub returns-clause-line : goal.returns-clause-line
returns-clause-line c =
    let points = c.args.points.now in
    let all : c.loop-k.k ≡ length points = omega (arith, c.loop-k.auto.k-end, c.loop-k-test.false) in
    let P : ℕ → Type 0 = λ n. Adds (Upto (OfLine points c.args.depot) n) [] c.loop-k.line.items in
    are_line_nodes points c.requires.ordered c.args.depot c.loop-k.line.items c.put_in_order.new.items.items
    (subst P all c.loop-k.invariant.adds) c.put_in_order.ensures.same c.put_in_order.ensures.ordered

pub returns-clause-few : goal.returns-clause-few
returns-clause-few c =
    omega (arith, c.put_in_order.ensures.few, c.loop-k.invariant.few, c.loop-k.auto.k-end, c.requires.few)
