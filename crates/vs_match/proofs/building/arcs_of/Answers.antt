use Rattle.std.proofs.Common.{◌≡◌, ℕ, ◌+◌, ◌∙◌, ap, subst, length, length-append, arith, List, [], ◌∷◌, ◌++◌}
use Rattle.std.specs.Prelude.{◌↔◌, Contains}
use Rattle.vs_match.specs.declared.arc_kind.LayerArc.{LayerArc}
use Rattle.vs_match.specs.Adds.{Adds}
use Rattle.vs_match.specs.ArcsOf.{return_of}
use Rattle.vs_match.specs.Events.{last_node}
use Rattle.vs_match.specs.Parts.{IsTrip}
use Rattle.vs_match.proofs.order.ArcOrder.{arc_equal}
use Rattle.vs_match.proofs.matches.WholeNet.{adds_return, adds_all, are_arcs}
use Rattle.vs_match.proofs.building.arcs_of.Goals as goal

pub put_in_order-requires : goal.put_in_order-requires
put_in_order-requires c = arc_equal

pub returns-clause-arcs : goal.returns-clause-arcs
returns-clause-arcs c =
    let p = c.args.instance.now in
    let l = c.args.l.0 in
    let points = c.args.nodes.now.points.items in
    let count : c.len.result ≡ length points = omega (arith, c.len.ensures, c.args.nodes.now.points.ok.0) in
    let back = c.return_arc.ensures ∙ ap (λ (n : ℕ). return_of p l (n + 1)) count in
    let e = c.push_rest_waits.new.arcs.items in
    let pushed : c.push.new.self.items ≡ e ++ return_of p l (last_node points) ∷ [] =
    c.in_ok-push.ensures.items ∙ ap (λ (x : LayerArc). e ++ x ∷ []) back in
    let P : List LayerArc → Type 0 = λ xs. Adds (IsTrip p l points) xs c.push_trips.new.arcs.items in
    let same : (x : LayerArc) → Contains c.put_in_order.new.items.items x ↔ Contains c.push.new.self.items x = λ x.
    let sorted = rw c.deref.ensures.value at c.in_ok-ordered.ensures.same x in
    let in_order = c.put_in_order.ensures.same x in
    (λ has. sorted.0 (in_order.0 has), λ has. in_order.1 (sorted.1 has)) in
    are_arcs p l c.args.matching points c.push.new.self.items c.put_in_order.new.items.items
    (rw pushed
    (adds_all p l c.args.matching points c.push_trips.new.arcs.items c.push_waiting.new.arcs.items
    c.push_deadheads.new.arcs.items c.push_drives.new.arcs.items e _
    (subst P c.in_ok-arcs.ensures.items c.in_ok-push_trips.ensures.adds) c.in_ok-push_waiting.ensures.adds
    c.in_ok-push_deadheads.ensures.adds c.in_ok-push_drives.ensures.adds c.in_ok-push_rest_waits.ensures.adds
    (adds_return p l c.args.matching points e)))
    same c.put_in_order.ensures.ordered

pub returns-clause-few : goal.returns-clause-few
returns-clause-few c =
    let pushed =
    ap length c.in_ok-push.ensures.items
    ∙ length-append c.push_rest_waits.new.arcs.items (c.return_arc.result ∷ []) in
    omega (
      arith,
      c.put_in_order.ensures.few,
      c.in_ok-ordered.ensures.count,
      ap length c.deref.ensures.value,
      pushed,
      c.in_ok-push_rest_waits.ensures.few,
      c.in_ok-push_drives.ensures.few,
      c.in_ok-push_deadheads.ensures.few,
      c.in_ok-push_waiting.ensures.few,
      c.in_ok-push_trips.ensures.few,
      ap length c.in_ok-arcs.ensures.items,
    )
