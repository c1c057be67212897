-- The order of a layer's arcs, and that no two of them have the same ends and kind.
use Rattle.std.proofs.Common.{◌≡◌, ℕ, ◌+◌, ◌-◌, ◌*◌, true, eqb, ◌&&◌, List, sym, ap, ◌∙◌, subst, inl, inr}
use Rattle.std.specs.Prelude.{ℤ}
use Rattle.std.specs.declared.cmp.Ordering.{Ordering}
use Rattle.std.specs.declared.cmp.Ordering.TheVariants.{Less, Equal, Greater}
use Rattle.std.specs.Ordering.{nat_cmp, int_cmp, int_eq, ordering_then}
use Rattle.std.specs.Cmp.{tied_itself, then_total, on_total, nat_cmp_total, int_cmp_total, IsTotalOrder}
use Rattle.std.proofs.lemmas.Bool.Decides.{Decides-int_eq}
use Rattle.std.proofs.lemmas.Bool.{eqb-true, and_parts}
use Rattle.vs_layer.specs.declared.arc.Arc.{Arc}
use Rattle.vs_instance.specs.declared.way.Way.{Way}
use Rattle.vs_instance.specs.Problem.{Problem}
use Rattle.vs_instance.specs.Ways.{way, layer_of}
use Rattle.vs_instance.specs.Pieces.{rated}
use Rattle.vs_match.specs.declared.event.Event.{Event}
use Rattle.vs_match.specs.declared.event.Point.{Point}
use Rattle.vs_match.specs.declared.arc_kind.ArcKind.{ArcKind}
use Rattle.vs_match.specs.declared.arc_kind.ArcKind.TheVariants.{Trip, Waiting, Deadhead, PullOut, PullIn, RestIn, RestWait, RestOut, Return}
use Rattle.vs_match.specs.declared.arc_kind.LayerArc.{LayerArc}
use Rattle.vs_match.specs.declared.matching.Matching.{Matching}
use Rattle.vs_match.specs.contracts.arc_kind.ArcKindPartialEq.TheImpl as equality
use Rattle.vs_match.specs.contracts.arc_kind.ArcKindOrd.TheImpl as order
use Rattle.vs_match.specs.NetArcs.{IsArcOf, IsArcBefore, IsKindBefore, rank, trip_number, at_scale}
use Rattle.vs_match.specs.Events.{HasPlace}
use Rattle.vs_match.specs.Adds.{arc_in}
use Rattle.vs_match.proofs.walks.ClosedWays.{some-same}
use Rattle.vs_match.proofs.order.KindOrder.{kind_eq-is, kind_cmp-is, kind_of_rank}
use Rattle.vs_match.proofs.order.Orders.{compared, less-then}
use Rattle.vs_match.proofs.events.Places.{same_event}
use Rattle.vs_match.proofs.walks.WalkBounds.{first_of_match}

-- arcs of a layer with the same ends and kind have the same cost and room
pub same_cost : (p : Problem) (l : ℕ) (matching : Matching) (points : List Point) (kind : ArcKind) (a b : Arc)
    → IsArcOf p l matching points kind a
    → IsArcOf p l matching points kind b → a.from ≡ b.from → a.to ≡ b.to → (a.cost ≡ b.cost) × (a.room ≡ b.room)
same_cost p l matching points (Trip i) a b x y from to = (x.cost ∙ sym y.cost, x.room ∙ sym y.room)
same_cost p l matching points Waiting a b x y from to =
    let since =
    same_event points b.from x.since y.since (subst (λ (v : ℕ). HasPlace points v x.since) from x.from) y.from in
    let until = same_event points b.to x.until y.until (subst (λ (v : ℕ). HasPlace points v x.until) to x.to) y.to in (
      x.cost ∙ ap (λ (e : Event). at_scale ((layer_of p l).per_minute * (x.until.minute - e.minute))) since
          ∙ ap (λ (e : Event). at_scale ((layer_of p l).per_minute * (e.minute - y.since.minute))) until ∙ sym y.cost,
      x.room ∙ sym y.room,
    )
same_cost p l matching points Deadhead a b x y from to =
    let since =
    same_event points b.from x.since y.since (subst (λ (v : ℕ). HasPlace points v x.since) from x.from) y.from in
    let until = same_event points b.to x.until y.until (subst (λ (v : ℕ). HasPlace points v x.until) to x.to) y.to in
    let first = first_of_match p l matching x.by x.since x.until x.matched in
    let second = first_of_match p l matching y.by y.since y.until y.matched in
    let by = some-same x.by y.by (sym first.way_is ∙ ap (λ (e : Event). way p e.stop.0 x.until.stop.0) since
    ∙ ap (λ (e : Event). way p y.since.stop.0 e.stop.0) until ∙ second.way_is) in (
      x.cost ∙ ap (λ (e : Event). at_scale (rated p l (x.until.minute - e.minute) x.by.metres)) since
          ∙ ap (λ (e : Event). at_scale (rated p l (e.minute - y.since.minute) x.by.metres)) until
          ∙ ap (λ (w : Way). at_scale (rated p l (y.until.minute - y.since.minute) w.metres)) by ∙ sym y.cost,
      x.room ∙ sym y.room,
    )
same_cost p l matching points PullOut a b x y from to =
    let until = same_event points b.to x.until y.until (subst (λ (v : ℕ). HasPlace points v x.until) to x.to) y.to in
    let by = some-same x.by y.by
    (sym x.way_is ∙ ap (λ (e : Event). way p (layer_of p l).depot.0 e.stop.0) until ∙ y.way_is) in (
      x.cost ∙ ap (λ (w : Way). at_scale ((layer_of p l).fixed + rated p l w.minutes w.metres)) by ∙ sym y.cost,
      x.room ∙ sym y.room,
    )
same_cost p l matching points PullIn a b x y from to =
    let since =
    same_event points b.from x.since y.since (subst (λ (v : ℕ). HasPlace points v x.since) from x.from) y.from in
    let by = some-same x.by y.by
    (sym x.way_is ∙ ap (λ (e : Event). way p e.stop.0 (layer_of p l).depot.0) since ∙ y.way_is) in
    (x.cost ∙ ap (λ (w : Way). at_scale (rated p l w.minutes w.metres)) by ∙ sym y.cost, x.room ∙ sym y.room)
same_cost p l matching points RestIn a b x y from to =
    let since =
    same_event points b.from x.since y.since (subst (λ (v : ℕ). HasPlace points v x.since) from x.from) y.from in
    let by = some-same x.by y.by
    (sym x.way_is ∙ ap (λ (e : Event). way p e.stop.0 (layer_of p l).depot.0) since ∙ y.way_is) in
    (x.cost ∙ ap (λ (w : Way). at_scale (rated p l w.minutes w.metres)) by ∙ sym y.cost, x.room ∙ sym y.room)
same_cost p l matching points RestWait a b x y from to = (x.cost ∙ sym y.cost, x.room ∙ sym y.room)
same_cost p l matching points RestOut a b x y from to =
    let until = same_event points b.to x.until y.until (subst (λ (v : ℕ). HasPlace points v x.until) to x.to) y.to in
    let by = some-same x.by y.by
    (sym x.after.way_is ∙ ap (λ (e : Event). way p (layer_of p l).depot.0 e.stop.0) until ∙ y.after.way_is) in
    (x.cost ∙ ap (λ (w : Way). at_scale (rated p l w.minutes w.metres)) by ∙ sym y.cost, x.room ∙ sym y.room)
same_cost p l matching points Return a b x y from to = (x.cost ∙ sym y.cost, x.room ∙ sym y.room)

abbrev pub rest_cmp : LayerArc → LayerArc → Ordering
rest_cmp a b = ordering_then (int_cmp a.cost b.cost) (nat_cmp a.room b.room)

abbrev pub arc_cmp : LayerArc → LayerArc → Ordering
arc_cmp a b =
    ordering_then (nat_cmp a.from b.from)
    (ordering_then (nat_cmp a.to b.to) (ordering_then (order.ghosts.cmp a.kind b.kind) (rest_cmp a b)))

-- arcs that test equal are
pub arc_equal : (a b : LayerArc)
    → (eqb a.from b.from &&
    (eqb a.to b.to && (equality.ghosts.eq a.kind b.kind && (int_eq a.cost b.cost && eqb a.room b.room)))) ≡ true
    → a ≡ b
arc_equal a b is =
    let first = and_parts _ _ is in
    let second = and_parts _ _ first.1 in
    let third = and_parts _ _ second.1 in
    let fourth = and_parts _ _ third.1 in
    let kinds = and_parts _ _ (sym (kind_eq-is a.kind b.kind) ∙ third.0) in
    let from = eqb-true a.from b.from first.0 in
    let to = eqb-true a.to b.to second.0 in
    let kind = kind_of_rank a.kind b.kind (eqb-true _ _ kinds.0) (eqb-true _ _ kinds.1) in
    let cost = (Decides-int_eq a.cost b.cost).0 fourth.0 in
    let room = eqb-true a.room b.room fourth.1 in
    λ i. record { from = from i; to = to i; kind = kind i; cost = cost i; room = room i }

rest_cmp-total : IsTotalOrder rest_cmp
rest_cmp-total =
    then_total (on_total (λ (x : LayerArc). x.cost) int_cmp_total) (on_total (λ (x : LayerArc). x.room) nat_cmp_total)

-- arcs of the same cost and room don't differ in them
same_rest : (a b : LayerArc) → a.cost ≡ b.cost → a.room ≡ b.room → rest_cmp a b ≡ Equal
same_rest a b cost room =
    ap (λ (c : ℤ). ordering_then (int_cmp c b.cost) (nat_cmp a.room b.room)) cost
    ∙ ap (λ (n : ℕ). ordering_then (int_cmp b.cost b.cost) (nat_cmp n b.room)) room ∙ tied_itself rest_cmp-total b

module _ (p : Problem) (l : ℕ) (matching : Matching) (points : List Point) where
  abbrev IsOne : LayerArc → Type 0
  IsOne x = IsArcOf p l matching points x.kind (arc_in x)

  -- two arcs with the same ends are told apart by their kinds
  kinds_differ : (a b : LayerArc) → IsOne a → IsOne b → a.from ≡ b.from → a.to ≡ b.to
      → ordering_then
      (ordering_then (nat_cmp (rank a.kind) (rank b.kind)) (nat_cmp (trip_number a.kind) (trip_number b.kind)))
      (rest_cmp a b) ≡ Less
      → IsKindBefore a.kind b.kind
  kinds_differ a b one one' from to is = elim (compared (rank a.kind) (rank b.kind)) [
    | inl up ↦ inl up.1
    | inr more ↦ elim more [
      | inl same ↦
          let numbers =
          sym (ap (λ (o : Ordering). ordering_then
          (ordering_then o (nat_cmp (trip_number a.kind) (trip_number b.kind))) (rest_cmp a b)) same.0) ∙ is in
          elim (less-then (trip_number a.kind) (trip_number b.kind) (rest_cmp a b) numbers) [
            | inl number ↦ inr (same.1, number)
            | inr tied ↦
                let kind = kind_of_rank a.kind b.kind same.1 tied.0 in
                let as_b : IsArcOf p l matching points b.kind (arc_in a) =
                subst (λ (t : ArcKind). IsArcOf p l matching points t (arc_in a)) kind one in
                let rest = same_cost p l matching points b.kind (arc_in a) (arc_in b) as_b one' from to in
                let no : Equal ≡ Less = sym (same_rest a b rest.0 rest.1) ∙ tied.1 in cc
          ]
      | inr down ↦
          let no : Greater ≡ Less =
          sym (ap (λ (o : Ordering). ordering_then
          (ordering_then o (nat_cmp (trip_number a.kind) (trip_number b.kind))) (rest_cmp a b)) down.0) ∙ is in cc
    ]
  ]

  pub arc_before : (a b : LayerArc) → IsOne a → IsOne b → arc_cmp a b ≡ Less
      → IsArcBefore (arc_in a) a.kind (arc_in b) b.kind
  arc_before a b one one' is = elim (less-then a.from b.from _ is) [
    | inl from ↦ inl from
    | inr same ↦ elim (less-then a.to b.to _ same.1) [
      | inl to ↦ inr (same.0, inl to)
      | inr both ↦
          let kinds =
          ap (λ (o : Ordering). ordering_then o (rest_cmp a b)) (sym (kind_cmp-is a.kind b.kind)) ∙ both.1 in
          inr (same.0, inr (both.0, kinds_differ a b one one' same.0 both.0 kinds))
    ]
  ]
