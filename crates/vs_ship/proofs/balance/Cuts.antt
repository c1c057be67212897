-- What is supplied to nodes that units are stuck at.
use Rattle.std.proofs.Common.{◌≡◌, ◌⊎◌, ◌<◌, ◌≤◌, ◌+◌, ℕ, zero, suc, Bool, true, false, cond, List, length, map, get_or, refl, ap, arith, inl, inr, ℤ, pos, negsuc, ◌*ℤ◌, ◌≤ℤ◌, ◌<ℤ◌}
use Rattle.std.specs.List.{range_with_len}
use Rattle.std.proofs.lemmas.Int.{ints}
use Rattle.std.proofs.lemmas.Bool.{cases_lt, cases_eq}
use Rattle.std.proofs.lemmas.List.{get_or_past}
use Rattle.vs_layer.specs.Graph.{Graph, arc_of}
use Rattle.vs_instance.specs.Lagrangian.{total}
use Rattle.vs_queue.specs.declared.step.Step.TheVariants.{Forward, Back}
use Rattle.vs_path.specs.Residual.{price_at, IsOpen}
use Rattle.vs_ship.specs.declared.shipment.Shipment.{Shipment}
use Rattle.vs_ship.specs.Balance.{gained, weighed}
use Rattle.vs_ship.specs.Shipments.{IsSized, IsStuck, residual_of}
use Rattle.vs_ship.proofs.balance.AtMost.{gained_on, gained-none_more, gained-one_more}
use Rattle.vs_ship.proofs.balance.Weights.{one_where, passed, passed-is, is_in, is_in-from, is_in-to}

-- numbers none of which is below 0, and one of which is above 0, add up to more than 0
total-range_no_less : (f : ℕ → ℤ) (a n : ℕ) → ((k : ℕ) → pos 0 ≤ℤ f k) → pos 0 ≤ℤ total (map f (range_with_len a n))
total-range_no_less f a zero each = omega (arith, ints)
total-range_no_less f a (suc n) each =
    let here = each a in
    let rest = total-range_no_less f (a + 1) n each in
    omega (arith, ints, here, rest)

total-range_more : (f : ℕ → ℤ) (a n i : ℕ) → a ≤ i → i < a + n → pos 0 <ℤ f i → ((k : ℕ) → pos 0 ≤ℤ f k)
    → pos 0 <ℤ total (map f (range_with_len a n))
total-range_more f a zero i from within some each = absurd (omega arith)
total-range_more f a (suc n) i from within some each =
    elim (cases_eq a i) [
      | inl is ↦
          let here = ap f is in
          let rest = total-range_no_less f (a + 1) n each in
          omega (arith, ints, here, rest)
      | inr other ↦
          let here = each a in
          let rest = total-range_more f (a + 1) n i (omega arith) (omega arith) some each in
          omega (arith, ints, here, rest)
    ]

-- a number is below 0, or it is not
cases_z : (z : ℤ) → (z <ℤ pos 0) ⊎ (pos 0 ≤ℤ z)
cases_z (pos m) = inr (omega (arith, ints))
cases_z (negsuc m) = inl (omega (arith, ints))

one_times : (x : ℤ) → pos 1 *ℤ x ≡ x
one_times (pos m) = omega (arith, ints)
one_times (negsuc m) = omega (arith, ints)

none_times : (x : ℤ) → pos 0 *ℤ x ≡ pos 0
none_times (pos m) = omega (arith, ints)
none_times (negsuc m) = omega (arith, ints)

module _ (g : Graph) (s : Shipment) (source : ℕ) (nodes : List ℕ) (sized : IsSized g s)
    (stuck : IsStuck g s source nodes) where
  abbrev inside : ℕ → Bool
  inside = is_in nodes

  abbrev units_at : ℕ → ℕ
  units_at k = get_or s.flow.units.items k 0

  abbrev room_at : ℕ → ℕ
  room_at k = get_or s.costs.room.items k 0

  -- an arc that leads out of the nodes is full, and one that leads to them carries nothing
  pub cut-arc : (k : ℕ) → k < length g.arcs
      → let a = arc_of g k in
      (passed (inside a.from) (inside a.to) (units_at k) ≤ℤ pos 0)
      × (passed (inside a.from) (inside a.to) (units_at k) ≤ℤ passed (inside a.from) (inside a.to) (room_at k))
  cut-arc k within = go (inside (arc_of g k).from) (inside (arc_of g k).to) refl refl
    where
      go : (a b : Bool) → inside (arc_of g k).from ≡ a → inside (arc_of g k).to ≡ b
          → (passed a b (units_at k) ≤ℤ pos 0) × (passed a b (units_at k) ≤ℤ passed a b (room_at k))
      go true true e f = (omega (arith, ints), omega (arith, ints))
      go true false e f =
          elim (cases_lt (units_at k) (room_at k)) [
            | inl has_room ↦
                let open_ : IsOpen (residual_of g s) (Forward k) = record { arc = within; room = has_room } in
                let to_is =
                is_in-from nodes (arc_of g k).to (stuck.cut.closed (Forward k) open_
                (is_in-to nodes (arc_of g k).from e)) in
                absurd (cc)
            | inr full ↦ (omega (arith, ints), omega (arith, ints))
          ]
      go false true e f =
          elim (cases_lt 0 (units_at k)) [
            | inl carries ↦
                let open_ : IsOpen (residual_of g s) (Back k) = record { arc = within; room = carries } in
                let from_is =
                is_in-from nodes (arc_of g k).from (stuck.cut.closed (Back k) open_
                (is_in-to nodes (arc_of g k).to f)) in
                absurd (cc)
            | inr empty ↦ (omega (arith, ints), omega (arith, ints))
          ]
      go false false e f = (omega (arith, ints), omega (arith, ints))

  on_arc : (k : ℕ) → gained_on (one_where inside) g.arcs s.flow.units.items k
      ≡ passed (inside (arc_of g k).from) (inside (arc_of g k).to) (units_at k)
  on_arc k = passed-is (inside (arc_of g k).from) (inside (arc_of g k).to) (units_at k)

  -- so the units gain nothing that comes to the nodes
  pub cut-gain : gained (one_where inside) g.arcs s.flow.units.items ≤ℤ pos 0
  cut-gain =
      gained-none_more (one_where inside) g.arcs s.flow.units.items
      (λ k within. let none = cut-arc k within in let is = on_arc k in omega (arith, ints, none.0, is))

  -- and no more than a full arc, or an empty one, leaves to them
  pub cut-arc_gain : (l : ℕ) → l < length g.arcs
      → gained (one_where inside) g.arcs s.flow.units.items
      ≤ℤ passed (inside (arc_of g l).from) (inside (arc_of g l).to) (room_at l)
  cut-arc_gain l within =
      let all =
      gained-one_more (one_where inside) g.arcs s.flow.units.items l sized.units within
      (λ k below apart. let none = cut-arc k below in let is = on_arc k in omega (arith, ints, none.0, is)) in
      let is = on_arc l in
      let here = cut-arc l within in
      omega (arith, ints, all, is, here.1)

  node_weight : (v : ℕ) → pos 0 ≤ℤ (one_where inside v *ℤ price_at s.surplus.items v)
  node_weight v = go (inside v) refl
    where
      go : (b : Bool) → inside v ≡ b → pos 0 ≤ℤ (cond b (pos 1) (pos 0) *ℤ price_at s.surplus.items v)
      go true e =
          let is = one_times (price_at s.surplus.items v) in
          elim (cases_z (price_at s.surplus.items v)) [
            | inl lacks ↦ absurd (stuck.cut.no_lack v (is_in-to nodes v e) lacks)
            | inr no_less ↦ omega (arith, ints, is)
          ]
      go false e = let is = none_times (price_at s.surplus.items v) in omega (arith, ints, is)

  -- more lies at the nodes than lacks
  pub cut-weighed : pos 0 <ℤ weighed (one_where inside) s.surplus.items
  cut-weighed =
      total-range_more (λ v. one_where inside v *ℤ price_at s.surplus.items v) 0 (length s.surplus.items) source
      (omega arith)
      source_within source_weight node_weight
    where
      source_within : source < 0 + length s.surplus.items
      source_within =
          elim (cases_lt source (length s.surplus.items)) [
            | inl within ↦ omega (arith, within)
            | inr past ↦
                let none = get_or_past s.surplus.items source (pos 0) past in
                let some = stuck.left in
                absurd (omega (arith, ints, none, some))
          ]

      source_weight : pos 0 <ℤ (one_where inside source *ℤ price_at s.surplus.items source)
      source_weight =
          let e = is_in-from nodes source stuck.cut.has_source in
          let is = ap (λ (b : Bool). cond b (pos 1) (pos 0) *ℤ price_at s.surplus.items source) e in
          let one = one_times (price_at s.surplus.items source) in
          let some = stuck.left in
          omega (arith, ints, is, one, some)
