use Rattle.std.proofs.Common.{◌≡◌, [], ◌∷◌, refl, sym, ap, ◌∙◌, subst}
use Rattle.std.specs.Prelude.{Option}
use Rattle.atomic_table.specs.Table.{Me}
use Rattle.vs_turn.specs.declared.seat.View.{View}
use Rattle.vs_turn.specs.Calls.{GoOn}
use Rattle.vs_turn.specs.Seats.{HeldModel, seat_at, released_seat}
use Rattle.vs_turn.specs.Steps.{released, HasPutBack}
use Rattle.vs_turn.proofs.Freeing.{seat_released}
use Rattle.vs_turn.proofs.held.Held.release.Goals as goal

pub free-requires-clause-back : goal.free-requires-clause-back
free-requires-clause-back g c =
    let open' = g.S.Kept.opening in
    let entries = g.S.Kept.entries in
    let view = sym c.self.view_is in
    subst (HasPutBack open' entries) (sym c.put_in.ensures.slot) record {
      value = c.self.inside.value;
      slot = refl;
      opening = subst (λ (h : HeldModel g.row.S.Denot). open' h.value ≡ h.seat.opening) view c.requires.opening;
      entries = subst (λ (h : HeldModel g.row.S.Denot). GoOn h.seat.tickets h.found (entries h.value))
          view c.requires.entries;
    }

pub returns-clause-seat : goal.returns-clause-seat
returns-clause-seat g c =
    let entries = g.S.Kept.entries in
    let held = c.self.inside in
    let v = held.place.me.0 in
    let inv = c.self.invariant in
    let back = c.put_in.ensures.slot in
    let freed = c.free.ensures.freed held.value (ap (λ (m : Me (Option g.row.S.Denot) View). m.1) back) in
    let views = c.into_badge-badge.ensures.2
    ∙ (ap (λ (m : Me (Option g.row.S.Denot) View). m.0 ∷ []) freed
    ∙ ap (λ (m : Me (Option g.row.S.Denot) View). released m.0 (entries held.value) ∷ []) back) in
    let name = c.into_badge-badge.ensures.0 ∙ (c.free.ensures.table ∙ c.put_in.ensures.table) in
    let on = subst (λ (h : HeldModel g.row.S.Denot). GoOn h.seat.tickets h.found (entries h.value))
    (sym c.self.view_is) c.requires.entries in
    (λ i. seat_at (name i) (views i))
    ∙ (seat_released held.place.table_id v (entries held.value) inv.begun inv.mine on
    ∙ ap (λ (h : HeldModel g.row.S.Denot). released_seat h.seat h.found (entries h.value)) c.self.view_is)
