use Rattle.std.proofs.Common.{rules, ◌≡◌, ◌+◌, ◌≤◌, List, [], ◌∷◌, length, sym, ap, ◌∙◌, subst, arith}
use Rattle.std.specs.Prelude.{Option}
use Rattle.atomic_table.specs.Table.{Me}
use Rattle.vs_turn.specs.declared.seat.View.{View}
use Rattle.vs_turn.specs.Calls.{calls_of}
use Rattle.vs_turn.specs.Seats.{seat_at}
use Rattle.vs_turn.specs.Steps.{joined}
use Rattle.vs_turn.specs.Tickets.{RiseFrom, merged_tickets}
use Rattle.vs_turn.proofs.AtRest.{at_rest, seen_seat, knows_calls}
use Rattle.vs_turn.proofs.MergedTickets.{length-merged}
use Rattle.vs_turn.proofs.MergedCalls.{length-merged_calls}
use Rattle.vs_turn.proofs.Joining.{joins, looks}
use Rattle.vs_turn.proofs.turn.Turn.join.Goals as goal
use Rattle.vs_turn.proofs.turn.Turn.join.Goals.{After-into_badge}

pub join_seat-requires : goal.join_seat-requires
join_seat-requires g c =
    let first = at_rest _ _ c.into_seat-place.result.me.0 c.a.invariant c.into_seat-place.ensures.2 in
    let second = at_rest _ _ c.into_seat.result.me.0 c.b.invariant c.into_seat.ensures.2 in (
      search rules,
      search rules,
      search rules,
      search rules,
      joins g.S.Kept.opening g.S.Kept.entries _ c.into_seat-place.result.id _ c.into_seat.result.id _ first.live
          first.rests second.live second.rests,
    )

pub load-requires : goal.load-requires
load-requires g c =
    let first = at_rest _ _ c.into_seat-place.result.me.0 c.a.invariant c.into_seat-place.ensures.2 in
    let is = ap (λ (m : Me (Option g.row.S.Denot) View). length m.0.tickets) c.join_seat.ensures.2 in
    let sum = length-merged c.into_seat-place.result.me.0.tickets c.into_seat.result.me.0.tickets in
    let some_ticket = first.live in (
      search rules,
      search rules,
      looks g.S.Kept.opening g.S.Kept.entries _ _ c.join_seat.new.seat.id c.join_seat.new.seat.me (omega arith),
    )

pub invariant_of-result : goal.invariant_of-result
invariant_of-result g c =
    let v = c.into_seat-place.result.me.0 in
    let w = c.into_seat.result.me.0 in
    let first = at_rest _ _ v c.a.invariant c.into_seat-place.ensures.2 in
    let second = at_rest _ _ w c.b.invariant c.into_seat.ensures.2 in
    let both = c.join_seat.ensures.2 in
    let numbers : merged_tickets v.tickets w.tickets ≡ c.merge.result =
    (λ i. merged_tickets (first.numbers i) (second.numbers i)) ∙ sym c.merge.ensures in
    let carried = ap (λ (m : Me (Option g.row.S.Denot) View). m.0.tickets) both ∙ numbers in
    let count = ap length carried in
    let sum = ap length (sym numbers) ∙ length-merged v.tickets w.tickets in
    let some_ticket = first.live in
    let learned = c.load.ensures.2.1 in
    let few = learned.few in
    record {
      view = joined v w;
      one = c.into_badge.ensures.2 ∙ ap (λ (m : Me (Option g.row.S.Denot) View). m.0 ∷ []) (c.load.ensures.2.0
          ∙ both);
      at_rest = first.rests;
      numbers = numbers;
      some_ticket = omega arith;
      rise = subst (RiseFrom 0) carried learned.rise;
      begun = subst (λ (m : Me (Option g.row.S.Denot) View). m.0.since ≤ length m.0.seen) both learned.begun;
      mine = subst (λ (m : Me (Option g.row.S.Denot) View). calls_of m.0.tickets m.0.since m.0.seen ≡ m.0.mine)
          both learned.mine;
      few = omega arith;
    }

pub returns-clause-tickets : goal.returns-clause-tickets
returns-clause-tickets g c =
    let v = c.into_seat-place.result.me.0 in
    let w = c.into_seat.result.me.0 in
    let first = seen_seat _ _ v _ c.into_seat-place.ensures.2 c.a.view_is in
    let second = seen_seat _ _ w _ c.into_seat.ensures.2 c.b.view_is in
    let one = c.into_badge.ensures.2 ∙ ap (λ (m : Me (Option g.row.S.Denot) View). m.0 ∷ []) (c.load.ensures.2.0
    ∙ c.join_seat.ensures.2) in
    ap (λ (views : List View). length (seat_at c.into_badge.result.table_id views).tickets) one
    ∙ (length-merged v.tickets w.tickets ∙ (λ i. length ((first i).tickets) + length ((second i).tickets)))

pub returns-clause-calls : goal.returns-clause-calls
returns-clause-calls g c =
    let v = c.into_seat-place.result.me.0 in
    let w = c.into_seat.result.me.0 in
    let first = seen_seat _ _ v _ c.into_seat-place.ensures.2 c.a.view_is in
    let second = seen_seat _ _ w _ c.into_seat.ensures.2 c.b.view_is in
    let one = c.into_badge.ensures.2 ∙ ap (λ (m : Me (Option g.row.S.Denot) View). m.0 ∷ []) (c.load.ensures.2.0
    ∙ c.join_seat.ensures.2) in
    ap (λ (views : List View). length (seat_at c.into_badge.result.table_id views).mine) one
    ∙ (length-merged_calls v.mine w.mine ∙ (λ i. length ((first i).mine) + length ((second i).mine)))

pub returns-clause-knows : goal.returns-clause-knows
returns-clause-knows g c = knows_calls _ _ _ (invariant_of-result g
    (goal.at.returns-clause-knows g c).After-into_badge)
