use Rattle.std.proofs.Common.{rules, ◌-◌, [], ◌∷◌, length, sym, ap, ◌∙◌, subst, arith, length-take, length-drop}
use Rattle.std.specs.Prelude.{Option}
use Rattle.atomic_table.specs.Table.{Me}
use Rattle.vs_turn.specs.declared.seat.View.{View}
use Rattle.vs_turn.specs.Seats.{SeatModel}
use Rattle.vs_turn.specs.Steps.{keeping, handed}
use Rattle.vs_turn.specs.Tickets.{RiseFrom, without_highest, only_highest}
use Rattle.vs_turn.proofs.AtRest.{at_rest, seen_seat, knows_calls}
use Rattle.vs_turn.proofs.TicketLists.{has_take, has_drop, rise_take, rise_drop}
use Rattle.vs_turn.proofs.CallLists.{fewer_calls_of}
use Rattle.vs_turn.proofs.Splitting.{splits}
use Rattle.vs_turn.proofs.turn.Turn.split.Goals as goal
use Rattle.vs_turn.proofs.turn.Turn.split.Goals.{After-into_badge-other_badge}

pub split_seat-other-requires : goal.split_seat-other-requires
split_seat-other-requires g c =
    let v = c.into_seat-place.result.me.0 in
    let one = c.into_seat-place.ensures.2 in
    let rest = at_rest _ _ v c.seat.invariant one in
    let seat = seen_seat _ _ v _ one c.seat.view_is in
    let two = ap (λ (s : SeatModel). length s.tickets) seat in (
      search rules,
      search rules,
      splits g.S.Kept.opening g.S.Kept.entries _ c.into_seat-place.result.id v (let r = c.requires.two in
          omega arith) rest.rests
          (ap (λ (s : SeatModel). s.mine) seat ∙ c.requires.none_made),
    )

pub invariant_of-first : goal.invariant_of-first
invariant_of-first g c =
    let v = c.into_seat-place.result.me.0 in
    let one = c.into_seat-place.ensures.2 in
    let rest = at_rest _ _ v c.seat.invariant one in
    let seat = seen_seat _ _ v _ one c.seat.view_is in
    let two = ap (λ (s : SeatModel). length s.tickets) seat in
    let two' = c.requires.two in
    let old = c.seat.inside.tickets in
    let kept = c.split_highest-highest.ensures.kept in
    let count = ap length kept ∙ length-take (length old - 1) old in
    let whole = ap length rest.numbers in
    let few = c.seat.invariant.few in
    let none_made = ap (λ (s : SeatModel). s.mine) seat ∙ c.requires.none_made in
    record {
      view = keeping v;
      one = c.into_badge-badge.ensures.2 ∙ ap (λ (m : Me (Option g.row.S.Denot) View). m.0 ∷ [])
          c.split_seat-other.ensures.2;
      at_rest = rest.rests;
      numbers = ap without_highest rest.numbers ∙ sym kept;
      some_ticket = omega arith;
      rise = subst (RiseFrom 0) (sym kept) (rise_take (length old - 1) 0 old c.seat.invariant.rise);
      few = omega arith;
      begun = rest.begun;
      mine = fewer_calls_of v.tickets _ v.since v.seen (λ t h. has_take (length v.tickets - 1) t v.tickets h)
          (rest.mine ∙ none_made) ∙ sym none_made;
    }

pub invariant_of-second : goal.invariant_of-second
invariant_of-second g c =
    let v = c.into_seat-place.result.me.0 in
    let one = c.into_seat-place.ensures.2 in
    let rest = at_rest _ _ v c.seat.invariant one in
    let seat = seen_seat _ _ v _ one c.seat.view_is in
    let none_made = ap (λ (s : SeatModel). s.mine) seat ∙ c.requires.none_made in
    let some_ticket = c.seat.invariant.some_ticket in
    let old = c.seat.inside.tickets in
    let highest = c.split_highest-highest.ensures.highest in
    let count = ap length highest ∙ length-drop (length old - 1) old in
    let few = c.seat.invariant.few in
    record {
      view = handed v;
      one = c.into_badge-other_badge.ensures.2 ∙ ap (λ (m : Me (Option g.row.S.Denot) View). m.0 ∷ [])
          c.split_seat-other.ensures.4;
      at_rest = rest.rests;
      numbers = ap only_highest rest.numbers ∙ sym highest;
      some_ticket = omega arith;
      rise = subst (RiseFrom 0) (sym highest) (rise_drop (length old - 1) 0 old c.seat.invariant.rise);
      few = omega arith;
      begun = rest.begun;
      mine = fewer_calls_of v.tickets _ v.since v.seen (λ t h. has_drop (length v.tickets - 1) t v.tickets h)
          (rest.mine ∙ none_made) ∙ sym none_made;
    }

pub returns-clause-knows : goal.returns-clause-knows
returns-clause-knows g c =
    let p = (goal.at.returns-clause-knows g c).After-into_badge-other_badge in
    (knows_calls _ _ _ (invariant_of-first g p), knows_calls _ _ _ (invariant_of-second g p))
