use Rattle.std.proofs.Common.{◌≡◌, length, sym, ap, ◌∙◌}
use mathlib.Core.Option.{some-injective}
use Rattle.std.specs.Prelude.{Some, None}
use Rattle.std.specs.Slots.{slots_items}
use Rattle.vs_turn.specs.Rule.{Origin}
use Rattle.vs_turn.specs.Seats.{SeatModel, TurnModel}
use Rattle.vs_turn.proofs.AtRest.{at_rest, seen_seat}
use Rattle.vs_turn.proofs.Closing.{Ends, closes}
use Rattle.vs_turn.proofs.turn.Turn.close.Given.{Over}
use Rattle.vs_turn.proofs.turn.Turn.close.Goals as goal
use Rattle.vs_turn.proofs.turn.Turn.close.Goals.{After-free}

abbrev made_with : (g : Over) → After-free g → Origin
made_with g c = let key = c.self.inside.table.shared.key in
    record {
      opening = g.S.Kept.opening key.value.value;
      since = length (g.S.Kept.entries key.value.value);
      seats =
          key.seats;
    }

-- what the turn comes to
last : (g : Over) (c : After-free g)
    → Ends g.S.Kept.opening g.S.Kept.entries (made_with g c) c.into_seat.result.me.0
    (slots_items c.close_with-closed.result.slots)
last g c =
    let v = c.into_seat.result.me.0 in
    let one = c.into_seat.ensures.2 in
    let rest = at_rest _ _ v c.seat.invariant one in
    let seat = seen_seat _ _ v _ one c.seat.view_is in
    closes g.S.Kept.opening g.S.Kept.entries (made_with g c) c.into_seat.result.id v _ _ rest.live rest.rests
    (ap (λ (s : SeatModel). length s.tickets) seat ∙ (c.requires.all
    ∙ sym (ap (λ (t : TurnModel). t.seats) c.self.view_is)))
    c.close_with-closed.ensures.values.2

pub unreachable-requires : goal.unreachable-requires
unreachable-requires g c =
    let e = last g (goal.at.unreachable-requires g c).After-free in
    let bad : Some e.value ≡ None = some-injective _ _ (sym e.at ∙ c.take-slot.ensures.value) ∙ c.in-None.is in
    cc

pub returns-clause-opening : goal.returns-clause-opening
returns-clause-opening g c =
    let e = last g (goal.at.returns-clause-opening g c).After-free in
    let is : Some e.value ≡ Some c.in-Some.value = some-injective _ _ (sym e.at ∙ c.take-slot.ensures.value)
    ∙ c.in-Some.is in
    let same : e.value ≡ c.in-Some.value = cc is in
    ap g.S.Kept.opening (sym same) ∙ (e.made_with ∙ ap (λ (t : TurnModel). t.opening) c.self.view_is)

pub returns-clause-seen : goal.returns-clause-seen
returns-clause-seen g c =
    let e = last g (goal.at.returns-clause-seen g c).After-free in
    let is : Some e.value ≡ Some c.in-Some.value = some-injective _ _ (sym e.at ∙ c.take-slot.ensures.value)
    ∙ c.in-Some.is in
    let same : e.value ≡ c.in-Some.value = cc is in
    let seat = seen_seat _ _ c.into_seat.result.me.0 _ c.into_seat.ensures.2 c.seat.view_is in
    ap g.S.Kept.opening (sym same) ∙ (e.opening ∙ ap (λ (s : SeatModel). s.opening) seat)

pub returns-clause-entries : goal.returns-clause-entries
returns-clause-entries g c =
    let e = last g (goal.at.returns-clause-entries g c).After-free in
    let is : Some e.value ≡ Some c.in-Some.value = some-injective _ _ (sym e.at ∙ c.take-slot.ensures.value)
    ∙ c.in-Some.is in
    let same : e.value ≡ c.in-Some.value = cc is in
    let seat = seen_seat _ _ c.into_seat.result.me.0 _ c.into_seat.ensures.2 c.seat.view_is in
    ap g.S.Kept.entries (sym same) ∙ (e.entries ∙ ap (λ (s : SeatModel). s.seen) seat)
