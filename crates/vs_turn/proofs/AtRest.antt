-- What a seat that isn't held knows of its view.
use Rattle.std.proofs.Common.{◌≡◌, ℕ, ◌<◌, ◌≤◌, false, List, [], ◌∷◌, length, sym, ap, ◌∙◌, subst, arith}
use Rattle.atomic_table.specs.Seated.{TableId}
use Rattle.vs_turn.specs.declared.seat.View.{View}
use Rattle.vs_turn.specs.Calls.{calls_of}
use Rattle.vs_turn.specs.Seats.{SeatModel, IsSeat, KnowsCalls, seat_at, seat_of}

-- a view that hasn't the turn, with these tickets
pub record AtRest (v : View) (tickets : List ℕ) : Type 0 where
  pub rests : v.has_turn ≡ false
  pub numbers : v.tickets ≡ tickets
  pub live : 0 < length v.tickets
  pub begun : v.since ≤ length v.seen
  pub mine : calls_of v.tickets v.since v.seen ≡ v.mine

abbrev first_or : View → List View → View
first_or d [] = d
first_or d (v ∷ vs) = v

-- the view of a seat that isn't held
pub at_rest : (views : List View) (tickets : List ℕ) (v : View) → IsSeat views tickets → views ≡ v ∷ []
    → AtRest v tickets
at_rest views tickets v s e =
    let same : s.view ≡ v = ap (first_or v) (sym s.one ∙ e) in
    let numbers : v.tickets ≡ tickets = ap (λ (u : View). u.tickets) (sym same) ∙ s.numbers in
    record {
      rests = ap (λ (u : View). u.has_turn) (sym same) ∙ s.at_rest;
      numbers = numbers;
      live = let l = ap length numbers in let some_ticket = s.some_ticket in omega arith;
      begun = subst (λ (u : View). u.since ≤ length u.seen) same s.begun;
      mine = subst (λ (u : View). calls_of u.tickets u.since u.seen ≡ u.mine) same s.mine;
    }

-- the seat that contracts see is its view's
pub seen_seat : (z : TableId) (views : List View) (v : View) (seat : SeatModel) → views ≡ v ∷ []
    → seat_at z views ≡ seat → seat_of z v ≡ seat
seen_seat z views v seat e is = ap (seat_at z) (sym e) ∙ is

-- a seat knows its calls
pub knows_calls : (z : TableId) (views : List View) (tickets : List ℕ) → IsSeat views tickets
    → KnowsCalls (seat_at z views)
knows_calls z views tickets s = subst (λ vs. KnowsCalls (seat_at z vs)) (sym s.one) record {
  begun = s.begun;
  calls = s.mine;
}
