-- What contracts see of a turn, of a seat, and of a seat that has the turn.
use Rattle.std.specs.Prelude.{◌≡◌, ℕ, ◌<◌, ◌≤◌, ◌^◌, true, false, List, [], ◌∷◌, ◌++◌, length, None, Option}
use Rattle.atomic_table.specs.Seated.{TableId}
use Rattle.atomic_table.specs.Table.{Me}
use Rattle.vs_turn.specs.declared.seat.View.{View}
use Rattle.vs_turn.specs.Calls.{calls_of, new_calls, merged_calls, longer}
use Rattle.vs_turn.specs.Tickets.{all_tickets, merged_tickets, RiseFrom}

-- a turn: its name, which no other turn has; of the value that it was made with, the opening and the number of
-- entries; and for how many seats it was made
pub record TurnModel : Type 0 where
  pub name : TableId
  pub opening : List ℕ
  pub since : ℕ
  pub seats : ℕ

-- a seat: the name of its turn; the opening of the value, and how many entries that had when the turn was made; the
-- seat's tickets; the entries that it has seen; and those of them that it made, with their positions
pub record SeatModel : Type 0 where
  pub turn : TableId
  pub opening : List ℕ
  pub since : ℕ
  pub tickets : List ℕ
  pub seen : List (List ℕ)
  pub mine : List (ℕ × List ℕ)

-- a seat that has the turn, with the entries that it found, and the value
pub record HeldModel (S : Type 0) : Type 0 where
  pub seat : SeatModel
  pub found : List (List ℕ)
  pub value : S

-- the turn was made with a value of this opening and these entries, for so many seats
pub record IsMadeWith (opening : List ℕ) (entries : List (List ℕ)) (seats : ℕ) (t : TurnModel) : Type 0 where
  pub opening_is : t.opening ≡ opening
  pub since_is : t.since ≡ length entries
  pub seats_are : t.seats ≡ seats

-- the seat that a turn is made with
abbrev pub first_seat : TableId → List ℕ → List (List ℕ) → ℕ → SeatModel
first_seat z opening entries seats = record {
  turn = z;
  opening = opening;
  since = length entries;
  tickets = all_tickets seats;
  seen = entries;
  mine = [];
}

-- a seat of this turn with these tickets, which has made no entry
pub record IsNew (turn : TableId) (tickets : List ℕ) (seat : SeatModel) : Type 0 where
  pub of_turn : seat.turn ≡ turn
  pub tickets_are : seat.tickets ≡ tickets
  pub none_made : seat.mine ≡ []

-- the seat with these tickets instead of its own
abbrev pub with_tickets : SeatModel → List ℕ → SeatModel
with_tickets seat tickets = record seat { tickets = tickets }

-- the seat after a release: it has seen these entries, and those after the ones that it found are its calls
abbrev pub released_seat : SeatModel → List (List ℕ) → List (List ℕ) → SeatModel
released_seat seat found entries = record seat {
  seen = entries;
  mine = seat.mine ++ new_calls found entries;
}

-- both seats in one
abbrev pub both_seats : SeatModel → SeatModel → SeatModel
both_seats a b = record a {
  tickets = merged_tickets a.tickets b.tickets;
  seen = longer a.seen b.seen;
  mine = merged_calls a.mine b.mine;
}

-- the seat's calls among the entries that it has seen are those that it made
pub record KnowsCalls (seat : SeatModel) : Type 0 where
  pub begun : seat.since ≤ length seat.seen
  pub calls : calls_of seat.tickets seat.since seat.seen ≡ seat.mine

-- what `Held::value` lends is written back
abbrev pub with_value : {S : Type 0} → HeldModel S → S → HeldModel S
with_value held value = record held { value = value }

-- the turn of this name, made with this value for so many seats
abbrev pub turn_over : {S : Type 0} → (S → List ℕ) → (S → List (List ℕ)) → TableId → S → ℕ → TurnModel
turn_over opening_of entries_of z value seats = record {
  name = z;
  opening = opening_of value;
  since = length (entries_of value);
  seats = seats;
}

-- a seat, by the name of its turn and what the table knows of it
abbrev pub seat_of : TableId → View → SeatModel
seat_of z v = record {
  turn = z;
  opening = v.opening;
  since = v.since;
  tickets = v.tickets;
  seen = v.seen;
  mine = v.mine;
}

abbrev pub seat_at : TableId → List View → SeatModel
seat_at z [] = record { turn = z; opening = []; since = 0; tickets = []; seen = []; mine = [] }
seat_at z (v ∷ vs) = seat_of z v

-- a seat that has the turn, by the name of the turn and what the table knows of it
abbrev pub held_of : {S : Type 0} → TableId → View → S → HeldModel S
held_of z v value = record { seat = seat_of z v; found = v.found; value = value }

-- the table knows one view of a seat, which doesn't have the turn, and the seat carries its tickets
pub record IsSeat (views : List View) (tickets : List ℕ) : Type 0 where
  pub view : View
  pub one : views ≡ view ∷ []
  pub at_rest : view.has_turn ≡ false
  pub numbers : view.tickets ≡ tickets
  pub some_ticket : 0 < length tickets
  pub rise : RiseFrom 0 tickets
  pub few : length tickets < 2 ^ 32
  pub begun : view.since ≤ length view.seen
  pub mine : calls_of view.tickets view.since view.seen ≡ view.mine

-- the seat of a `Held` has the turn and the slot, from which the value is out, and knows what it found
pub record IsHeld {S : Type 0} (turn table : TableId) (me : Me (Option S) View) (tickets : List ℕ) : Type 0 where
  pub of_turn : table ≡ turn
  pub slot : me.1 ≡ (0, None) ∷ []
  pub has_turn : me.0.has_turn ≡ true
  pub numbers : me.0.tickets ≡ tickets
  pub some_ticket : 0 < length tickets
  pub rise : RiseFrom 0 tickets
  pub few : length tickets < 2 ^ 32
  pub begun : me.0.since ≤ length me.0.found
  pub mine : calls_of me.0.tickets me.0.since me.0.found ≡ me.0.mine
