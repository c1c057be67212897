-- What each atomic step makes of its seat's view, and what it tells.
use Rattle.std.specs.Prelude.{◌≡◌, ◌≢◌, ℕ, ◌^◌, ◌<◌, ◌≤◌, true, false, List, [], ◌∷◌, drop, length, Option, Some}
use Rattle.atomic_table.specs.Table.{Me, Step}
use mathlib.Core.List.{IsPrefix}
use Rattle.vs_turn.specs.declared.seat.View.{View}
use Rattle.vs_turn.specs.Calls.{calls_of, NoCalls, GoOn, merged_calls, longer}
use Rattle.vs_turn.specs.Tickets.{all_tickets, without_highest, only_highest, merged_tickets, RiseFrom}
use Rattle.vs_turn.specs.Rule.{AllBegin}

-- the first seat: it has all tickets, has seen what the value brought along, and made none of it
abbrev pub first_view : List ℕ → List (List ℕ) → ℕ → View
first_view opening entries seats = record {
  opening = opening;
  since = length entries;
  tickets = all_tickets seats;
  seen = entries;
  mine = [];
  has_turn = false;
  found = [];
  olds = [];
}

-- the seat has the turn, and found these entries
abbrev pub holding : View → List (List ℕ) → View
holding v entries = record v { has_turn = true; found = entries }

-- the seat has given up the turn, and has seen these entries
abbrev pub released : View → List (List ℕ) → View
released v entries = record v {
  seen = entries;
  mine = calls_of v.tickets v.since entries;
  has_turn = false;
  found = [];
  olds = [];
}

-- a split hands on the highest ticket
abbrev pub keeping : View → View
keeping v = record v { tickets = without_highest v.tickets }

abbrev pub handed : View → View
handed v = record v { tickets = only_highest v.tickets }

-- a join adds up tickets and calls, and keeps both lists that were seen beside the longer
abbrev pub joined : View → View → View
joined v w = record v {
  tickets = merged_tickets v.tickets w.tickets;
  seen = longer v.seen w.seen;
  mine = merged_calls v.mine w.mine;
  olds = v.seen ∷ w.seen ∷ [];
}

-- a view whose seat is gone
abbrev pub spent : View
spent = record {
  opening = [];
  since = 0;
  tickets = [];
  seen = [];
  mine = [];
  has_turn = false;
  found = [];
  olds = [];
}

-- what a look tells of a view: its tickets rise and are few, it knows its calls, and the lists that a join left begin
-- what it has seen
pub record Learned (v : View) : Type 0 where
  pub rise : RiseFrom 0 v.tickets
  pub few : length v.tickets < 2 ^ 32
  pub begun : v.since ≤ length v.seen
  pub mine : calls_of v.tickets v.since v.seen ≡ v.mine
  pub olds : AllBegin v.olds v.seen

-- a look leaves the view as it was
abbrev pub Looked : {S : Type 0} → Step (Option S) → Me (Option S) View → ℕ → Me (Option S) View → Type 0
Looked st me found after = (after ≡ me) × Learned me.0

module _ {S : Type 0} (opening_of : S → List ℕ) (entries_of : S → List (List ℕ)) where
  -- the value as a seat finds it: it has the seat's opening, and its entries begin with what the seat has seen and hold
  -- no call of the seat but those that it knows
  pub record Finds (v : View) (value : S) : Type 0 where
    pub opening : opening_of value ≡ v.opening
    pub begun : v.since ≤ length (entries_of value)
    pub begins : IsPrefix v.seen (entries_of value)
    pub unmade : NoCalls v.tickets (drop (length v.seen) (entries_of value))
    pub mine : calls_of v.tickets v.since (entries_of value) ≡ v.mine

  -- the seat takes the turn, and the slot with the value in it
  pub record Takes (me : Me (Option S) View) (after : Me (Option S) View) : Type 0 where
    pub value : S
    pub finds : Finds me.0 value
    pub after_is : after ≡ (holding me.0 (entries_of value), (0, Some value) ∷ me.1)

  -- the turn was free and is taken, or the seat is as before
  abbrev pub Took : Step (Option S) → Me (Option S) View → ℕ → Me (Option S) View → Type 0
  Took st me found after =
      (found ≡ 0 → Takes me after)
      × (found ≢ 0 → (after ≡ me) × (found < 2 ^ 32))

  -- the seat has put a value into the slot that it has: the opening is its own, and the entries went on by its calls
  pub record HasPutBack (me : Me (Option S) View) : Type 0 where
    pub value : S
    pub slot : me.1 ≡ (0, Some value) ∷ []
    pub opening : opening_of value ≡ me.0.opening
    pub entries : GoOn me.0.tickets me.0.found (entries_of value)

module _ {S : Type 0} (entries_of : S → List (List ℕ)) where
  -- the seat has given up the turn and the slot, and seen the entries of the value in it
  abbrev pub IsFreed : Me (Option S) View → Me (Option S) View → Type 0
  IsFreed me after =
      (value : S) → me.1 ≡ (0, Some value) ∷ [] → after ≡ (released me.0 (entries_of value), [])

  -- the turn is given up
  abbrev pub Freed : Step (Option S) → Me (Option S) View → ℕ → Me (Option S) View → Type 0
  Freed st me stored after = IsFreed me after
