-- The rule that holds between any two atomic steps of a turn. Word 0 is 0 where the turn is free, and else 1 more than
-- the lowest ticket of the seat that has it. Slot 0 holds the value, and is at home wherever the turn is free.
use Rattle.std.specs.Prelude.{◌≡◌, ℕ, ◌+◌, ◌<◌, ◌≤◌, ◌^◌, true, List, [], ◌∷◌, ◌++◌, length, drop, slice_index, Option, Some}
use mathlib.Core.Option.{Option as Home, some}
use mathlib.Core.List.{IsPrefix}
use lib.ListN.{get_elem?}
use Rattle.atomic_table.specs.Table.{State}
use Rattle.vs_turn.specs.declared.seat.View.{View}
use Rattle.vs_turn.specs.Calls.{has_ticket, calls_of, NoCalls, AreMadeBelow}
use Rattle.vs_turn.specs.Tickets.{lowest, RiseFrom}

-- what a turn was made with
pub record Origin : Type 0 where
  pub opening : List ℕ
  pub since : ℕ
  pub seats : ℕ

abbrev pub origin : {S : Type 0} → (S → List ℕ) → (S → List (List ℕ)) → S → ℕ → Origin
origin opening_of entries_of value seats = record {
  opening = opening_of value;
  since = length (entries_of value);
  seats = seats;
}

-- each of these lists begins the entries
abbrev pub AllBegin : List (List (List ℕ)) → List (List ℕ) → Type 0
AllBegin [] entries = Unit {0}
AllBegin (old ∷ olds) entries = IsPrefix old entries × AllBegin olds entries

-- the number `id` is that of a seat with this view. A view without tickets is left where a seat was joined to another
pub record IsAt (views : List View) (id : ℕ) (v : View) : Type 0 where
  pub at : get_elem? views id ≡ some v
  pub live : 0 < length v.tickets

-- What holds of the seat `id`. `owner` says whose a ticket is, and `log` is the one history: the value's entries where
-- the turn is free, and those that it had when the turn was taken where it isn't
pub record Stands (o : Origin) (owner : ℕ → ℕ) (log : List (List ℕ)) (word id : ℕ) (v : View) : Type 0 where
  -- its tickets rise, are below the number of seats, and no other seat's
  pub rise : RiseFrom 0 v.tickets
  pub tickets : (t : ℕ) → has_ticket v.tickets t ≡ true → (t < o.seats) × (owner t ≡ id)
  -- it has the turn exactly where the word says so, and then knows what it found
  pub marked : v.has_turn ≡ true → word ≡ 1 + lowest v.tickets
  pub only_marked : word ≡ 1 + lowest v.tickets → v.has_turn ≡ true
  pub found : v.has_turn ≡ true → v.found ≡ log
  pub opening : v.opening ≡ o.opening
  pub since : v.since ≡ o.since
  pub begun : o.since ≤ length v.seen
  -- it knows its calls among the entries that it has seen
  pub mine : calls_of v.tickets o.since v.seen ≡ v.mine
  -- the history begins with these entries, and none of the rest is its call
  pub rest : List (List ℕ)
  pub begins : v.seen ++ rest ≡ log
  pub unmade : NoCalls v.tickets rest
  -- the lists that a join left with it begin what it has seen
  pub olds : AllBegin v.olds v.seen

-- the seat `id` has the turn
pub record Holder (views : List View) (id : ℕ) : Type 0 where
  pub view : View
  pub is_at : IsAt views id view
  pub has_turn : view.has_turn ≡ true

module _ {S : Type 0} (opening_of : S → List ℕ) (entries_of : S → List (List ℕ)) where
  -- the value is in the slot, with this opening and these entries
  pub record Rests (opening : List ℕ) (log : List (List ℕ)) (homes : List (Home (Option S))) : Type 0 where
    pub value : S
    pub at : get_elem? homes 0 ≡ some (some (Some value))
    pub opening_is : opening_of value ≡ opening
    pub entries_are : entries_of value ≡ log

  -- what holds of the word, the slot and all views
  pub record Ruled (o : Origin) (word : ℕ) (homes : List (Home (Option S))) (views : List View) : Type 0 where
    pub log : List (List ℕ)
    pub owner : ℕ → ℕ
    pub few : o.seats < 2 ^ 32
    pub in_range : word ≤ o.seats
    pub free : word ≡ 0 → Rests o.opening log homes
    pub holder : ℕ
    pub taken : 0 < word → Holder views holder
    pub stands : (id : ℕ) (v : View) → IsAt views id v → Stands o owner log word id v
    pub made : AreMadeBelow o.seats (drop o.since log)

  abbrev pub IsRuled : Origin → State (Option S) View → Type 0
  IsRuled o s = (length s.words ≡ 1) × Ruled o (slice_index s.words 0) s.homes s.views
