-- The free leaves of a tree in the order in which they are taken.
use Rattle.std.specs.Prelude.{◌≡◌, ◌⊎◌, ℕ, ◌+◌, ◌*◌, ◌<◌, ◌≤◌, List, length, set, slice_index_or, Option, Some, None}
use Rattle.vs_prices.specs.Bounds.{IsNoLess}
use Rattle.vs_prices.specs.declared.bound.Bound.{Bound}
use Rattle.vs_tree.specs.declared.entry.Entry.{Entry}

-- of each spot its entry, none where it isn't a free leaf
abbrev pub Entries : Type 0
Entries = List (Option Entry)

abbrev pub entry_at : Entries → ℕ → Option Entry
entry_at entries v = slice_index_or entries v None

-- spot `lower` and the next are free leaves of these worths
abbrev pub with_parts : Entries → ℕ → Bound → Bound → Entries
with_parts entries lower lower_worth upper_worth =
    set (set entries lower (Some (record { worth = lower_worth; leaf = lower }))) (lower + 1)
    (Some (record { worth = upper_worth; leaf = lower + 1 }))

-- no leaf is free
abbrev pub IsEmpty : Entries → Type 0
IsEmpty entries = (v : ℕ) → entry_at entries v ≡ None

-- of two entries the first is taken no later than the second: the lesser worth first, and then the lower number; where
-- there is none, last
abbrev pub IsNotAfter : Option Entry → Option Entry → Type 0
IsNotAfter None None = Unit {0}
IsNotAfter (Some a) None = Unit {0}
IsNotAfter None (Some b) = ⊥
IsNotAfter (Some a) (Some b) = IsNoLess b.worth a.worth × (IsNoLess a.worth b.worth → a.leaf ≤ b.leaf)

-- the entry stands among the others, and none is taken before it
pub record IsFirst (entries : Entries) (entry : Entry) : Type 0 where
  pub spot : ℕ
  pub stands : entry_at entries spot ≡ Some entry
  pub least : (w : ℕ) (other : Entry) → entry_at entries w ≡ Some other → IsNotAfter (Some entry) (Some other)

-- one of two entries, taken no later than either
pub record IsFirstOf (entry left right : Option Entry) : Type 0 where
  pub one : (entry ≡ left) ⊎ (entry ≡ right)
  pub before_left : IsNotAfter entry left
  pub before_right : IsNotAfter entry right

-- the entry at a place is the first of the two at the places below it
abbrev pub IsPlayed : Entries → ℕ → Type 0
IsPlayed entries k = IsFirstOf (entry_at entries k) (entry_at entries (2 * k)) (entry_at entries (2 * k + 1))

-- The entries of so many spots stand behind the inner places, the first of which is place 1.
pub record IsTournament (count : ℕ) (entries : Entries) : Type 0 where
  pub some : 0 < count
  pub size : length entries ≡ 2 * count
  pub played : (k : ℕ) → 0 < k → k < count → IsPlayed entries k
