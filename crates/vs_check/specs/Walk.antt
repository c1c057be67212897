-- How a tree is gone over row by row: where each trip may be run at the row at hand, and at the parts to come.
use Rattle.std.specs.Prelude.{◌≡◌, ◌⊎◌, ℕ, true, false, List, [], ◌∷◌, ◌++◌, reverse, MatchBool, Option, Some, None, slice_get}
use Rattle.vs_types.specs.declared.layer_set.LayerSet.{LayerSet}
use Rattle.vs_types.specs.declared.numbers.TripNo.{TripNo}
use Rattle.vs_instance.specs.Firsts.{first, when}
use Rattle.vs_instance.specs.Problem.{Problem}
use Rattle.vs_instance.specs.Restriction.{set_of}
use Rattle.vs_prices.specs.Tree.{right_of, with_set}
use Rattle.vs_rows.specs.declared.document.Document.{Document}
use Rattle.vs_rows.specs.declared.document.Shape.{Shape}
use Rattle.vs_rows.specs.declared.document.Shape.TheVariants.{Split, Leaf}
use Rattle.vs_check.specs.Flaws.{named_flaws}
use Rattle.vs_types.specs.Parts.{is_proper_part}
use Rattle.vs_check.specs.declared.flaw.Flaw.{Flaw}
use Rattle.vs_check.specs.declared.flaw.Flaw.TheVariants.{BadSplit}
use Rattle.vs_check.specs.declared.walk.Change.{Change}
use Rattle.vs_check.specs.declared.walk.Walk.{Walk}

-- the restrictions of the parts that these changes lead to, one after the other, from this restriction on
abbrev pub sets_along : List LayerSet → List Change → List (List LayerSet)
sets_along sets [] = []
sets_along sets (change ∷ changes) =
    when change.begins_part (with_set sets change.trip change.layers)
    ++ sets_along (with_set sets change.trip change.layers) changes

-- those of the parts that come behind the one at hand
abbrev pub sets_ahead : Walk → List (List LayerSet)
sets_ahead walk = sets_along walk.sets.items (reverse walk.ahead.items)

-- what a split puts ahead: its end, where its trip gets its layers of before, and first of all its right part
abbrev pub end_of : TripNo → LayerSet → Change
end_of trip whole = record { trip = trip; layers = whole; begins_part = false }

abbrev pub right_part : TripNo → LayerSet → Change
right_part trip right = record { trip = trip; layers = right; begins_part = true }

-- this change comes first of all that is ahead
pub record HasAhead (change : Change) (old new : Walk) : Type 0 where
  pub sets : new.sets ≡ old.sets
  pub ahead : new.ahead.items ≡ old.ahead.items ++ change ∷ []

-- the left part of a split is at hand, and its right part comes next
pub record IsOnLeft (trip : TripNo) (left : LayerSet) (old new : Walk) : Type 0 where
  pub sets : new.sets.items ≡ with_set old.sets.items trip left
  pub ahead : sets_ahead new ≡ with_set old.sets.items trip (right_of old.sets.items trip left) ∷ sets_ahead old

-- the part at hand is behind, and the first of those to come is at hand, where there is one
abbrev pub IsBehindPart : Walk → Walk → Type 0
IsBehindPart old new = (sets_ahead old ≡ []) ⊎ (sets_ahead old ≡ new.sets.items ∷ sets_ahead new)

-- the flaw of the row at a position, and where its flaw is none, what is at hand behind it
abbrev pub GoesOver : Problem → Document → ℕ → Shape → Walk → Walk → Option Flaw → Type 0
GoesOver p d position (Leaf table) old new flaw =
    (flaw ≡ first (named_flaws p d.bound position old.sets.items (slice_get d.tables.items table)))
    × IsBehindPart old new
GoesOver p d position (Split trip left) old new flaw =
    MatchBool (is_proper_part left (set_of old.sets.items trip.0)) ((flaw ≡ None) × IsOnLeft trip left old new)
    (flaw ≡ Some (BadSplit position))
