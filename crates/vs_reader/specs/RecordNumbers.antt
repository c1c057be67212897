-- The numbers of the records that declare deadheads, layers and trips.
use Rattle.std.specs.Prelude.{◌≡◌, ℕ, Bool, if◌then◌else◌, List, [], ◌∷◌, ◌++◌, Option}
use Rattle.vs_reader.specs.declared.kind.Kind.{Kind}
use Rattle.vs_reader.specs.declared.record_numbers.RecordNumbers.{RecordNumbers}
use Rattle.vs_reader.specs.Rows.{Row, field_of}
use Rattle.vs_reader.specs.Kinds.{kind_of}
use Rattle.vs_reader.specs.Refusals.{numbers_of, is_layer, is_deadhead, is_trip}

-- they are the numbers of those of these records that declare deadheads, layers and trips
pub record HasNumbers (numbers : RecordNumbers) (records : List Row) : Type 0 where
  pub deadheads : numbers.deadheads.items ≡ numbers_of is_deadhead records
  pub layers : numbers.layers.items ≡ numbers_of is_layer records
  pub trips : numbers.trips.items ≡ numbers_of is_trip records

-- one more deadhead, layer or trip has this number
pub record NumbersDeadhead (number : ℕ) (old new : RecordNumbers) : Type 0 where
  pub deadheads : new.deadheads.items ≡ old.deadheads.items ++ number ∷ []
  pub layers : new.layers.items ≡ old.layers.items
  pub trips : new.trips.items ≡ old.trips.items

pub record NumbersLayer (number : ℕ) (old new : RecordNumbers) : Type 0 where
  pub deadheads : new.deadheads.items ≡ old.deadheads.items
  pub layers : new.layers.items ≡ old.layers.items ++ number ∷ []
  pub trips : new.trips.items ≡ old.trips.items

pub record NumbersTrip (number : ℕ) (old new : RecordNumbers) : Type 0 where
  pub deadheads : new.deadheads.items ≡ old.deadheads.items
  pub layers : new.layers.items ≡ old.layers.items
  pub trips : new.trips.items ≡ old.trips.items ++ number ∷ []

-- a number is added to these where the record is of the kind
abbrev pub with_number : (Option Kind → Bool) → ℕ → Row → List ℕ → List ℕ
with_number is_of number row numbers = if is_of (kind_of (field_of row 0)) then numbers ++ number ∷ [] else numbers
