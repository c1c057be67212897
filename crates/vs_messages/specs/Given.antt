-- The record of a number, and which records of a text were given.
use Rattle.std.specs.Prelude.{◌≡◌, ℕ, ◌+◌, ◌⊎◌, List, [], ◌∷◌, ◌++◌, length}
use Rattle.csv.specs.Records.{fields_of}
use Rattle.vs_reader.specs.declared.text_records.TextRecords.{TextRecords}
use Rattle.vs_reader.specs.Left.{AreLeft}
use Rattle.vs_reader.specs.Rows.{Row}

-- this is record `number` of the rows, counted from 1
pub record IsAt (rows : List Row) (number : ℕ) (row : Row) : Type 0 where
  pub before : List Row
  pub after : List Row
  pub parts : rows ≡ before ++ row ∷ after
  pub place : length before + 1 ≡ number

-- this is the last of the rows, where there is any
abbrev pub IsLast : List Row → Row → Type 0
IsLast rows row = (rows ≡ []) ⊎ ((before : List Row) × (rows ≡ before ++ row ∷ []))

-- so many of the rows were given, the last of them as the current record, and the others are left
pub record WasGiven (rows : List Row) (count : ℕ) (records : TextRecords) : Type 0 where
  pub given : List Row
  pub left : List Row
  pub parts : rows ≡ given ++ left
  pub so_many : length given ≡ count
  pub last : IsLast given (fields_of records.current)
  pub are_left : AreLeft records left
