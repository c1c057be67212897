-- The bytes of a text, by the records that csv reads from them.
use Rattle.std.specs.Prelude.{◌≡◌, ℕ, Bool, true, false, List, [], ◌∷◌}
use Rattle.csv.specs.Machine.{step}
use Rattle.csv.specs.Reading.{AreRecords, default_config, strip_bom}
use Rattle.csv.specs.declared.parser.State.{State}
use Rattle.csv.specs.declared.parser.State.TheVariants as state
use Rattle.vs_instance.specs.Problem.{Problem}
use Rattle.vs_reader.specs.declared.refused.Refused.{Refused}
use Rattle.vs_reader.specs.Rows.{Row}
use Rattle.vs_reader.specs.Names.{NameLists}
use Rattle.vs_reader.specs.InstanceText.{InstanceText}
use Rattle.vs_reader.specs.Refusals.{IsRefusal}

-- the rows are all records of the bytes, with csv's default quote, delimiter and line ends; none of them is a header,
-- each may have another
-- number of fields, and no field is trimmed
abbrev pub HasRows : List ℕ → List Row → Type 0
HasRows bytes rows = AreRecords default_config state.StartRecord (strip_bom bytes) rows

-- the bytes stand for an instance with its names, and for the rows from the first `result` record on, before which
-- there are so many
pub record StandsFor (bytes : List ℕ) (p : Problem) (names : NameLists) (before : ℕ) (rest : List Row) : Type 0 where
  pub rows : List Row
  pub has_rows : HasRows bytes rows
  pub text : InstanceText rows p names before rest

-- the bytes stand for an instance with its names, whatever stands behind
abbrev pub StandsForInstance : List ℕ → Problem → NameLists → Type 0
StandsForInstance bytes p names = (before : ℕ) × (rest : List Row) × StandsFor bytes p names before rest

-- the bytes stand for no instance, and are refused so
pub record IsRefused (bytes : List ℕ) (refused : Refused) : Type 0 where
  pub rows : List Row
  pub has_rows : HasRows bytes rows
  pub refusal : IsRefusal rows refused

-- the state of csv's machine after these bytes
abbrev pub state_after : State → List ℕ → State
state_after s [] = s
state_after s (b ∷ bytes) = state_after (step default_config s b).0 bytes

-- in these states no record is begun
abbrev pub is_between : State → Bool
is_between state.StartRecord = true
is_between state.AfterCr = true
is_between _ = false

-- the bytes end outside every record: a line end outside quotes has ended the last one
abbrev pub EndsInLine : List ℕ → Type 0
EndsInLine bytes = is_between (state_after state.StartRecord (strip_bom bytes)) ≡ true
