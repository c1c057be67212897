-- Which rows are told in words, and how the words begin.
use Rattle.std.specs.Prelude.{◌≡◌, ℕ, Bool, List, [], ◌++◌, Option, Some, None, codes, option_map, if◌then◌else◌, not, ◌&&◌}
use Rattle.std.specs.Str.{bytes_eq}
use Rattle.std.specs.Str.Lossy.{utf8_lossy}
use Rattle.csv.specs.Machine.{next_record}
use Rattle.csv.specs.Reading.{default_config, strip_bom}
use Rattle.csv.specs.declared.parser.State.TheVariants as state
use Rattle.vs_reader.specs.Rows.{Row, field_of}

abbrev pub fields_or_none : Option Row → Row
fields_or_none None = []
fields_or_none (Some row) = row

-- the fields of a text's first record; none where it has no record
abbrev pub first_row : List ℕ → Row
first_row text = fields_or_none
    (option_map (λ p. p.0) (next_record default_config state.StartRecord [] [] (strip_bom text)))

-- a row of a refusal
abbrev pub is_refusal : Row → Bool
is_refusal row = bytes_eq (field_of row 0) (codes "refused")

-- a row that says that a document doesn't hold
abbrev pub is_flaw : Row → Bool
is_flaw row = bytes_eq (field_of row 0) (codes "no")

-- where a refusal names a record, the words for it
abbrev pub place_of : Row → List ℕ
place_of row = if is_refusal row && not (bytes_eq (field_of row 1) (codes "0"))
    then codes "record " ++ utf8_lossy (field_of row 1) ++ codes ": "
    else []

-- some bytes begin with these
abbrev pub BeginWith : List ℕ → List ℕ → Type 0
BeginWith first bytes = (rest : List ℕ) × (bytes ≡ first ++ rest)
