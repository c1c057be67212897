-- A text as rows of fields, and rows as lines.
use Rattle.std.specs.Prelude.{◌≢◌, ℕ, ◌<◌, ◌^◌, length, List, [], ◌∷◌, ◌++◌, flat_map, All, slice_index_or}
use Rattle.std.specs.List.{join_with_byte}

-- bytes that stand together, as a name or a number, and the fields of one row
abbrev pub Field : Type 0
Field = List ℕ

abbrev pub Row : Type 0
Row = List Field

-- field k of a row
abbrev pub field_of : Row → ℕ → Field
field_of row k = slice_index_or row k []

-- row k
abbrev pub row_of : List Row → ℕ → Row
row_of rows k = slice_index_or rows k []

-- the fields of all rows
abbrev pub all_fields : List Row → List Field
all_fields rows = flat_map (λ row. row) rows

-- 32 bits count the records before some rows, these rows, and their fields
pub record AreCounted (before : ℕ) (rows : List Row) : Type 0 where
  pub few_before : before < 2 ^ 32
  pub few_rows : length rows < 2 ^ 32
  pub few_fields : length (all_fields rows) < 2 ^ 32

-- the fields with commas between them
abbrev pub fields : Row → List ℕ
fields row = join_with_byte 44 row

-- the fields behind the first, each with a comma before it
abbrev pub more_fields : List Field → List ℕ
more_fields more = flat_map (λ field. 44 ∷ field) more

-- the fields with commas between them, and a line feed
abbrev pub line : Row → List ℕ
line row = join_with_byte 44 row ++ 10 ∷ []

abbrev pub lines : List Row → List ℕ
lines rows = flat_map line rows

-- no line feed, carriage return, quote or comma
pub record IsPlain (byte : ℕ) : Type 0 where
  pub no_line_feed : byte ≢ 10
  pub no_carriage_return : byte ≢ 13
  pub no_quote : byte ≢ 34
  pub no_comma : byte ≢ 44

-- a row whose line isn't empty and has nothing in it but plain bytes and the commas between fields
pub record IsPlainRow (row : Row) : Type 0 where
  pub some_field : row ≢ []
  pub some_byte : row ≢ [] ∷ []
  pub plain : All (λ field. All IsPlain field) row
