-- Rows that stand in one list of bytes, by where their fields and they themselves end.
use Rattle.std.specs.Prelude.{ℕ, ◌+◌, ◌≤◌, List, [], ◌∷◌, length, All, slice_range}
use Rattle.std.specs.List.Sorted.{IsNonDecreasing}
use Rattle.vs_reader.specs.Rows.{Row}

-- the parts of a list from this place on, given where each ends
abbrev pub parts_from : {X : Type 0} → List X → ℕ → List ℕ → List (List X)
parts_from xs start [] = []
parts_from xs start (end ∷ ends) = slice_range xs start end ∷ parts_from xs end ends

abbrev pub rows_of : List ℕ → List ℕ → List ℕ → List Row
rows_of bytes field_ends row_ends = parts_from (parts_from bytes 0 field_ends) 0 row_ends

-- ends in order, none of which is past the end
pub record AreEnds (bytes field_ends row_ends : List ℕ) : Type 0 where
  pub fields_in_order : IsNonDecreasing field_ends
  pub fields_within : All (λ end. end ≤ length bytes) field_ends
  pub rows_in_order : IsNonDecreasing row_ends
  pub rows_within : All (λ end. end ≤ length field_ends) row_ends

-- where the last of these ends, or this place where there are none
abbrev pub end_of : ℕ → List ℕ → ℕ
end_of start [] = start
end_of start (end ∷ ends) = end_of end ends

-- the bytes of a row and its fields, counted together, and those of all rows
abbrev pub row_weight : Row → ℕ
row_weight [] = 0
row_weight (field ∷ row) = length field + 1 + row_weight row

abbrev pub weight_of : List Row → ℕ
weight_of [] = 0
weight_of (row ∷ rows) = row_weight row + weight_of rows
