-- Where the fields of rows stand.
use Rattle.std.proofs.Common.{◌≡◌, ℕ, ◌+◌, ◌-◌, ◌<◌, ◌≤◌, List, [], length, get_or, take, drop, sym, ap, ◌∙◌, arith}
use Rattle.std.specs.Prelude.{slice_range}
use Rattle.std.proofs.lemmas.List.{get_or-take, get_or-drop}
use Rattle.std.proofs.lemmas.List.Edits.{length-between}
use Rattle.vs_reader.specs.Rows.{Row}
use Rattle.vs_reader.specs.RowEnds.{parts_from, rows_of, end_of, AreEnds}
use Rattle.vs_reader.proofs.places.ListParts.{length-parts_from, get_or-parts_from, starts_before}

module _ (bytes field_ends row_ends : List ℕ) (ends : AreEnds bytes field_ends row_ends) where
  pub length-rows : length (rows_of bytes field_ends row_ends) ≡ length row_ends
  length-rows = length-parts_from (parts_from bytes 0 field_ends) 0 row_ends

  pub row_start_before : (row d : ℕ) → row < length row_ends → end_of 0 (take row row_ends) ≤ get_or row_ends row d
  row_start_before row d within = starts_before row_ends row d ends.rows_in_order within

  pub length-row : (row d : ℕ) (none : Row) → row < length row_ends
      → length (get_or (rows_of bytes field_ends row_ends) row none)
      ≡ get_or row_ends row d - end_of 0 (take row row_ends)
  length-row row d none within =
      let fields = parts_from bytes 0 field_ends in
      let end : get_or row_ends row d ≤ length fields =
      omega (arith, ends.rows_within row d within, length-parts_from bytes 0 field_ends) in
      ap length (get_or-parts_from fields 0 row_ends row none d within)
      ∙ length-between fields (end_of 0 (take row row_ends)) (get_or row_ends row d) end

  -- a field's place among all fields
  pub place_within : (row k place d : ℕ) (none : Row) → row < length row_ends
      → k < length (get_or (rows_of bytes field_ends row_ends) row none)
      → place ≡ end_of 0 (take row row_ends) + k → place < length field_ends
  place_within row k place d none within k_within is =
      omega (arith, ends.rows_within row d within, length-row row d none within)

  pub field_start_before : (place d : ℕ) → place < length field_ends
      → end_of 0 (take place field_ends) ≤ get_or field_ends place d
  field_start_before place d within = starts_before field_ends place d ends.fields_in_order within

  pub field_within : (place d : ℕ) → place < length field_ends → get_or field_ends place d ≤ length bytes
  field_within place d within = ends.fields_within place d within

  pub field_is : (row k place d : ℕ) (none : Row) → row < length row_ends
      → k < length (get_or (rows_of bytes field_ends row_ends) row none)
      → place ≡ end_of 0 (take row row_ends) + k
      → slice_range bytes (end_of 0 (take place field_ends)) (get_or field_ends place d)
      ≡ get_or (get_or (rows_of bytes field_ends row_ends) row none) k []
  field_is row k place d none within k_within is =
      let fields = parts_from bytes 0 field_ends in let start = end_of 0 (take row row_ends) in
      let placed : place < length field_ends = place_within row k place d none within k_within is in
      let row_is : get_or (rows_of bytes field_ends row_ends) row none
      ≡ slice_range fields start (get_or row_ends row d) = get_or-parts_from fields 0 row_ends row none d within in
      let k_in : k < get_or row_ends row d - start = omega (arith, length-row row d none within) in
      let in_row : get_or (slice_range fields start (get_or row_ends row d)) k [] ≡ get_or fields (start + k) [] =
      get_or-take (get_or row_ends row d - start) (drop start fields) k [] k_in ∙ get_or-drop start fields k [] in
      sym (get_or-parts_from bytes 0 field_ends place [] d placed)
      ∙ ap (λ n. get_or fields n []) is ∙ sym in_row ∙ sym (ap (λ r. get_or r k []) row_is)
