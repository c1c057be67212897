-- One field and one row more.
use Rattle.std.proofs.Common.{◌≡◌, ℕ, ◌+◌, ◌<◌, ◌≤◌, List, [], ◌∷◌, ◌++◌, length, take, drop, append-nil, append_assoc, refl, sym, ap, ◌∙◌, subst, arith}
use Rattle.std.specs.Prelude.{All, slice_range}
use Rattle.std.specs.List.Sorted.{IsNonDecreasing}
use Rattle.std.proofs.lemmas.List.{length-append, length_push, drop_at, take_more, take-append-drop}
use Rattle.std.proofs.lemmas.List.Elements.{All-push, All-weaker}
use Rattle.vs_reader.specs.declared.rows.RowBuilder.{RowBuilder}
use Rattle.vs_reader.specs.Rows.{Field, Row, all_fields, field_of}
use Rattle.vs_reader.specs.RowEnds.{parts_from, end_of, row_weight, weight_of}
use Rattle.vs_reader.specs.RowBuilding.{built, size_of, IsWhole}
use Rattle.vs_reader.proofs.places.ListParts.{parts_from-push, parts_from-append, end_of-push, in_order-push, range_to_end, length-parts_from}
use Rattle.vs_reader.proofs.texts.CsvRecords.{row_weight-push}

-- a row and more fields
pub row_weight-append : (row more : Row) → row_weight (row ++ more) ≡ row_weight row + row_weight more
row_weight-append [] more = omega arith
row_weight-append (f ∷ row) more = omega (arith, row_weight-append row more)

pub weight_of-append : (rows more : List Row) → weight_of (rows ++ more) ≡ weight_of rows + weight_of more
weight_of-append [] more = omega arith
weight_of-append (row ∷ rows) more = omega (arith, weight_of-append rows more)

pub length-row_weight : (row : Row) → length row ≤ row_weight row
length-row_weight [] = omega arith
length-row_weight (field ∷ row) = omega (arith, length-row_weight row)

-- each field counts in the weight of the rows
pub few_fields : (rows : List Row) → length (all_fields rows) ≤ weight_of rows
few_fields [] = omega arith
few_fields (row ∷ rows) =
    omega (arith, few_fields rows, length-row_weight row, length-append row (all_fields rows))

-- the fields of a row up to one, and with it
pub row_weight-take : (row : Row) (k : ℕ) → k < length row
    → row_weight (take k row) + (length (field_of row k) + 1) ≤ row_weight row
row_weight-take row k within =
    omega (
      arith,
      ap row_weight (take_more row k [] within),
      row_weight-push (take k row) (field_of row k),
      row_weight-append (take (k + 1) row) (drop (k + 1) row),
      ap row_weight (take-append-drop (k + 1) row),
    )

-- parts, with one more that ends where its list ends
parts_more : {X : Type 0} (xs ys : List X) (ends : List ℕ) → All (λ e. e ≤ length xs) ends → end_of 0 ends ≡ length xs
    → parts_from (xs ++ ys) 0 (ends ++ (length xs + length ys) ∷ []) ≡ parts_from xs 0 ends ++ ys ∷ []
parts_more xs ys ends within whole =
    let last : slice_range (xs ++ ys) (end_of 0 ends) (length xs + length ys) ≡ ys =
    ap (λ (n : ℕ). slice_range (xs ++ ys) (end_of 0 ends) n) (sym (length-append xs ys))
    ∙ range_to_end (xs ++ ys) (end_of 0 ends) ∙ drop_at xs ys (end_of 0 ends) (sym whole) in
    parts_from-push (xs ++ ys) 0 ends (length xs + length ys)
    ∙ ap (λ ps. ps ++ slice_range (xs ++ ys) (end_of 0 ends) (length xs + length ys) ∷ [])
    (parts_from-append xs ys 0 ends within)
    ∙ ap (λ p. parts_from xs 0 ends ++ p ∷ []) last

-- Some fields of a row are added: the fields are those before and these, and nothing is begun that isn't ended.
pub record HasFields (old now : RowBuilder) (fields : Row) : Type 0 where
  pub parts : parts_from now.bytes.items 0 now.field_ends.items ≡ parts_from old.bytes.items 0 old.field_ends.items
      ++ fields
  pub whole : end_of 0 now.field_ends.items ≡ length now.bytes.items
  pub order : IsNonDecreasing now.field_ends.items
  pub within : All (λ e. e ≤ length now.bytes.items) now.field_ends.items
  pub size : size_of now ≡ size_of old + row_weight fields
  pub rows : now.row_ends.items ≡ old.row_ends.items

pub HasFields-nothing : (b : RowBuilder) → IsWhole b → HasFields b b []
HasFields-nothing b whole = record {
  parts = sym (append-nil (parts_from b.bytes.items 0 b.field_ends.items));
  whole = whole.fields;
  order = whole.ends.fields_in_order;
  within = whole.ends.fields_within;
  size = omega arith;
  rows = refl;
}

pub HasFields-push : (old now new : RowBuilder) (fields : Row) (f : Field) → HasFields old now fields
    → new.bytes.items ≡ now.bytes.items ++ f
    → new.field_ends.items ≡ now.field_ends.items ++ (length now.bytes.items + length f) ∷ []
    → new.row_ends.items ≡ now.row_ends.items
    → HasFields old new (fields ++ f ∷ [])
HasFields-push old now new fields f has bytes ends rows =
    let more : length new.bytes.items ≡ length now.bytes.items + length f =
    ap length bytes ∙ length-append now.bytes.items f in
    let count : length new.field_ends.items ≡ length now.field_ends.items + 1 =
    ap length ends ∙ length_push now.field_ends.items (length now.bytes.items + length f) in
    let larger =
    All-weaker (λ (e : ℕ). e ≤ length now.bytes.items) (λ (e : ℕ). e ≤ length now.bytes.items + length f)
    (λ e h. omega arith) now.field_ends.items has.within in
    record {
      parts = (λ i. parts_from (bytes i) 0 (ends i))
          ∙ parts_more now.bytes.items f now.field_ends.items has.within has.whole
          ∙ ap (λ ps. ps ++ f ∷ []) has.parts
          ∙ append_assoc (parts_from old.bytes.items 0 old.field_ends.items) fields (f ∷ []);
      whole = ap (end_of 0) ends ∙ end_of-push 0 now.field_ends.items (length now.bytes.items + length f) ∙ sym more;
      order = subst IsNonDecreasing (sym ends)
          (in_order-push now.field_ends.items (length now.bytes.items + length f) has.order larger);
      within = subst (λ (es : List ℕ). All (λ e. e ≤ length new.bytes.items) es) (sym ends)
          (subst (λ (n : ℕ). All (λ e. e ≤ n) (now.field_ends.items ++ (length now.bytes.items + length f) ∷ []))
          (sym more)
          (All-push (λ (e : ℕ). e ≤ length now.bytes.items + length f) now.field_ends.items
          (length now.bytes.items + length f) larger (omega arith)));
      size = omega (arith, more, count, has.size, row_weight-push fields f);
      rows = rows ∙ has.rows;
    }

-- the row is ended
module _ (old now new : RowBuilder) (row : Row) (whole : IsWhole old) (has : HasFields old now row)
    (bytes : new.bytes.items ≡ now.bytes.items)
    (fields : new.field_ends.items ≡ now.field_ends.items)
    (rows : new.row_ends.items ≡ now.row_ends.items ++ length now.field_ends.items ∷ []) where
  before : List Field
  before = parts_from old.bytes.items 0 old.field_ends.items

  count : length now.field_ends.items ≡ length old.field_ends.items + length row
  unfolding before
  count = sym (length-parts_from now.bytes.items 0 now.field_ends.items) ∙ ap length has.parts
      ∙ length-append before row
      ∙ ap (λ (n : ℕ). n + length row) (length-parts_from old.bytes.items 0 old.field_ends.items)

  rows_after : new.row_ends.items ≡ old.row_ends.items ++ (length old.field_ends.items + length row) ∷ []
  rows_after = rows ∙ (λ i. has.rows i ++ count i ∷ [])

  pub built-push : built new ≡ built old ++ row ∷ []
  unfolding before
  built-push =
      let fields_are : parts_from new.bytes.items 0 new.field_ends.items ≡ before ++ row =
      (λ i. parts_from (bytes i) 0 (fields i)) ∙ has.parts in
      let length_before : length before ≡ length old.field_ends.items =
      length-parts_from old.bytes.items 0 old.field_ends.items in
      (λ i. parts_from (fields_are i) 0 (rows_after i))
      ∙ ap (λ (n : ℕ). parts_from (before ++ row) 0 (old.row_ends.items ++ (n + length row) ∷ [])) (sym length_before)
      ∙ parts_more before row old.row_ends.items
      (subst (λ (n : ℕ). All (λ e. e ≤ n) old.row_ends.items) (sym length_before) whole.ends.rows_within)
      (whole.rows ∙ sym length_before)

  pub IsWhole-push : IsWhole new
  IsWhole-push =
      let larger =
      All-weaker (λ (e : ℕ). e ≤ length old.field_ends.items)
      (λ (e : ℕ). e ≤ length old.field_ends.items + length row)
      (λ e h. omega arith) old.row_ends.items whole.ends.rows_within in
      let end : ℕ = length old.field_ends.items + length row in
      let fields_now : length new.field_ends.items ≡ end = ap length fields ∙ count in
      record {
        ends = record {
          fields_in_order = subst IsNonDecreasing (sym fields) has.order;
          fields_within = subst (λ (es : List ℕ). All (λ e. e ≤ length new.bytes.items) es) (sym fields)
              (subst (λ (bs : List ℕ). All (λ e. e ≤ length bs) now.field_ends.items) (sym bytes) has.within);
          rows_in_order =
              subst IsNonDecreasing (sym rows_after)
              (in_order-push old.row_ends.items end whole.ends.rows_in_order larger);
          rows_within = subst (λ (es : List ℕ). All (λ e. e ≤ length new.field_ends.items) es) (sym rows_after)
              (subst (λ (n : ℕ). All (λ e. e ≤ n) (old.row_ends.items ++ end ∷ [])) (sym fields_now)
              (All-push (λ (e : ℕ). e ≤ end) old.row_ends.items end larger (omega arith)));
        };
        fields = ap (end_of 0) fields ∙ has.whole ∙ ap length (sym bytes);
        rows = ap (end_of 0) rows_after ∙ end_of-push 0 old.row_ends.items end ∙ sym fields_now;
      }
