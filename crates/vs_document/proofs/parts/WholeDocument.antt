-- A document whose rows have all been read.
use Rattle.std.proofs.Common.{◌≡◌, ℕ, suc, ◌+◌, ◌<◌, ◌≤◌, ◌^◌, List, [], ◌∷◌, ◌++◌, length, map, flat_map, drop, refl, sym, ap, ◌∙◌, subst, arith, append_assoc, length-append}
use Rattle.std.proofs.lemmas.Grind.{flat_map-append}
use Rattle.std.proofs.lemmas.List.{drop_all, drop_more, length-map}
use Rattle.vs_types.specs.declared.numbers.TripNo.{TripNo}
use Rattle.vs_instance.specs.Plan.{LayerBlock, all_trips}
use Rattle.vs_reader.specs.Names.{NameLists, name_of}
use Rattle.vs_reader.specs.Rows.{Row, all_fields, row_of}
use Rattle.vs_reader.specs.declared.input.Input.{Input}
use Rattle.vs_rows.specs.declared.document.Shape.{Shape}
use Rattle.vs_rows.specs.DocumentRows.{DocumentRow, BlockRow, EndRow, SayAll, Says, shape_row}
use Rattle.vs_rows.specs.RowForms.{IsInput}
use Rattle.vs_document.specs.declared.refused.DocError.{DocError}
use Rattle.vs_document.specs.declared.refused.DocError.TheVariants as error
use Rattle.vs_document.specs.Places.{AtClaim, InTree}
use Rattle.vs_document.specs.Reading.{IsLast, IsRefusalOf, IsRefusedAt, ReadsTree}
use Rattle.vs_rows.specs.RowRules.{AreRefusedFrom}
use Rattle.vs_document.specs.DocumentRefusals.{AreRefused, documents}
use Rattle.vs_rows.specs.RowReading.{SayTo}

-- the last row says `end`
ends : (input : Input) (at : ℕ) → IsLast input at → SayAll input.names (drop at input.rest) (EndRow ∷ [])
ends input at last =
    let lt : at < length input.rest = omega (arith, last.last) in
    let P : List Row → Type 0 = λ rows. SayAll input.names rows (EndRow ∷ []) in
    let Q : List Row → Type 0 = λ rows. SayAll input.names (row_of input.rest at ∷ rows) (EndRow ∷ []) in
    let none : drop (at + 1) input.rest ≡ [] = drop_all (at + 1) input.rest (omega (arith, last.last)) in
    subst P (sym (drop_more input.rest at [] lt)) (subst Q (sym none) (last.says, tt))

-- the rows of all parts, one after another
pub all_say : (input : Input) (a b c : ℕ) (head blocks tables shapes : List DocumentRow)
    → SayTo documents input 0 head 4 → SayTo documents input 4 blocks a → SayTo documents input a tables b
    → SayTo documents input b shapes c → IsLast input c
    → SayAll input.names input.rest (head ++ blocks ++ tables ++ shapes ++ EndRow ∷ [])
all_say input a b c head blocks tables shapes one two three four last =
    let P : List DocumentRow → Type 0 = λ said. SayAll input.names input.rest said in
    let end : List DocumentRow = EndRow ∷ [] in
    subst P
    (sym (append_assoc (head ++ blocks ++ tables) shapes end
    ∙ append_assoc (head ++ blocks) tables (shapes ++ end)
    ∙ append_assoc head blocks (tables ++ (shapes ++ end))))
    (one.say (blocks ++ (tables ++ (shapes ++ end)))
    (two.say (tables ++ (shapes ++ end)) (three.say (shapes ++ end) (four.say end (ends input c last)))))

-- there are as many rows as things said
as_many : (names : NameLists) (rows : List Row) (said : List DocumentRow) → SayAll names rows said
    → length rows ≡ length said
as_many names [] [] say = refl
as_many names [] (s ∷ said) say = absurd say
as_many names (row ∷ rows) [] say = absurd say
as_many names (row ∷ rows) (s ∷ said) say = ap suc (as_many names rows said say.1)

abbrev trips_in : DocumentRow → List TripNo
trips_in (BlockRow b) = b.1
trips_in said = []

row_has_trips : (names : NameLists) (row : Row) (said : DocumentRow) → Says names row said
    → length (trips_in said) ≤ length row
row_has_trips names row (BlockRow b) says =
    omega (arith, ap length says.written, length-map b.1 (λ (t : TripNo). name_of names.trips t.0))
row_has_trips names row said says = omega arith

-- no more trips stand in blocks than there are fields
rows_have_trips : (names : NameLists) (rows : List Row) (said : List DocumentRow) → SayAll names rows said
    → length (flat_map trips_in said) ≤ length (all_fields rows)
rows_have_trips names [] [] say = omega arith
rows_have_trips names [] (s ∷ said) say = absurd say
rows_have_trips names (row ∷ rows) [] say = absurd say
rows_have_trips names (row ∷ rows) (s ∷ said) say =
    omega (
      arith,
      row_has_trips names row s say.0,
      rows_have_trips names rows said say.1,
      length-append (trips_in s) (flat_map trips_in said),
      length-append row (all_fields rows),
    )

trips_of_blocks : (blocks : List LayerBlock) → flat_map trips_in (map BlockRow blocks) ≡ all_trips blocks
trips_of_blocks [] = refl
trips_of_blocks (b ∷ blocks) = ap (λ (trips : List TripNo). b.1 ++ trips) (trips_of_blocks blocks)

module _ (input : Input) (is : IsInput input) (head tables : List DocumentRow) (blocks : List LayerBlock)
    (shapes : List Shape) (say : SayAll input.names input.rest
    (head ++ map BlockRow blocks ++ tables ++ map shape_row shapes ++ EndRow ∷ [])) where
  pub few_trips : length (all_trips blocks) < 2 ^ 32
  few_trips =
      let end : List DocumentRow = EndRow ∷ [] in
      omega (
        arith,
        is.counted.few_fields,
        rows_have_trips input.names input.rest (head ++ map BlockRow blocks ++ tables ++ map shape_row shapes
            ++ end) say,
        ap length (trips_of_blocks blocks),
        ap length (flat_map-append trips_in (head ++ map BlockRow blocks ++ tables ++ map shape_row shapes) end),
        ap length (flat_map-append trips_in (head ++ map BlockRow blocks ++ tables) (map shape_row shapes)),
        ap length (flat_map-append trips_in (head ++ map BlockRow blocks) tables),
        ap length (flat_map-append trips_in head (map BlockRow blocks)),
        length-append (flat_map trips_in (head ++ map BlockRow blocks ++ tables ++ map shape_row shapes))
            (flat_map trips_in end),
        length-append (flat_map trips_in (head ++ map BlockRow blocks ++ tables))
            (flat_map trips_in (map shape_row shapes)),
        length-append (flat_map trips_in (head ++ map BlockRow blocks)) (flat_map trips_in tables),
        length-append (flat_map trips_in head) (flat_map trips_in (map BlockRow blocks)),
      )

  pub few_shapes : length shapes < 2 ^ 32
  few_shapes =
      omega (
        arith,
        is.counted.few_rows,
        as_many input.names input.rest (head ++ map BlockRow blocks ++ tables ++ map shape_row shapes
            ++ EndRow ∷ []) say,
        length-append (head ++ map BlockRow blocks ++ tables ++ map shape_row shapes) (EndRow ∷ []),
        length-append (head ++ map BlockRow blocks ++ tables) (map shape_row shapes),
        length-map shapes shape_row,
      )

-- a tree behind as many tables
pub tree_of : (input : Input) (at n m to : ℕ) (shapes : List Shape) → n ≡ m → ReadsTree input at n to shapes
    → ReadsTree input at m to shapes
tree_of input at n m to shapes same tree =
    let P : ℕ → Type 0 = λ k. ReadsTree input at k to shapes in subst P same tree

-- what is refused from the first row on, if there is one
pub whole_refused : (input : Input) (e : DocError) → 0 < length input.rest → IsRefusedAt input 0 AtClaim e
    → IsRefusalOf input e
whole_refused input error.Memory some refused = tt
whole_refused input (error.Refused at why) some refused = by_rows input.rest some refused
  where
    by_rows : (rows : List Row) → 0 < length rows
        → AreRefusedFrom documents input.instance input.names (input.before + 1 + 0) AtClaim (drop 0 rows) at why
        → AreRefused input.instance input.names input.before rows at why
    by_rows [] less is = absurd (omega (arith, less))
    by_rows (row ∷ rows) less is =
        let P : ℕ → Type 0 = λ n. AreRefusedFrom documents input.instance input.names n AtClaim (row ∷ rows) at why in
        let first : input.before + 1 + 0 ≡ input.before + 1 = omega arith in
        subst P first is

-- and what is refused in a tree behind as many tables
pub tree_refused_at : (input : Input) (at n m : ℕ) (e : DocError) → n ≡ m → IsRefusedAt input at (InTree n 1) e
    → IsRefusedAt input at (InTree m 1) e
tree_refused_at input at n m e same refused =
    let P : ℕ → Type 0 = λ k. IsRefusedAt input at (InTree k 1) e in subst P same refused
