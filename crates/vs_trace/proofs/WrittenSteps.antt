-- The lines of the rows of a trace, written one after another.
use Rattle.std.proofs.Common.{◌≡◌, ℕ, List, [], ◌∷◌, ◌++◌, refl, sym, ap, ◌∙◌}
use Rattle.std.specs.Prelude.{codes, flat_map}
use Rattle.std.proofs.lemmas.List.{append_assoc}
use Rattle.std.proofs.lemmas.List.Concat.{flat_map-append}
use Rattle.vs_reader.specs.Names.{NameLists}
use Rattle.vs_reader.specs.Rows.{Row, line, lines}
use Rattle.vs_rows.specs.DocumentRows.{DocumentRow, EndRow, written_row, written_rows}
use Rattle.vs_trace.specs.TraceRows.{PartRow, TraceRow, parts, written_trace, written_traces}

-- more rows behind others
pub rows_more : (old middle new : List ℕ) (first more : List Row) → middle ≡ old ++ lines first
    → new ≡ middle ++ lines more → new ≡ old ++ lines (first ++ more)
rows_more old middle new first more one two =
    two ∙ ap (λ (t : List ℕ). t ++ lines more) one ∙ append_assoc old (lines first) (lines more)
    ∙ ap (λ (t : List ℕ). old ++ t) (sym (flat_map-append line first more))

-- a document's rows are written in a trace as they are there
pub parts_written : (names : NameLists) (said : List DocumentRow)
    → written_traces names (parts said) ≡ written_rows names said
parts_written names [] = refl
parts_written names (row ∷ said) = ap (λ (rows : List Row). written_row names row ∷ rows) (parts_written names said)

pub traces-append : (names : NameLists) (said more : List TraceRow)
    → lines (written_traces names (said ++ more)) ≡ lines (written_traces names said)
    ++ lines (written_traces names more)
traces-append names [] more = refl
traces-append names (row ∷ said) more =
    ap (λ (t : List ℕ). line (written_trace names row) ++ t) (traces-append names said more)
    ∙ sym (append_assoc (line (written_trace names row)) (lines (written_traces names said))
    (lines (written_traces names more)))

pub traces-flat_map : {X : Type 0} (names : NameLists) (f : X → List TraceRow) (xs : List X)
    → lines (written_traces names (flat_map f xs)) ≡ flat_map (λ x. lines (written_traces names (f x))) xs
traces-flat_map names f [] = refl
traces-flat_map names f (x ∷ xs) =
    traces-append names (f x) (flat_map f xs)
    ∙ ap (λ (t : List ℕ). lines (written_traces names (f x)) ++ t) (traces-flat_map names f xs)

module _ (names : NameLists) where
  abbrev text : List TraceRow → List ℕ
  text said = lines (written_traces names said)

  -- the parts of a trace, written one after another
  pub trace_in_turn : (opening first steps : List TraceRow) (a b c e : List ℕ) → a ≡ text opening
      → b ≡ a ++ text first → c ≡ b ++ text steps → e ≡ c ++ codes "end" ++ 10 ∷ []
      → e ≡ text (opening ++ first ++ steps ++ PartRow EndRow ∷ [])
  trace_in_turn opening first steps a b c e one two three last =
      last ∙ append_assoc c (codes "end") (10 ∷ [])
      ∙ ap (λ (t : List ℕ). t ++ text (PartRow EndRow ∷ [])) (three
      ∙ ap (λ (t : List ℕ). t ++ text steps) (two
      ∙ ap (λ (t : List ℕ). t ++ text first) one
      ∙ sym (traces-append names opening first))
      ∙ sym (traces-append names (opening ++ first) steps))
      ∙ sym (traces-append names (opening ++ first ++ steps) (PartRow EndRow ∷ []))
