-- The lines of what rows of a document say, part by part.
use Rattle.std.proofs.Common.{◌≡◌, ℕ, List, [], ◌∷◌, ◌++◌, refl, sym, ap, ◌∙◌}
use Rattle.std.specs.Prelude.{codes, flat_map, map}
use Rattle.std.proofs.lemmas.List.{append_assoc}
use Rattle.vs_reader.specs.Names.{NameLists}
use Rattle.vs_reader.specs.Rows.{line, lines}
use Rattle.vs_rows.specs.DocumentRows.{DocumentRow, EndRow, written_row, written_rows}

module _ (names : NameLists) where
  -- the lines of rows behind others come behind theirs
  pub written-append : (said more : List DocumentRow)
      → lines (written_rows names (said ++ more)) ≡ lines (written_rows names said) ++ lines (written_rows names more)
  written-append [] more = refl
  written-append (row ∷ said) more =
      ap (λ bytes. line (written_row names row) ++ bytes) (written-append said more)
      ∙ sym (append_assoc (line (written_row names row)) (lines (written_rows names said))
      (lines (written_rows names more)))

  pub written-map : {X : Type 0} (f : X → DocumentRow) (xs : List X)
      → lines (written_rows names (map f xs)) ≡ flat_map (λ x. line (written_row names (f x))) xs
  written-map f [] = refl
  written-map f (x ∷ xs) = ap (λ bytes. line (written_row names (f x)) ++ bytes) (written-map f xs)

  pub written-flat_map : {X : Type 0} (f : X → List DocumentRow) (xs : List X)
      → lines (written_rows names (flat_map f xs)) ≡ flat_map (λ x. lines (written_rows names (f x))) xs
  written-flat_map f [] = refl
  written-flat_map f (x ∷ xs) =
      written-append (f x) (flat_map f xs)
      ∙ ap (λ bytes. lines (written_rows names (f x)) ++ bytes) (written-flat_map f xs)

  abbrev text : List DocumentRow → List ℕ
  text said = lines (written_rows names said)

  -- the parts of a document, written one after another
  pub written_in_turn : (head blocks tables shapes : List DocumentRow) (a b c d e : List ℕ) → a ≡ text head
      → b ≡ a ++ text blocks → c ≡ b ++ text tables → d ≡ c ++ text shapes
      → e ≡ d ++ codes "end" ++ 10 ∷ [] → e ≡ text (head ++ blocks ++ tables ++ shapes ++ EndRow ∷ [])
  written_in_turn head blocks tables shapes a b c d e first second third fourth last =
      last ∙ append_assoc d (codes "end") (10 ∷ [])
      ∙ ap (λ t. t ++ text (EndRow ∷ [])) (fourth
      ∙ ap (λ t. t ++ text shapes) (third
      ∙ ap (λ t. t ++ text tables) (second
      ∙ ap (λ t. t ++ text blocks) first
      ∙ sym (written-append head blocks))
      ∙ sym (written-append (head ++ blocks) tables))
      ∙ sym (written-append (head ++ blocks ++ tables) shapes))
      ∙ sym (written-append (head ++ blocks ++ tables ++ shapes) (EndRow ∷ []))
