-- A row that is written in parts: its first fields, some more, one that ends it, or others behind that.
use Rattle.std.proofs.Common.{◌≡◌, ℕ, List, [], ◌∷◌, ◌++◌, refl, sym, ap, ◌∙◌, append_assoc}
use Rattle.vs_reader.specs.Rows.{Field, fields, line, more_fields}
use Rattle.vs_rows.proofs.CallerLemmas.{join-cons, one_more_field, some_more_fields, ended_row}

pub row_in_parts : (old first second third : List ℕ) (kind : Field) (left more : List Field) (last : Field)
    → first ≡ old ++ fields (kind ∷ left) → second ≡ first ++ more_fields more → third ≡ second ++ 44 ∷ last
    → third ++ 10 ∷ [] ≡ old ++ line (kind ∷ ((left ++ more) ++ last ∷ []))
row_in_parts old first second third kind left more last begins goes ends =
    let begun : List ℕ = old ++ kind in
    let begin : first ≡ begun ++ more_fields left =
    begins ∙ ap (λ bytes. old ++ bytes) (join-cons kind left) ∙ sym (append_assoc old kind (more_fields left)) in
    let middle = some_more_fields begun first second left more begin goes in
    let all = one_more_field begun second third (left ++ more) last middle ends in
    ended_row old begun third kind ((left ++ more) ++ last ∷ []) refl all

pub row_in_more_parts : (old first second third fourth : List ℕ) (kind : Field) (left more : List Field) (next : Field)
    (rest : List Field) → first ≡ old ++ fields (kind ∷ left) → second ≡ first ++ more_fields more
    → third ≡ second ++ 44 ∷ next → fourth ≡ third ++ more_fields rest
    → fourth ++ 10 ∷ [] ≡ old ++ line (kind ∷ (((left ++ more) ++ next ∷ []) ++ rest))
row_in_more_parts old first second third fourth kind left more next rest begins goes follows ends =
    let begun : List ℕ = old ++ kind in
    let begin : first ≡ begun ++ more_fields left =
    begins ∙ ap (λ bytes. old ++ bytes) (join-cons kind left) ∙ sym (append_assoc old kind (more_fields left)) in
    let middle = some_more_fields begun first second left more begin goes in
    let further = one_more_field begun second third (left ++ more) next middle follows in
    let all = some_more_fields begun third fourth ((left ++ more) ++ next ∷ []) rest further ends in
    ended_row old begun fourth kind (((left ++ more) ++ next ∷ []) ++ rest) refl all
