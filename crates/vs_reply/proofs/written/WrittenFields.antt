-- Fields that are written one after the other.
use Rattle.std.proofs.Common.{◌≡◌, ℕ, List, ◌∷◌, ◌++◌, sym, ap, ◌∙◌, append_assoc}
use Rattle.std.proofs.lemmas.Grind.{flat_map-append}
use Rattle.vs_reader.specs.Rows.{Field, more_fields}

-- some fields are written, and then others
pub wrote_fields : (old new : List ℕ) (first rest : List Field) → new ≡ old ++ more_fields first
    → new ++ more_fields rest ≡ old ++ more_fields (first ++ rest)
wrote_fields old new first rest is =
    ap (λ bytes. bytes ++ more_fields rest) is ∙ append_assoc old (more_fields first) (more_fields rest)
    ∙ ap (λ bytes. old ++ bytes) (sym (flat_map-append (λ (field : Field). 44 ∷ field) first rest))
