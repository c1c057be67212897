-- Rows of three fields.
use Rattle.std.proofs.Common.{◌≡◌, [], ◌∷◌, length, refl, ap, ◌∙◌, arith}
use Rattle.vs_reader.specs.Rows.{Field, Row, field_of}

by_fields : (row : Row) → length row ≡ 3 → row ≡ field_of row 0 ∷ field_of row 1 ∷ field_of row 2 ∷ []
by_fields [] size = absurd (omega (arith, size))
by_fields (a ∷ []) size = absurd (omega (arith, size))
by_fields (a ∷ b ∷ []) size = absurd (omega (arith, size))
by_fields (a ∷ b ∷ c ∷ []) size = refl
by_fields (a ∷ b ∷ c ∷ d ∷ more) size = absurd (omega (arith, size))

-- a row of three fields is what these are
pub three_fields : (row : Row) (a b c : Field) → length row ≡ 3 → field_of row 0 ≡ a → field_of row 1 ≡ b
    → field_of row 2 ≡ c → row ≡ a ∷ b ∷ c ∷ []
three_fields row a b c size first second third =
    by_fields row size
    ∙ ap (λ (x : Field). x ∷ field_of row 1 ∷ field_of row 2 ∷ []) first
    ∙ ap (λ (x : Field). a ∷ x ∷ field_of row 2 ∷ []) second
    ∙ ap (λ (x : Field). a ∷ b ∷ x ∷ []) third
