-- The fields of a record of csv.
use Rattle.std.proofs.Common.{◌≡◌, ℕ, zero, suc, ◌≤◌, Bool, true, false, if◌then◌else◌, [], ◌∷◌, length, drop, Option, Some, None, Bor, refl, ap, ◌∙◌, arith}
use Rattle.std.specs.Option.{option_map, unwrap_or}
use Rattle.std.proofs.lemmas.List.{drop_all, drop_more}
use Rattle.csv.specs.Records.{field_at}
use Rattle.vs_reader.specs.declared.version.Version.{Version}
use Rattle.vs_reader.specs.Rows.{Field, Row, field_of}
use Rattle.vs_reader.specs.Versions.{layer_fields, writes_stay}
use Rattle.vs_reader.specs.InstanceText.{stay_fields}

-- a field, or the empty one past the end
pub field_at-or : (row : Row) (k : ℕ) → unwrap_or (field_at row k) [] ≡ field_of row k
unfolding field_at
field_at-or [] k = refl
field_at-or (f ∷ row) zero = refl
field_at-or (f ∷ row) (suc k) = field_at-or row k

-- what `get` answers, or else an empty slice
pub field_or_empty : (row : Row) (k : ℕ) (got : Option (Bor Field)) (empty : Bor Field)
    → option_map (λ s. s.now) got ≡ field_at row k → empty.now ≡ []
    → (unwrap_or got empty).now ≡ field_of row k
field_or_empty row k None empty is none = none ∙ ap (λ o. unwrap_or o []) is ∙ field_at-or row k
field_or_empty row k (Some s) empty is none = ap (λ o. unwrap_or o []) is ∙ field_at-or row k

-- a row of seven fields or more
pub long_row : (row : Row) (kind : Field) → field_of row 0 ≡ kind → 7 ≤ length row
    → row ≡ kind ∷ field_of row 1 ∷ field_of row 2 ∷ field_of row 3 ∷ field_of row 4 ∷ field_of row 5
    ∷ field_of row 6 ∷ drop 7 row
long_row [] kind is many = absurd (omega arith)
long_row (a ∷ []) kind is many = absurd (omega arith)
long_row (a ∷ b ∷ []) kind is many = absurd (omega arith)
long_row (a ∷ b ∷ c ∷ []) kind is many = absurd (omega arith)
long_row (a ∷ b ∷ c ∷ d ∷ []) kind is many = absurd (omega arith)
long_row (a ∷ b ∷ c ∷ d ∷ e ∷ []) kind is many = absurd (omega arith)
long_row (a ∷ b ∷ c ∷ d ∷ e ∷ f ∷ []) kind is many = absurd (omega arith)
long_row (a ∷ b ∷ c ∷ d ∷ e ∷ f ∷ g ∷ row) kind is many = ap (λ (k : Field). k ∷ b ∷ c ∷ d ∷ e ∷ f ∷ g ∷ row) is

-- behind seven fields, a layer's record has those of its least rest
behind_seven : (writes : Bool) (row : Row) → length row ≡ (if writes then 8 else 7)
    → drop 7 row ≡ stay_fields writes (field_of row 7)
behind_seven false row many = drop_all 7 row (omega (arith, many))
behind_seven true row many =
    drop_more row 7 [] (omega (arith, many))
    ∙ ap (λ (fs : Row). field_of row 7 ∷ fs) (drop_all 8 row (omega (arith, many)))

at_least_seven : (writes : Bool) (row : Row) → length row ≡ (if writes then 8 else 7) → 7 ≤ length row
at_least_seven false row many = omega (arith, many)
at_least_seven true row many = omega (arith, many)

-- the record of a layer
pub layer_row : (version : Version) (row : Row) (kind : Field) → field_of row 0 ≡ kind
    → length row ≡ layer_fields version (length row)
    → row ≡ kind ∷ field_of row 1 ∷ field_of row 2 ∷ field_of row 3 ∷ field_of row 4 ∷ field_of row 5
    ∷ field_of row 6 ∷ stay_fields (writes_stay version (length row)) (field_of row 7)
layer_row version row kind is many =
    let writes = writes_stay version (length row) in
    long_row row kind is (at_least_seven writes row many)
    ∙ ap (λ (fs : Row). kind ∷ field_of row 1 ∷ field_of row 2 ∷ field_of row 3 ∷ field_of row 4 ∷ field_of row 5
    ∷ field_of row 6 ∷ fs) (behind_seven writes row many)
