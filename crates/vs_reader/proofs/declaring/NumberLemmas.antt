-- Digits and times.
use Rattle.std.proofs.Common.{◌≡◌, ℕ, ◌+◌, ◌-◌, ◌*◌, ◌^◌, ◌<◌, ◌≤◌, List, ◌∷◌, ◌++◌, length, take, drop, get_or, sym, ap, ◌∙◌, arith}
use Rattle.std.specs.Prelude.{All}
use Rattle.std.specs.Char.{IsAsciiDigit}
use Rattle.std.specs.Int.{IsInRange}
use Rattle.std.specs.Str.Parse.{digits_value}
use Rattle.std.proofs.lemmas.Int.Digits.{digits_value_more}
use Rattle.std.proofs.lemmas.List.{take-append-drop, drop_more}
use Rattle.std.proofs.lemmas.List.Elements.{All-get_or}
use Rattle.std.proofs.lemmas.Str.{digit_value_digit}
use Rattle.std.proofs.lemmas.Str.Parse.{IsNumeralModel, numerals_by_value, tells_by_index, digits_value_short}
use Rattle.vs_reader.specs.Rows.{Field}

-- digits are the numerals of the values that they write
pub numerals : IsNumeralModel (λ ds. (i : ℕ) → i < length ds → IsInRange 48 57 (get_or ds i 0)) (digits_value 10)
numerals = numerals_by_value (λ ds. (i : ℕ) → i < length ds → IsInRange 48 57 (get_or ds i 0)) tells_by_index

-- so many digits write a number below that power of ten
pub digits_short : (ds : List ℕ) (k : ℕ) → All IsAsciiDigit ds → length ds ≤ k → digits_value 10 ds < 10 ^ k
digits_short ds k digits short =
    digits_value_short numerals ds k (λ i within. All-get_or IsAsciiDigit ds i 0 within digits) short

-- one more digit
pub digits_step : (ds : List ℕ) (i : ℕ) → i < length ds → IsInRange 48 57 (get_or ds i 0)
    → 10 * digits_value 10 (take i ds) + (get_or ds i 0 - 48) ≡ digits_value 10 (take (i + 1) ds)
digits_step ds i within digit = omega (arith, digits_value_more 10 ds i within, digit_value_digit (get_or ds i 0) digit)

-- a field round its colon
pub split_at : (field : Field) (i : ℕ) → i < length field → get_or field i 0 ≡ 58
    → field ≡ take i field ++ 58 ∷ drop (i + 1) field
split_at field i within colon =
    sym (take-append-drop i field)
    ∙ ap (λ (rest : List ℕ). take i field ++ rest)
    (drop_more field i 0 within ∙ ap (λ (c : ℕ). c ∷ drop (i + 1) field) colon)
