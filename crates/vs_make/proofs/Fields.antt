-- What the numbers, names and times of a made text write.
use Rattle.std.proofs.Common.{◌≡◌, ℕ, ◌+◌, ◌*◌, ◌/◌, ◌%◌, ◌^◌, ◌<◌, ◌≤◌, [], ◌∷◌, map, drop, decimal, codes, refl, sym, ap, ◌∙◌, inl, inr, arith}
use Rattle.std.specs.Prelude.{All, Contains, Some}
use Rattle.std.specs.Char.{IsAsciiDigit}
use Rattle.std.specs.List.{range_with_len}
use Rattle.std.specs.Str.Parse.{digits_value}
use Rattle.std.proofs.lemmas.Fmt.{decimal_is_IsNumeral_wide, length-decimal-le_wide}
use Rattle.std.proofs.lemmas.Int.Digits.{digits_value_more}
use Rattle.std.proofs.lemmas.List.Elements.{All-cons, All-from_get_or, All-nil, All-weaker}
use Rattle.std.proofs.lemmas.List.FromFn.{get_or-map-range_with_len, length-map-range_with_len}
use Rattle.std.proofs.lemmas.Option.{slice_get-get_or}
use Rattle.std.proofs.lemmas.Str.{digit_value_digit}
use Rattle.std.proofs.lemmas.Str.Parse.{digit_at}
use Rattle.vs_reader.specs.Rows.{Field}
use Rattle.vs_reader.specs.Names.{IsName, IsNameByte, Names}
use Rattle.vs_reader.specs.Numbers.{AreDigits, IsNumber, IsTime}
use Rattle.vs_rows.specs.Fields.{time_field, two_digits}

wide : (n : ℕ) → n < 10000000000 → n < 10 ^ 64
wide n few = omega arith

pub all_digits : (n : ℕ) → n < 10000000000 → All IsAsciiDigit (decimal n)
all_digits n few =
    All-from_get_or IsAsciiDigit (decimal n) 0
    (λ i within. digit_at (decimal n) i (decimal_is_IsNumeral_wide n (wide n few)).0.1 within)

pub writes_number : (n : ℕ) → n < 10000000000 → IsNumber (decimal n) n
writes_number n few =
    let is = decimal_is_IsNumeral_wide n (wide n few) in
    record {
      digits = record {
        some = omega (arith, is.0.0);
        few = length-decimal-le_wide 10 n (omega arith) (omega arith) (wide n few);
        digits = all_digits n few;
      };
      value = sym is.1;
    }

pub writes_up_to : (n most : ℕ) → n ≤ most → most < 10000000000 → IsNumber (decimal n) n
writes_up_to n most few small = writes_number n (omega arith)

-- the rates of the layers
pub writes_ten : IsNumber (codes "10") 10
writes_ten = record {
  digits = record {
    some = omega arith;
    few = omega arith;
    digits = All-cons IsAsciiDigit 49 (48 ∷ []) (omega arith, omega arith)
        (All-cons IsAsciiDigit 48 [] (omega arith, omega arith) (All-nil IsAsciiDigit));
  };
  value = refl;
}

pub writes_one : IsNumber (codes "1") 1
writes_one = record {
  digits = record {
    some = omega arith;
    few = omega arith;
    digits = All-cons IsAsciiDigit 49 [] (omega arith, omega arith) (All-nil IsAsciiDigit);
  };
  value = refl;
}

-- a letter, and a number behind it
abbrev pub lettered : ℕ → ℕ → Field
lettered letter k = letter ∷ decimal (k + 1)

-- the letters of stops, layers and trips
abbrev pub IsCapital : ℕ → Type 0
IsCapital b = (65 ≤ b) × (b ≤ 90)

pub lettered_name : (letter k : ℕ) → IsCapital letter → k < 10000 → IsName (lettered letter k)
lettered_name letter k capital few =
    let short = length-decimal-le_wide 5 (k + 1) (omega arith) (omega arith) (wide (k + 1) (omega arith)) in
    record {
      some = omega arith;
      few = omega (arith, short);
      bytes = All-cons IsNameByte letter (decimal (k + 1)) (inl capital)
          (All-weaker IsAsciiDigit IsNameByte (λ b digit. inr (inr (inl digit))) (decimal (k + 1))
          (all_digits (k + 1) (omega arith)));
    }

pub one_lettered : (letter j k : ℕ) → j < 10000 → k < 10000 → lettered letter j ≡ lettered letter k → j ≡ k
one_lettered letter j k few also same =
    let digits : decimal (j + 1) ≡ decimal (k + 1) = ap (drop 1) same in
    let next : j + 1 ≡ k + 1 =
    sym (decimal_is_IsNumeral_wide (j + 1) (wide (j + 1) (omega arith))).1 ∙ ap (digits_value 10) digits
    ∙ (decimal_is_IsNumeral_wide (k + 1) (wide (k + 1) (omega arith))).1 in
    omega arith

-- numbers in order name what they are
pub named_in_order : (letter n k : ℕ) → k < n → Names (map (lettered letter) (range_with_len 0 n)) (lettered letter k) k
named_in_order letter n k within =
    slice_get-get_or (map (lettered letter) (range_with_len 0 n)) k (lettered letter k)
    (omega (arith, length-map-range_with_len (lettered letter) 0 n))
    ∙ ap (λ (f : Field). Some f)
    (get_or-map-range_with_len (lettered letter) 0 n k k (lettered letter k) within (omega arith))

-- and the next one is new
pub new_in_order : (letter n : ℕ) → n < 10000 → ¬ (Contains (map (lettered letter) (range_with_len 0 n))
    (lettered letter n))
new_in_order letter n few among =
    let within : among.0 < n = omega (arith, among.1, length-map-range_with_len (lettered letter) 0 n) in
    let same : lettered letter among.0 ≡ lettered letter n =
    sym (get_or-map-range_with_len (lettered letter) 0 n among.0 among.0 (lettered letter n) within (omega arith))
    ∙ among.2 in
    omega (arith, within, one_lettered letter among.0 n (omega arith) few same)

-- two digits write a number below 100
two_write : (a b : ℕ) → a < 10 → b < 10 → digits_value 10 ((48 + a) ∷ (48 + b) ∷ []) ≡ 10 * a + b
two_write a b few also =
    let ds : Field = (48 + a) ∷ (48 + b) ∷ [] in
    omega (
      arith,
      digits_value_more 10 ds 0 (omega arith),
      digits_value_more 10 ds 1 (omega arith),
      digit_value_digit (48 + a) (omega arith, omega arith),
      digit_value_digit (48 + b) (omega arith, omega arith),
    )

two_digits_write : (n : ℕ) → n < 100 → digits_value 10 (two_digits n) ≡ n
two_digits_write n few =
    let whole : 10 * (n / 10) + n % 10 ≡ n = omega arith in
    two_write (n / 10) (n % 10) (omega arith) (omega arith) ∙ whole

two_are : (n : ℕ) → n < 100 → AreDigits (two_digits n) 2
two_are n few = record {
  some = omega arith;
  few = omega arith;
  digits = All-cons IsAsciiDigit (48 + n / 10) ((48 + n % 10) ∷ []) (omega arith, omega arith)
      (All-cons IsAsciiDigit (48 + n % 10) [] (omega arith, omega arith) (All-nil IsAsciiDigit));
}

-- a minute of the two days is written as its time
pub writes_time : (t : ℕ) → t < 2880 → IsTime (time_field t) t
writes_time t few =
    let hours = two_digits_write (t / 60) (omega arith) in
    let minutes = two_digits_write (t % 60) (omega arith) in (
      two_digits (t / 60),
      two_digits (t % 60),
      refl,
      two_are (t / 60) (omega arith),
      two_are (t % 60) (omega arith),
      refl,
      omega (arith, hours),
      omega (arith, minutes),
      omega (arith, hours, minutes),
    )
