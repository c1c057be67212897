-- The digits that write a number.
use Rattle.std.proofs.Common.{◌≡◌, ℕ, zero, suc, ◌+◌, ◌-◌, ◌*◌, ◌/◌, ◌%◌, ◌^◌, ◌<◌, ◌≤◌, List, [], ◌∷◌, ◌++◌, length, take, get_or, decimal, refl, sym, ap, ◌∙◌, subst, ◌⊎◌, inl, inr, arith, length-append}
use Rattle.std.proofs.Common.{drop, ℤ, pos, negsuc}
use Rattle.std.specs.Fmt.{signed_decimal}
use Rattle.std.proofs.lemmas.Int.{ints}
use Rattle.vs_rows.specs.DocumentRows.{IsWithin}
use Rattle.vs_rows.specs.declared.limits.TheConstants.{MAX_BOUND}
use Rattle.std.specs.Char.{IsAsciiDigit, IsNotAsciiDigit}
use Rattle.std.specs.Str.Parse.{AllDigits, digits_value}
use Rattle.std.proofs.lemmas.Fmt.{decimal_is_IsNumeral_wide, decimal_by_steps_wide, length-decimal-le_wide, decimal_digit, decimal_step_wide}
use Rattle.std.proofs.lemmas.Str.Parse.{IsNumeralModel, numerals_by_value, tells_digits, digits_value_short, digit_at}
use Rattle.std.proofs.lemmas.List.{get_or_append_left, take_more, length-take, get_or-take, take_all}

pub wide : (n : ℕ) → n ≤ 1000000000000000000000 → n < 10 ^ 64
wide n h = omega arith

-- some digit, and the first is no 0 where the number isn't
pub record Starts (n : ℕ) (ds : List ℕ) : Type 0 where
  pub some : 0 < length ds
  pub first : 0 < n → 48 < get_or ds 0 0

starts_more : (n : ℕ) (ds : List ℕ) → 10 ≤ n → Starts (n / 10) ds → Starts n (ds ++ ((48 + n % 10) ∷ []))
starts_more n ds h s = record {
  some = omega (arith, length-append ds ((48 + n % 10) ∷ []), s.some);
  first = λ _. rw (get_or_append_left ds ((48 + n % 10) ∷ []) 0 0 s.some) (s.first (omega arith));
}

pub starts : (n : ℕ) → n ≤ 1000000000000000000000 → Starts n (decimal n)
starts n h =
    decimal_by_steps_wide Starts (λ n small. record { some = omega arith; first = λ p. omega arith }) starts_more n
    (wide n h)

-- a digit after those of a number that isn't 0
pub decimal_more : (n d : ℕ) → 0 < n → n ≤ 1000000000000000000000 → d < 10
    → decimal (10 * n + d) ≡ decimal n ++ ((48 + d) ∷ [])
decimal_more n d some few h =
    let e = decimal_step_wide (10 * n + d) (omega arith) (omega arith) in
    let q : (10 * n + d) / 10 ≡ n = omega arith in
    let r : (10 * n + d) % 10 ≡ d = omega arith in
    e ∙ ap (λ (m : ℕ). decimal m ++ ((48 + (10 * n + d) % 10) ∷ [])) q ∙ ap (λ (m : ℕ). decimal n ++ ((48 + m) ∷ [])) r

pub same_number : (m n : ℕ) → m ≤ 1000000000000000000000 → n ≤ 1000000000000000000000 → decimal m ≡ decimal n → m ≡ n
same_number m n h k e =
    sym (decimal_is_IsNumeral_wide m (wide m h)).1 ∙ ap (digits_value 10) e ∙ (decimal_is_IsNumeral_wide n (wide n k)).1

pub few_digits : (n : ℕ) → n ≤ 100000000000000000000 → length (decimal n) ≤ 21
few_digits n h = length-decimal-le_wide 21 n (omega arith) (omega arith) (wide n (omega arith))

digits_are : IsNumeralModel (AllDigits 10) (digits_value 10)
digits_are = numerals_by_value (AllDigits 10) tells_digits

pub below : (n : ℕ) → n ≤ 1000000000000000000000 → length (decimal n) ≤ 20 → n < 100000000000000000000
below n h few =
    let number = decimal_is_IsNumeral_wide n (wide n h) in
    omega (arith, digits_value_short digits_are (decimal n) 20 number.0.1 few, number.1)

pub digit_of : (n i : ℕ) → n ≤ 1000000000000000000000 → i < length (decimal n) → IsAsciiDigit (get_or (decimal n) i 0)
digit_of n i h lt = digit_at (decimal n) i (decimal_is_IsNumeral_wide n (wide n h)).0.1 lt

-- the first i digits write n
pub record Reads (digits : List ℕ) (i n : ℕ) : Type 0 where
  pub none : i ≡ 0 → n ≡ 0
  pub some : 0 < i → take i digits ≡ decimal n
  pub few : n < 1000000000000000000000

pub reads_none : (digits : List ℕ) → Reads digits 0 0
reads_none digits = record { none = λ _. refl; some = λ h. absurd (omega arith); few = omega arith }

pub few_so_far : (digits : List ℕ) (i n : ℕ) → i ≤ 20 → Reads digits i n → n < 100000000000000000000
few_so_far digits zero n h r = omega (arith, r.none refl)
few_so_far digits (suc i) n h r =
    below n (omega (arith, r.few)) (omega (arith, ap length (r.some (omega arith)), length-take (suc i) digits))

-- one digit more, which follows no leading 0
pub reads_more : (digits : List ℕ) (i n d : ℕ) → i ≤ 20 → i < length digits → d ≡ get_or digits i 0 - 48
    → IsAsciiDigit (get_or digits i 0)
    → (i ≡ 0) ⊎ (0 < n) → Reads digits i n → Reads digits (i + 1) (10 * n + d)
reads_more digits zero n d few lt is digit first r =
    let e : 10 * n + d ≡ d = omega (arith, r.none refl) in
    record {
      none = λ h. absurd (omega arith);
      some = λ _. take_more digits 0 0 lt ∙ ap (λ (x : ℕ). x ∷ []) (omega (arith, digit))
          ∙ sym (decimal_digit d (omega (arith, digit))) ∙ ap decimal (sym e);
      few = omega (arith, digit, r.none refl);
    }
reads_more digits (suc i) n d few lt is digit (inl none) r = absurd (omega arith)
reads_more digits (suc i) n d few lt is digit (inr first) r =
    let small = few_so_far digits (suc i) n few r in
    record {
      none = λ h. absurd (omega arith);
      some = λ _. take_more digits (suc i) 0 lt
          ∙ ap (λ (xs : List ℕ). xs ++ (get_or digits (suc i) 0) ∷ []) (r.some (omega arith))
          ∙ ap (λ (x : ℕ). decimal n ++ x ∷ []) (omega (arith, digit))
          ∙ sym (decimal_more n d first (omega arith) (omega (arith, digit)));
      few = omega (arith, digit);
    }

zero_from_first : (m first : ℕ) → (0 < m → 48 < first) → first ≡ 48 → m ≡ 0
zero_from_first zero first h e = refl
zero_from_first (suc m) first h e = absurd (omega (arith, h (omega arith)))

-- no number up to 10^20 begins with a 0 and goes on
pub leading_zero : (digits : List ℕ) (i m : ℕ) → 0 < i → i < length digits → Reads digits i 0
    → m ≤ 100000000000000000000 → digits ≡ decimal m → ⊥
leading_zero digits i m some lt r few e =
    let front : take i digits ≡ 48 ∷ [] = r.some some ∙ decimal_digit 0 (omega arith) in
    let zero_first : get_or digits 0 0 ≡ 48 =
    sym (get_or-take i digits 0 0 some) ∙ ap (λ (ds : List ℕ). get_or ds 0 0) front in
    let one : i ≡ 1 = omega (arith, ap length front, length-take i digits) in
    let s = starts m (omega arith) in
    let m_is : m ≡ 0 =
    zero_from_first m (get_or (decimal m) 0 0) s.first (sym (ap (λ (ds : List ℕ). get_or ds 0 0) e) ∙ zero_first) in
    let short : digits ≡ 48 ∷ [] = e ∙ ap decimal m_is ∙ decimal_digit 0 (omega arith) in
    omega (arith, ap length short)

pub leading_zero_of : (digits : List ℕ) (i n m : ℕ) → 0 < i → i < length digits → n ≡ 0 → Reads digits i n
    → m ≤ 100000000000000000000 → digits ≡ decimal m → ⊥
leading_zero_of digits i n m some lt none r few e = let P : ℕ → Type 0 =
    λ x. Reads digits i x in leading_zero digits i m some lt (subst P none r) few e

pub no_digit : (digits : List ℕ) (i m : ℕ) → i < length digits → IsNotAsciiDigit (get_or digits i 0)
    → m ≤ 100000000000000000000 → digits ≡ decimal m → ⊥
no_digit digits i m lt wrong few e =
    let digit = digit_of m i (omega arith) (omega (arith, ap length e)) in
    let at : get_or digits i 0 ≡ get_or (decimal m) i 0 = ap (λ (ds : List ℕ). get_or ds i 0) e in
    elim wrong [ inl low ↦ omega arith | inr high ↦ omega arith ]

-- digits that write n, which is above 10^20, write no other number
pub other_number : (digits : List ℕ) (i n m : ℕ) → length digits ≤ i → i ≤ length digits → 100000000000000000000 < n
    → Reads digits i n → m ≤ 100000000000000000000 → digits ≡ decimal m → ⊥
other_number digits zero n m all within large r few e = omega (arith, r.none refl)
other_number digits (suc i) n m all within large r few e =
    let whole : digits ≡ decimal n = sym (take_all (suc i) digits all) ∙ r.some (omega arith) in
    omega (arith, same_number m n (omega arith) (omega (arith, r.few)) (sym e ∙ whole))

-- no number within `MAX_BOUND` is written so
abbrev pub IsNoNumber : List ℕ → Type 0
IsNoNumber field =
    (z : ℤ) → IsWithin MAX_BOUND z → ¬ (field ≡ signed_decimal z)

no_minus_first : (m : ℕ) (field : List ℕ) → m ≤ 100000000000000000000 → get_or field 0 0 ≡ 45 → field ≡ decimal m → ⊥
no_minus_first m field few first e =
    let digit = digit_of m 0 (omega arith) (starts m (omega arith)).some in
    omega (arith, digit, first, ap (λ (ds : List ℕ). get_or ds 0 0) e)

pub no_number_behind_minus : (field : List ℕ) → get_or field 0 0 ≡ 45
    → ((n : ℕ) → 0 < n → n ≤ 100000000000000000000 → ¬ (take (length field - 1) (drop 1 field) ≡ decimal n))
    → IsNoNumber field
no_number_behind_minus field first none (pos m) range e = no_minus_first m field (omega (arith, ints, range.1)) first e
no_number_behind_minus field first none (negsuc m) range e =
    none (suc m) (omega arith) (omega (arith, ints, range.0))
    (ap (λ (ds : List ℕ). take (length ds - 1) (drop 1 ds)) e ∙ take_all _ (decimal (suc m)) (omega arith))

pub no_number_from_zero : (field : List ℕ) (n : ℕ) → get_or field 0 0 ≡ 45 → n ≤ 0
    → take (length field - 1) (drop 1 field) ≡ decimal n → IsNoNumber field
no_number_from_zero field n first none e =
    no_number_behind_minus field first
    (λ m some few f. absurd (omega (arith, same_number m n (omega arith) (omega arith) (sym f ∙ e))))

pub same_signed : (y z : ℤ) → IsWithin MAX_BOUND y → IsWithin MAX_BOUND z
    → signed_decimal y ≡ signed_decimal z → y ≡ z
same_signed (pos m) (pos n) p q e = ap pos (same_number m n (omega (arith, ints, p.1)) (omega (arith, ints, q.1)) e)
same_signed (pos m) (negsuc n) p q e =
    absurd (no_minus_first m (45 ∷ decimal (suc n)) (omega (arith, ints, p.1)) refl (sym e))
same_signed (negsuc m) (pos n) p q e =
    absurd (no_minus_first n (45 ∷ decimal (suc m)) (omega (arith, ints, q.1)) refl e)
same_signed (negsuc m) (negsuc n) p q e =
    let same : suc m ≡ suc n =
    same_number (suc m) (suc n) (omega (arith, ints, p.0)) (omega (arith, ints, q.0)) (ap (drop 1) e) in
    ap negsuc (omega arith)
