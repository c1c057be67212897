-- Fields in which nothing has to be quoted: words, numbers, names, prices; and rows of these.
use Rattle.std.proofs.Common.{◌≡◌, ℕ, suc, ◌<◌, ◌≤◌, Bool, true, false, cond, ltb, ltb-true, List, [], ◌∷◌, length, get_or, codes, decimal, refl, sym, ap, subst, ◌⊎◌, inl, inr, arith, All, Option, Some, None, IfSome, ℤ, pos, negsuc}
use Rattle.std.specs.Fmt.{signed_decimal}
use Rattle.std.specs.Str.Parse.{AllDigits}
use Rattle.std.proofs.lemmas.Bool.{cases_lt, false≢true}
use Rattle.std.proofs.lemmas.Fmt.{decimal_is_IsNumeral_wide}
use Rattle.std.proofs.lemmas.Int.{ints}
use Rattle.std.proofs.lemmas.List.{get_or_past}
use Rattle.std.proofs.lemmas.List.Elements.{All-cons, All-get_or, All-nil, All-weaker}
use Rattle.std.proofs.lemmas.Str.Parse.{digit_at}
use Rattle.vs_reader.specs.Names.{IsName, IsNameByte, name_of}
use Rattle.vs_reader.specs.Rows.{Field, IsPlain, IsPlainRow, Row}
use Rattle.vs_rows.specs.declared.limits.TheConstants.{MAX_COST, MAX_BOUND, MAX_PRINTED_PRICE}
use Rattle.vs_rows.specs.DocumentRows.{IsBetween, IsWithin, kind_field, number_field}

-- no byte of a field has to be quoted
abbrev pub IsPlainField : Field → Type 0
IsPlainField field = All IsPlain field

-- each byte past the comma is plain
pub plain_from : (b : ℕ) → 44 < b → IsPlain b
plain_from b high = record {
  no_line_feed = λ e. omega (arith, e);
  no_carriage_return = λ e. omega (arith, e);
  no_quote = λ e. omega (arith, e);
  no_comma = λ e. omega (arith, e);
}

-- each byte is past the comma
abbrev pub are_high : List ℕ → Bool
are_high [] = true
are_high (b ∷ bs) = cond (ltb 44 b) (are_high bs) false

-- both tests of a chosen one pass
pub cond_parts : (a b : Bool) → cond a b false ≡ true → (a ≡ true) × (b ≡ true)
cond_parts true b e = (refl, e)
cond_parts false b e = absurd (false≢true e)

-- so a word of such bytes is
pub plain_word : (word : Field) → are_high word ≡ true → IsPlainField word
plain_word [] e = All-nil IsPlain
plain_word (b ∷ bs) e =
    let both = cond_parts (ltb 44 b) (are_high bs) e in
    All-cons IsPlain b bs (plain_from b (ltb-true 44 b both.0)) (plain_word bs both.1)

-- and a number, with a sign or without one
plain_digits : (digits : List ℕ) → AllDigits 10 digits → IsPlainField digits
plain_digits [] all = All-nil IsPlain
plain_digits (c ∷ cs) all =
    let digit = digit_at (c ∷ cs) 0 all (omega arith) in
    All-cons IsPlain c cs (plain_from c (omega (arith, digit.0))) (plain_digits cs all.1)

pub plain_decimal : (n : ℕ) → n ≤ 1000000000000000000000 → IsPlainField (decimal n)
plain_decimal n few = plain_digits (decimal n) (decimal_is_IsNumeral_wide n (omega arith)).0.1

pub plain_signed : (z : ℤ) → IsWithin MAX_BOUND z → IsPlainField (signed_decimal z)
plain_signed (pos n) within = plain_decimal n (omega (arith, ints, within.1))
plain_signed (negsuc n) within =
    All-cons IsPlain 45 (decimal (suc n)) (plain_from 45 (omega arith))
    (plain_decimal (suc n) (omega (arith, ints, within.0)))

-- the bytes of a name are past the comma, so a name is plain
name_byte : (b : ℕ) → IsNameByte b → 44 < b
name_byte b (inl h) = omega (arith, h.0)
name_byte b (inr (inl h)) = omega (arith, h.0)
name_byte b (inr (inr (inl h))) = omega (arith, h.0)
name_byte b (inr (inr (inr (inl e)))) = omega (arith, e)
name_byte b (inr (inr (inr (inr (inl e))))) = omega (arith, e)
name_byte b (inr (inr (inr (inr (inr (inl e)))))) = omega (arith, e)
name_byte b (inr (inr (inr (inr (inr (inr e)))))) = omega (arith, e)

plain_name : (field : Field) → IsName field → IsPlainField field
plain_name field is = All-weaker IsNameByte IsPlain (λ b h. plain_from b (name_byte b h)) field is.bytes

-- where no name has a number, its field is empty
pub plain_name_of : (names : List Field) (k : ℕ) → All IsName names → IsPlainField (name_of names k)
plain_name_of names k are = by_place (cases_lt k (length names))
  where
    by_place : (k < length names) ⊎ (length names ≤ k) → IsPlainField (name_of names k)
    by_place (inl within) = plain_name (name_of names k) (All-get_or IsName names k [] within are)
    by_place (inr past) = subst IsPlainField (sym (get_or_past names k [] past)) (All-nil IsPlain)

-- fields behind a word
pub plain_row : (kind : Field) (fields : List Field) → 0 < length kind → are_high kind ≡ true → All IsPlainField fields
    → IsPlainRow (kind ∷ fields)
plain_row kind fields some high are = record {
  some_field = λ e. let none : suc (length fields) ≡ 0 = ap length e in omega (arith, none);
  some_byte = λ e. let none : length kind ≡ 0 = ap (λ (row : Row). length (get_or row 0 [])) e in omega (arith, none);
  plain = All-cons IsPlainField kind fields (plain_word kind high) are;
}

-- one field, and two
pub one_field : (a : Field) → IsPlainField a → All IsPlainField (a ∷ [])
one_field a is = All-cons IsPlainField a [] is (All-nil IsPlainField)

pub two_fields : (a b : Field) → IsPlainField a → IsPlainField b → All IsPlainField (a ∷ b ∷ [])
two_fields a b is also = All-cons IsPlainField a (b ∷ []) is (one_field b also)

-- a cost, where there is one or not
pub plain_amount : (n : ℤ) → IsBetween (pos 0) MAX_COST n → IsPlainField (signed_decimal n)
plain_amount n within =
    let low = within.0 in let high = within.1 in plain_signed n (omega (arith, ints), omega (arith, ints))

pub plain_cost : (cost : Option ℤ) → IfSome cost (IsBetween (pos 0) MAX_COST) → IsPlainField (number_field cost)
plain_cost (Some n) within = plain_amount n within
plain_cost None within = plain_word (codes "none") refl

-- a price, and a table's kind
pub plain_price : (price : ℤ) → IsWithin MAX_PRINTED_PRICE price → IsPlainField (signed_decimal price)
plain_price n within =
    let low = within.0 in let high = within.1 in plain_signed n (omega (arith, ints), omega (arith, ints))

pub plain_kind : (ray : Bool) → IsPlainField (kind_field ray)
plain_kind true = plain_word (codes "ray") refl
plain_kind false = plain_word (codes "cost") refl
