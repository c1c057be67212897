-- Names as texts, and numbered lists of names.
use Rattle.std.proofs.Common.{◌≡◌, ℕ, ◌<◌, inl, inr, List, [], length, Option, Some, Result, Ok, Err, MatchOption, MatchResult, Contains, sym, ap, ◌∙◌, arith, Bor}
use Rattle.std.specs.Prelude.{All, AllPairs}
use Rattle.std.specs.Result.{result_ok}
use Rattle.std.specs.Str.{IsUtf8}
use Rattle.std.proofs.lemmas.Bool.{cases_lt, cases_order}
use Rattle.std.proofs.lemmas.List.{get_or_past}
use Rattle.std.proofs.lemmas.List.Elements.{All-get_or}
use Rattle.std.proofs.lemmas.Option.{slice_get-get_or, slice_get_within, get_or_from_slice_get}
use Rattle.std.proofs.lemmas.Str.{IsUtf8-from_ascii}
use Rattle.vs_reader.specs.Rows.{Field}
use Rattle.vs_reader.specs.Names.{IsName, IsNameByte, Names}

-- a byte of a name is one of ASCII
pub name_byte_below : (b : ℕ) → IsNameByte b → b < 128
name_byte_below b h = grind arith

-- a name is text
pub IsUtf8-name : (field : Field) → All IsNameByte field → IsUtf8 field
IsUtf8-name field bytes = IsUtf8-from_ascii field (λ i. elim (cases_lt i (length field)) [
  | inl within ↦ name_byte_below _ (All-get_or IsNameByte field i 0 within bytes)
  | inr past ↦ let none = get_or_past field i 0 past in omega (arith, none)
])

-- what a name read as text is
pub name_from_utf8 : {E : Type 0} (Q : E → Type 0) (field : Field) (r : Result (Bor (List ℕ)) E)
    (o : Option (Bor (List ℕ)))
    → IsName field
    → MatchResult r (λ s. (s.now ≡ field) × IsUtf8 field) (λ e. ¬ (IsUtf8 field) × Q e)
    → o ≡ result_ok r
    → MatchOption o (¬ (IsName field)) (λ name. (name.now ≡ field) × IsName field)
name_from_utf8 Q field (Ok s) o name read is = rw is (read.0, name)
name_from_utf8 Q field (Err e) o name read is = absurd (read.0 (IsUtf8-name field name.bytes))

-- one name has one number
pub same_number : (names : List Field) (f : Field) (j k : ℕ) → AllPairs (λ f g. ¬ (f ≡ g)) names → Names names f j
    → Names names f k → j ≡ k
same_number names f j k apart at_j at_k =
    let in_j = slice_get_within names j f at_j in
    let in_k = slice_get_within names k f at_k in
    let is_j = get_or_from_slice_get names j f [] at_j in
    let is_k = get_or_from_slice_get names k f [] at_k in
    elim (cases_order j k) [
      | inl same ↦ same
      | inr either ↦ elim either [
        | inl before ↦ absurd (apart j k [] before in_k (is_j ∙ sym is_k))
        | inr after ↦ absurd (apart k j [] after in_j (is_k ∙ sym is_j))
      ]
    ]

-- a numbered name is contained
pub Contains-Names : (names : List Field) (f : Field) (k : ℕ) → Names names f k → Contains names f
Contains-Names names f k at = (k, slice_get_within names k f at, get_or_from_slice_get names k f f at)

pub Names-Contains : (names : List Field) (f : Field) → Contains names f → (k : ℕ) × Names names f k
Names-Contains names f among = (among.0, slice_get-get_or names among.0 f among.1 ∙ ap Some among.2)
