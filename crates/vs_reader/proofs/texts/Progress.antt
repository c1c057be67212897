-- How far the reading of the records of an instance has come.
use Rattle.std.proofs.Common.{◌≡◌, ℕ, ◌+◌, inl, inr, Bool, true, false, cond, List, [], ◌∷◌, ◌++◌, length, Option, Err, append_assoc, append-nil, refl, sym, ap, ◌∙◌, subst, arith}
use Rattle.std.specs.List.{enumerate_from}
use Rattle.std.specs.Prelude.{map, filter}
use Rattle.std.proofs.lemmas.List.{length_push, map-append}
use Rattle.csv.specs.Records.{fields_of}
use Rattle.vs_reader.specs.declared.kind.Kind.{Kind}
use Rattle.vs_reader.specs.declared.draft.Draft.{Draft}
use Rattle.vs_reader.specs.declared.reading.Declarations.{Declarations}
use Rattle.vs_reader.specs.declared.refused.Refused.{Refused}
use Rattle.vs_reader.specs.declared.refused.Why.{Why}
use Rattle.vs_reader.specs.declared.text_records.TextRecords.{TextRecords}
use Rattle.vs_reader.specs.declared.version.Version.{Version}
use Rattle.vs_reader.specs.Rows.{Row, field_of}
use Rattle.vs_reader.specs.Names.{NameLists}
use Rattle.vs_reader.specs.Kinds.{is_result, before_result, kind_of}
use Rattle.vs_reader.specs.InstanceText.{Declared, AddAll, nothing_yet}
use Rattle.vs_reader.specs.Rules.{Rule, AreKept, BreaksFirst, rules}
use Rattle.vs_reader.specs.Judged.{JudgedOrMemory}
use Rattle.vs_reader.specs.ReadErrors.{RefusesAs, error_at}
use Rattle.vs_reader.specs.declared.record.RecordError.{RecordError}
use Rattle.vs_reader.specs.declared.record.RecordError.TheVariants as error
use Rattle.vs_reader.specs.Refusals.{BreaksRule, numbers_of, is_deadhead, is_layer, is_trip}
use Rattle.vs_reader.specs.RecordNumbers.{HasNumbers, with_number}
use Rattle.vs_reader.specs.Drafts.{declared_of, AddsRecord}
use Rattle.vs_reader.specs.Left.{AreLeft, GivesNext}
use Rattle.vs_reader.specs.Declarations.{AreDeclared}
use Rattle.vs_reader.proofs.declaring.DeclaredLemmas.{AddAll-push}
use Rattle.vs_reader.proofs.declaring.KindLemmas.{names_after}

-- one record more, of the kind or not
enumerate_from-push : (n : ℕ) (rows : List Row) (row : Row)
    → enumerate_from n (rows ++ row ∷ []) ≡ enumerate_from n rows ++ (n + length rows, row) ∷ []
enumerate_from-push n [] row = ap (λ (m : ℕ). (m, row) ∷ []) (omega arith)
enumerate_from-push n (r ∷ rows) row =
    let rest = enumerate_from-push (n + 1) rows row in
    let same : (n + 1) + length rows ≡ n + length (r ∷ rows) = omega arith in
    ap (λ (es : List (ℕ × Row)). (n, r) ∷ es) (rest ∙ ap (λ (m : ℕ). enumerate_from (n + 1) rows ++ (m, row) ∷ []) same)

filter-push : (p : ℕ × Row → Bool) (es : List (ℕ × Row)) (e : ℕ × Row)
    → filter p (es ++ e ∷ []) ≡ filter p es ++ cond (p e) (e ∷ []) []
filter-push p [] e = elim (p e) as (λ b. cond b (e ∷ []) [] ≡ cond b (e ∷ []) []) [ true ↦ refl | false ↦ refl ]
filter-push p (x ∷ es) e =
    let rest = filter-push p es e in
    elim (p x) as
    (λ b. cond b (x ∷ filter p (es ++ e ∷ [])) (filter p (es ++ e ∷ []))
    ≡ cond b (x ∷ filter p es) (filter p es) ++ cond (p e) (e ∷ []) []) [
      | true ↦ ap (λ (fs : List (ℕ × Row)). x ∷ fs) rest
      | false ↦ rest
    ]

pub numbers_of-push : (is_of : Option Kind → Bool) (rows : List Row) (row : Row) (n : ℕ) → n ≡ length rows + 2
    → numbers_of is_of (rows ++ row ∷ []) ≡ with_number is_of n row (numbers_of is_of rows)
numbers_of-push is_of rows row n is =
    let p : ℕ × Row → Bool = λ e. is_of (kind_of (field_of e.1 0)) in
    let number : 2 + length rows ≡ n = omega arith in
    ap (λ (es : List (ℕ × Row)). map (λ (e : ℕ × Row). e.0) (filter p es))
    (enumerate_from-push 2 rows row ∙ ap (λ (m : ℕ). enumerate_from 2 rows ++ (m, row) ∷ []) number)
    ∙ ap (λ (es : List (ℕ × Row)). map (λ (e : ℕ × Row). e.0) es) (filter-push p (enumerate_from 2 rows) (n, row))
    ∙ map-append (λ (e : ℕ × Row). e.0) (filter p (enumerate_from 2 rows))
    (cond (is_of (kind_of (field_of row 0))) ((n, row) ∷ []) [])
    ∙ elim (is_of (kind_of (field_of row 0))) as
    (λ b. numbers_of is_of rows ++ map (λ (e : ℕ × Row). e.0) (cond b ((n, row) ∷ []) [])
    ≡ cond b (numbers_of is_of rows ++ n ∷ []) (numbers_of is_of rows)) [
      | true ↦ refl
      | false ↦ append-nil (numbers_of is_of rows)
    ]

-- Of all rows some are done, and a draft has what they declare by the rules of this version; the others are left. The
-- next record has this number.
pub record IsProgress (version : Version) (rows : List Row) (number : ℕ) (draft : Draft) (records : TextRecords)
    : Type 0 where
  pub done : List Row
  pub left : List Row
  pub rows_are : rows ≡ done ++ left
  pub count : number ≡ length done + 2
  pub before : (more : List Row) → before_result (done ++ more) ≡ done ++ before_result more
  pub declares : AddAll version nothing_yet done (declared_of draft)
  pub numbers : HasNumbers draft.numbers done
  pub refuses : (more : List Row) (refused : Refused) → BreaksRule version number draft.names more refused
      → BreaksRule version 2 nothing_yet.names (done ++ more) refused
  pub left_are : AreLeft records left

pub IsProgress-start : (version : Version) (rows : List Row) (draft : Draft) (records : TextRecords)
    → declared_of draft ≡ nothing_yet → HasNumbers draft.numbers [] → AreLeft records rows
    → IsProgress version rows 2 draft records
IsProgress-start version rows draft records is numbers left = record {
  done = [];
  left = rows;
  rows_are = refl;
  count = refl;
  before = λ more. refl;
  declares = is;
  numbers = numbers;
  refuses = λ more refused breaks. subst (λ (d : Declared). BreaksRule version 2 d.names more refused) is breaks;
  left_are = left;
}

-- a record that isn't a `result` record
before_more : (row : Row) (more : List Row) → is_result row ≡ false
    → before_result (row ∷ more) ≡ row ∷ before_result more
before_more row more is = ap (λ (b : Bool). cond b [] (row ∷ before_result more)) is

module _ (version : Version) (rows : List Row) (number : ℕ) (draft : Draft) (old : TextRecords)
    (at : IsProgress version rows number draft old) where
  -- one more record is done
  module _ (row : Row) (rest : List Row) (new : TextRecords) (after : Draft) (left : at.left ≡ row ∷ rest)
      (left_are : AreLeft new rest) (other : is_result row ≡ false)
      (kept : AreKept (rules version draft.names row)) (adds : AddsRecord version number draft row after) where
    pub IsProgress-more : IsProgress version rows (number + 1) after new
    IsProgress-more = record {
      done = at.done ++ row ∷ [];
      left = rest;
      rows_are = at.rows_are ∙ ap (λ (rs : List Row). at.done ++ rs) left ∙ sym (append_assoc at.done (row ∷ []) rest);
      count = omega (arith, at.count, length_push at.done row);
      before = λ more.
          ap before_result (append_assoc at.done (row ∷ []) more) ∙ at.before (row ∷ more)
          ∙ ap (λ (rs : List Row). at.done ++ rs) (before_more row more other)
          ∙ sym (append_assoc at.done (row ∷ []) (before_result more));
      declares =
          AddAll-push version nothing_yet (declared_of draft) (declared_of after) at.done row at.declares adds.declared;
      numbers = record {
        deadheads =
            adds.deadheads ∙ ap (with_number is_deadhead number row) at.numbers.deadheads
            ∙ sym (numbers_of-push is_deadhead at.done row number at.count);
        layers = adds.layers ∙ ap (with_number is_layer number row) at.numbers.layers
            ∙ sym (numbers_of-push is_layer at.done row number at.count);
        trips = adds.trips ∙ ap (with_number is_trip number row) at.numbers.trips
            ∙ sym (numbers_of-push is_trip at.done row number at.count);
      };
      refuses = λ more refused breaks.
          subst (λ (rs : List Row). BreaksRule version 2 nothing_yet.names rs refused)
          (sym (append_assoc at.done (row ∷ []) more))
          (at.refuses (row ∷ more) refused
          (inr (
            kept,
            subst (λ (ns : NameLists). BreaksRule version (number + 1) ns more refused)
                (sym (names_after version (declared_of draft) row (declared_of after) adds.declared)) breaks,
          )));
      left_are = left_are;
    }

  -- the next record breaks a rule
  pub refused_next : (row : Row) (rest : List Row) (why : Why) → at.left ≡ row ∷ rest → is_result row ≡ false
      → BreaksFirst (rules version draft.names row) why
      → BreaksRule version 2 nothing_yet.names (before_result rows) (record { row = number; why = why })
  refused_next row rest why left other breaks =
      let refused : Refused = record { row = number; why = why } in
      let all : before_result rows ≡ at.done ++ row ∷ before_result rest =
      ap before_result (at.rows_are ∙ ap (λ (rs : List Row). at.done ++ rs) left) ∙ at.before (row ∷ rest)
      ∙ ap (λ (rs : List Row). at.done ++ rs) (before_more row rest other) in
      subst (λ (rs : List Row). BreaksRule version 2 nothing_yet.names rs refused) (sym all)
      (at.refuses (row ∷ before_result rest) refused (inl (refl, breaks)))

  -- nothing is left, or a `result` record is next
  pub declared_there : (d : Declarations) (new : TextRecords) → d.draft ≡ draft → d.before + 1 ≡ number
      → GivesNext new at.left d.in_rest → before_result at.left ≡ []
      → AreDeclared version rows new d
  declared_there d new draft_is before_is next none =
      let all : before_result rows ≡ at.done =
      ap before_result at.rows_are ∙ at.before at.left ∙ ap (λ (rs : List Row). at.done ++ rs) none
      ∙ append-nil at.done in
      record {
        left = at.left;
        rows_are = at.rows_are ∙ ap (λ (rs : List Row). rs ++ at.left) (sym all);
        before = omega (arith, at.count, ap (λ (rs : List Row). length rs) all);
        declares = subst (λ (f : Draft). AddAll version nothing_yet (before_result rows) (declared_of f)) (sym draft_is)
            (subst (λ (rs : List Row). AddAll version nothing_yet rs (declared_of draft)) (sym all) at.declares);
        numbers = subst (λ (f : Draft). HasNumbers f.numbers (before_result rows)) (sym draft_is)
            (subst (λ (rs : List Row). HasNumbers draft.numbers rs) (sym all) at.numbers);
        left_are = next;
      }

-- what is next where reading ends
pub ends_none : (records : TextRecords) (left : List Row) (found : Bool) → GivesNext records left found
    → (found ≡ true → is_result (fields_of records.current) ≡ true) → before_result left ≡ []
ends_none records left true next result =
    ap before_result next.1
    ∙ ap (λ (b : Bool). cond b [] (fields_of records.current ∷ before_result next.0)) (result refl)
ends_none records left false next result = ap before_result next

-- a refusal of the next record is told at its number
pub add_refuses : (version : Version) (rows : List Row) (rs : List Rule) (P : Type 0) (n : ℕ) (e : RecordError)
    → JudgedOrMemory {X = Unit {0}} rs P (Err e)
    → ((why : Why) → BreaksFirst rs why
    → BreaksRule version 2 nothing_yet.names (before_result rows) (record { row = n; why = why }))
    → RefusesAs (BreaksRule version 2 nothing_yet.names (before_result rows)) (error_at n e)
add_refuses version rows rs P n (error.Refused why) judged refuse = refuse why judged
add_refuses version rows rs P n error.Memory judged refuse = tt
