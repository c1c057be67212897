-- The records that csv reads from bytes: there is one list of them, and it has no more fields and bytes than the text.
use Rattle.std.proofs.Common.{◌≡◌, ℕ, zero, suc, ◌+◌, ◌<◌, ◌≤◌, ◌⊎◌, inl, inr, Bool, true, false, cond, List, [], ◌∷◌, ◌++◌, length, Option, Some, None, refl, sym, ap, ◌∙◌, subst, arith}
use Rattle.std.proofs.lemmas.Bool.{false≢true}
use Rattle.std.proofs.lemmas.List.{length_push}
use Rattle.csv.specs.Machine.{Read, next_record, step, is_end, ends_at_end, fields_after, field_after}
use Rattle.csv.specs.Reading.{AreRecords, Reached}
use Rattle.csv.specs.declared.parser.Action.{Action}
use Rattle.csv.specs.declared.parser.Action.TheVariants as act
use Rattle.csv.specs.declared.parser.Config.{Config}
use Rattle.csv.specs.declared.parser.State.{State}
use Rattle.csv.specs.declared.parser.State.TheVariants as st
use Rattle.vs_reader.specs.Rows.{Field, Row}
use Rattle.vs_reader.specs.RowEnds.{row_weight, weight_of}

row_weight-cons : (f : Field) (row : Row) → row_weight (f ∷ row) ≡ length f + 1 + row_weight row
row_weight-cons f row = refl

weight_of-cons : (row : Row) (rows : List Row) → weight_of (row ∷ rows) ≡ row_weight row + weight_of rows
weight_of-cons row rows = refl

-- one field more
pub row_weight-push : (row : Row) (f : Field) → row_weight (row ++ f ∷ []) ≡ row_weight row + (length f + 1)
row_weight-push [] f = omega (arith, row_weight-cons f [])
row_weight-push (g ∷ row) f =
    omega (arith, row_weight-push row f, row_weight-cons g row, row_weight-cons g (row ++ f ∷ []))

pub weight_of-push : (rows : List Row) (row : Row) → weight_of (rows ++ row ∷ []) ≡ weight_of rows + row_weight row
weight_of-push [] row = omega (arith, weight_of-cons row [])
weight_of-push (r ∷ rows) row =
    omega (arith, weight_of-push rows row, weight_of-cons r rows, weight_of-cons r (rows ++ row ∷ []))

-- what a byte adds that doesn't end the record
byte_adds : (a : Action) (fields : Row) (field : Field) (c : ℕ) → is_end a ≡ false
    → row_weight (fields_after a fields field) + length (field_after a c field) ≤ row_weight fields + length field + 1
byte_adds act.Skip fields field c goes = omega arith
byte_adds act.Copy fields field c goes = omega (arith, length_push field c)
byte_adds act.EndField fields field c goes = omega (arith, row_weight-push fields field)
byte_adds act.EndRecord fields field c goes = absurd (false≢true (sym goes))

-- and one that does
end_adds : (a : Action) (fields : Row) (field : Field) → is_end a ≡ true
    → row_weight (fields_after a fields field) ≡ row_weight fields + length field + 1
end_adds act.Skip fields field ends = absurd (false≢true ends)
end_adds act.Copy fields field ends = absurd (false≢true ends)
end_adds act.EndField fields field ends = absurd (false≢true ends)
end_adds act.EndRecord fields field ends = omega (arith, row_weight-push fields field)

-- A record that was read has some field. What it and the text after it weigh is no more than what the text weighed, or
-- the record was the last and
-- was ended by the end of the text.
pub record IsLighter (weight : ℕ) (p : Read) : Type 0 where
  pub some : 1 ≤ row_weight p.0
  pub lighter : (row_weight p.0 + length p.2 ≤ weight)
      ⊎ ((p.1 ≡ st.StartRecord) × (p.2 ≡ []) × (row_weight p.0 ≤ weight + 1))

lighter_more : (w v : ℕ) (p : Read) → w ≤ v → IsLighter w p → IsLighter v p
lighter_more w v p le is = record {
  some = is.some;
  lighter = elim is.lighter [
    | inl less ↦ inl (omega arith)
    | inr last ↦ inr (last.0, last.1, omega (arith, last.2))
  ];
}

pub next_lighter : (cfg : Config) (s : State) (fields : Row) (field : Field) (xs : List ℕ) (p : Read)
    → next_record cfg s fields field xs ≡ Some p
    → IsLighter (row_weight fields + length field + length xs) p
unfolding next_record
next_lighter cfg s fields field [] p is =
    elim (ends_at_end s) as (λ b. cond b (Some (fields ++ (field ∷ []), st.StartRecord, [])) None ≡ Some p
    → IsLighter (row_weight fields + length field + 0) p) [
      | true ↦ λ at.
          let same : (fields ++ (field ∷ []), st.StartRecord, []) ≡ p = cc in
          subst (IsLighter (row_weight fields + length field + 0)) same (record {
            some = omega (arith, row_weight-push fields field);
            lighter = inr (refl, refl, omega (arith, row_weight-push fields field));
          })
      | false ↦ λ at. cc
    ] is
next_lighter cfg s fields field (c ∷ rest) p is =
    by (is_end (step cfg s c).1) refl is
    (next_lighter cfg (step cfg s c).0 (fields_after (step cfg s c).1 fields field)
    (field_after (step cfg s c).1 c field) rest p)
  where
    after : Option Read
    after = next_record cfg (step cfg s c).0 (fields_after (step cfg s c).1 fields field)
        (field_after (step cfg s c).1 c field) rest

    by : (b : Bool) → is_end (step cfg s c).1 ≡ b
        → cond b (Some (fields_after (step cfg s c).1 fields field, (step cfg s c).0, rest)) after ≡ Some p
        → (after ≡ Some p
        → IsLighter
        (row_weight (fields_after (step cfg s c).1 fields field) + length (field_after (step cfg s c).1 c field)
        + length rest) p)
        → IsLighter (row_weight fields + length field + suc (length rest)) p
    by true ends at more =
        let same : (fields_after (step cfg s c).1 fields field, (step cfg s c).0, rest) ≡ p = cc in
        let weight = end_adds (step cfg s c).1 fields field ends in
        subst (IsLighter (row_weight fields + length field + suc (length rest))) same (record {
          some = omega arith;
          lighter = inl (omega arith);
        })
    by false goes at more =
        let weight = byte_adds (step cfg s c).1 fields field c goes in
        lighter_more _ _ p (omega arith) (more at)

-- a record takes some bytes, or it was ended by the end of the text
pub next_shorter : (cfg : Config) (s : State) (fields : Row) (field : Field) (xs : List ℕ) (p : Read)
    → next_record cfg s fields field xs ≡ Some p
    → (length p.2 < length xs) ⊎ ((p.1 ≡ st.StartRecord) × (p.2 ≡ []))
unfolding next_record
next_shorter cfg s fields field [] p is =
    elim (ends_at_end s) as (λ b. cond b (Some (fields ++ (field ∷ []), st.StartRecord, [])) None ≡ Some p
    → (length p.2 < 0) ⊎ ((p.1 ≡ st.StartRecord) × (p.2 ≡ []))) [
      | true ↦ λ at.
          let same : (fields ++ (field ∷ []), st.StartRecord, []) ≡ p = cc in
          inr (ap (λ (q : Read). q.1) (sym same), ap (λ (q : Read). q.2) (sym same))
      | false ↦ λ at. cc
    ] is
next_shorter cfg s fields field (c ∷ rest) p is =
    by (is_end (step cfg s c).1) refl is
    (next_shorter cfg (step cfg s c).0 (fields_after (step cfg s c).1 fields field)
    (field_after (step cfg s c).1 c field) rest p)
  where
    after : Option Read
    after = next_record cfg (step cfg s c).0 (fields_after (step cfg s c).1 fields field)
        (field_after (step cfg s c).1 c field) rest

    by : (b : Bool) → is_end (step cfg s c).1 ≡ b
        → cond b (Some (fields_after (step cfg s c).1 fields field, (step cfg s c).0, rest)) after ≡ Some p
        → (after ≡ Some p → (length p.2 < length rest) ⊎ ((p.1 ≡ st.StartRecord) × (p.2 ≡ [])))
        → (length p.2 < suc (length rest)) ⊎ ((p.1 ≡ st.StartRecord) × (p.2 ≡ []))
    by true ends at more =
        let same : (fields_after (step cfg s c).1 fields field, (step cfg s c).0, rest) ≡ p = cc in
        let tail : rest ≡ p.2 = ap (λ (q : Read). q.2) same in
        inl (omega (arith, ap (λ (ys : List ℕ). length ys) tail))
    by false goes at more =
        elim (more at) [
          | inl less ↦ inl (omega arith)
          | inr last ↦ inr last
        ]

-- a text has records
all_records : (cfg : Config) (n : ℕ) (s : State) (xs : List ℕ) → length xs < n → (rows : List Row)
    × AreRecords cfg s xs rows
unfolding next_record Reached
all_records cfg zero s xs few = absurd (omega arith)
all_records cfg (suc n) s xs few =
    by (next_record cfg s [] [] xs) refl (λ p less. all_records cfg n p.1 p.2 (omega arith))
  where
    by : (o : Option Read) → next_record cfg s [] [] xs ≡ o
        → ((p : Read) → length p.2 < length xs → (rows : List Row) × AreRecords cfg p.1 p.2 rows)
        → (rows : List Row) × AreRecords cfg s xs rows
    by None is later = ([], (s, xs, (refl, refl), is))
    by (Some p) is later =
        elim (next_shorter cfg s [] [] xs p is) [
          | inl less ↦
              let more = later p less in
              (p.0 ∷ more.0, (more.1.0, more.1.1, (p, is, refl, more.1.2), more.1.3))
          | inr last ↦ (p.0 ∷ [], (st.StartRecord, [], (p, is, refl, (last.0, last.1)), refl))
        ]

pub has_records : (cfg : Config) (s : State) (xs : List ℕ) → (rows : List Row) × AreRecords cfg s xs rows
has_records cfg s xs = all_records cfg (suc (length xs)) s xs (omega arith)

-- and these alone
same_reached : (cfg : Config) (s s2 s3 : State) (xs ys zs : List ℕ) (rows others : List Row)
    → Reached cfg s xs rows s2 ys → next_record cfg s2 [] [] ys ≡ None
    → Reached cfg s xs others s3 zs → next_record cfg s3 [] [] zs ≡ None → others ≡ rows
unfolding Reached
same_reached cfg s s2 s3 xs ys zs [] [] r end q end' = refl
same_reached cfg s s2 s3 xs ys zs [] (o ∷ others) r end q end' =
    let none : next_record cfg s [] [] xs ≡ None = (λ i. next_record cfg (r.0 i) [] [] (r.1 i)) ∙ end in
    let some = q.1 in
    absurd (cc)
same_reached cfg s s2 s3 xs ys zs (row ∷ rows) [] r end q end' =
    let none : next_record cfg s [] [] xs ≡ None = (λ i. next_record cfg (q.0 i) [] [] (q.1 i)) ∙ end' in
    let some = r.1 in
    absurd (cc)
same_reached cfg s s2 s3 xs ys zs (row ∷ rows) (o ∷ others) r end q end' =
    let same : q.0 ≡ r.0 = (let a = q.1 in let b = r.1 in cc) in
    let later : Reached cfg r.0.1 r.0.2 others s3 zs =
    subst (λ (p : Read). Reached cfg p.1 p.2 others s3 zs) same q.3 in
    (λ i. (q.2 ∙ ap (λ (p : Read). p.0) same ∙ sym r.2) i
    ∷ same_reached cfg r.0.1 s2 s3 r.0.2 ys zs rows others r.3 end later end' i)

pub same_records : (cfg : Config) (s : State) (xs : List ℕ) (rows others : List Row) → AreRecords cfg s xs rows
    → AreRecords cfg s xs others → others ≡ rows
same_records cfg s xs rows others are other =
    same_reached cfg s are.0 other.0 xs are.1 other.1 rows others are.2 are.3 other.2 other.3

-- records have no more fields and bytes than the text, but for the one field that its end may end
reached_lighter : (cfg : Config) (s s2 : State) (xs ys : List ℕ) (rows : List Row) → Reached cfg s xs rows s2 ys
    → weight_of rows ≤ length xs + 1
unfolding next_record Reached
reached_lighter cfg s s2 xs ys [] r = omega arith
reached_lighter cfg s s2 xs ys (row ∷ rows) (p, is, row_is, later) =
    let light = next_lighter cfg s [] [] xs p is in
    let same : row_weight row ≡ row_weight p.0 = ap row_weight row_is in
    elim light.lighter [
      | inl less ↦ omega (arith, reached_lighter cfg p.1 s2 p.2 ys rows later, weight_of-cons row rows)
      | inr last ↦
          let none =
          no_more rows
          (subst (λ (zs : List ℕ). Reached cfg st.StartRecord zs rows s2 ys) last.1
          (subst (λ (q : State). Reached cfg q p.2 rows s2 ys) last.0 later)) in
          omega (arith, last.2, ap weight_of none, weight_of-cons row rows)
    ]
  where
    no_more : (rows : List Row) → Reached cfg st.StartRecord [] rows s2 ys → rows ≡ []
    no_more [] r = refl
    no_more (row ∷ rows) r = let some = r.1 in cc

pub weight_of-records : (cfg : Config) (s : State) (xs : List ℕ) (rows : List Row) → AreRecords cfg s xs rows
    → weight_of rows ≤ length xs + 1
weight_of-records cfg s xs rows are = reached_lighter cfg s are.0 xs are.1 rows are.2

-- each has a field
reached_some : (cfg : Config) (s s2 : State) (xs ys : List ℕ) (rows : List Row) → Reached cfg s xs rows s2 ys
    → length rows ≤ weight_of rows
unfolding Reached
reached_some cfg s s2 xs ys [] r = omega arith
reached_some cfg s s2 xs ys (row ∷ rows) (p, is, row_is, later) =
    let light = next_lighter cfg s [] [] xs p is in
    omega (arith, light.some, ap row_weight row_is, reached_some cfg p.1 s2 p.2 ys rows later, weight_of-cons row rows)

pub length-records : (cfg : Config) (s : State) (xs : List ℕ) (rows : List Row) → AreRecords cfg s xs rows
    → length rows ≤ weight_of rows
length-records cfg s xs rows are = reached_some cfg s are.0 xs are.1 rows are.2
