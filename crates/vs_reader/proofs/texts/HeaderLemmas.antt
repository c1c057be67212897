-- The first record of a text, and its version.
use Rattle.std.proofs.Common.{◌≡◌, Bool, true, false, cond, eqb, ◌&&◌, List, [], ◌∷◌, length, MatchOption, Option, Some, None, refl, sym, ap, ◌∙◌, arith}
use Rattle.std.specs.Prelude.{codes}
use Rattle.std.specs.Str.{bytes_eq}
use Rattle.std.proofs.lemmas.Bool.{and_parts, eqb-true}
use Rattle.std.proofs.lemmas.Option.{same_Some}
use Rattle.std.proofs.lemmas.Slice.Eq.{bytes_eq-Decides}
use Rattle.csv.specs.Records.{fields_of}
use Rattle.vs_reader.specs.declared.text_records.TextRecords.{TextRecords}
use Rattle.vs_reader.specs.declared.version.Version.{Version}
use Rattle.vs_reader.specs.declared.version.Version.TheVariants.{One, Two, Three}
use Rattle.vs_reader.specs.Rows.{Field, Row, field_of, row_of}
use Rattle.vs_reader.specs.Versions.{header, version_name, version_of, HasHeader}
use Rattle.vs_reader.specs.Left.{GivesNext}

two_fields : (row : Row) (f g : Field) → length row ≡ 2 → field_of row 0 ≡ f → field_of row 1 ≡ g → row ≡ f ∷ g ∷ []
two_fields [] f g two is_f is_g = absurd (omega arith)
two_fields (a ∷ []) f g two is_f is_g = absurd (omega arith)
two_fields (a ∷ b ∷ []) f g two is_f is_g = λ i. is_f i ∷ is_g i ∷ []
two_fields (a ∷ b ∷ c ∷ row) f g two is_f is_g = absurd (omega arith)

-- a record that says a version is its header
header_of : (row : Row) (version : Version) → version_of row ≡ Some version → row ≡ header version
header_of row version is =
    let begins = eqb (length row) 2 && bytes_eq (field_of row 0) (codes "instance") in
    let one = bytes_eq (field_of row 1) (codes "1") in
    let two = bytes_eq (field_of row 1) (codes "2") in
    let three = bytes_eq (field_of row 1) (codes "3") in
    let parts = some_of begins one two three version is in
    let both = and_parts (eqb (length row) 2) (bytes_eq (field_of row 0) (codes "instance")) parts.0 in
    two_fields row (codes "instance") (version_name version) (eqb-true (length row) 2 both.0)
    ((bytes_eq-Decides (field_of row 0) (codes "instance")).0 both.1) (named parts.1)
  where
    -- what a choice among the three says
    Says : Bool → Bool → Bool → Version → Type 0
    Says one two three One = one ≡ true
    Says one two three Two = two ≡ true
    Says one two three Three = three ≡ true

    some_of : (begins one two three : Bool) (version : Version)
        → cond begins (cond one (Some One) (cond two (Some Two) (cond three (Some Three) None))) None ≡ Some version
        → (begins ≡ true) × Says one two three version
    some_of true true two three One is = (refl, refl)
    some_of true true two three Two is = cc
    some_of true true two three Three is = cc
    some_of true false true three One is = cc
    some_of true false true three Two is = (refl, refl)
    some_of true false true three Three is = cc
    some_of true false false true One is = cc
    some_of true false false true Two is = cc
    some_of true false false true Three is = (refl, refl)
    some_of true false false false version is = cc
    some_of false one two three version is = cc

    SaysIn : Version → Type 0
    SaysIn = Says (bytes_eq (field_of row 1) (codes "1")) (bytes_eq (field_of row 1) (codes "2"))
        (bytes_eq (field_of row 1) (codes "3"))

    named : SaysIn version → field_of row 1 ≡ version_name version
    named = by version
      where
        by : (v : Version) → SaysIn v → field_of row 1 ≡ version_name v
        by One says = (bytes_eq-Decides (field_of row 1) (codes "1")).0 says
        by Two says = (bytes_eq-Decides (field_of row 1) (codes "2")).0 says
        by Three says = (bytes_eq-Decides (field_of row 1) (codes "3")).0 says

version_of-header : (version : Version) → version_of (header version) ≡ Some version
version_of-header One = refl
version_of-header Two = refl
version_of-header Three = refl

-- what reading the first record answers
pub header_read : (records : TextRecords) (rows : List Row) (said : Option Version) → GivesNext records rows true
    → said ≡ version_of (fields_of records.current)
    → MatchOption said ((version : Version) → ¬ (HasHeader version rows))
    (λ version. HasHeader version rows × GivesNext records rows true)
header_read records rows (Some version) next is = (
  ap (λ (rs : List Row). row_of rs 0) next.1 ∙ header_of (fields_of records.current) version (sym is),
  next,
)
header_read records rows None next is = λ version has.
    let same : fields_of records.current ≡ header version = ap (λ (rs : List Row). row_of rs 0) (sym next.1) ∙ has in
    let says : None ≡ Some version = is ∙ ap version_of same ∙ version_of-header version in
    cc

pub no_header : (rows : List Row) → rows ≡ [] → (version : Version) → ¬ (HasHeader version rows)
no_header rows none version has = let empty : [] ≡ header version =
    ap (λ (rs : List Row). row_of rs 0) (sym none) ∙ has in absurd (omega (arith, ap (λ (r : Row). length r) empty))

-- a text has one version
pub one_version : (rows : List Row) (version other : Version) → HasHeader version rows → HasHeader other rows
    → version ≡ other
one_version rows version other has also =
    same_Some version other
    (sym (version_of-header version) ∙ ap version_of (sym has ∙ also) ∙ version_of-header other)
