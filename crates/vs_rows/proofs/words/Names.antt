-- The fields that name layers and trips.
use Rattle.std.proofs.Common.{◌≡◌, ℕ, ◌+◌, ◌-◌, ◌<◌, ◌≤◌, List, [], ◌∷◌, ◌++◌, length, get_or, map, take, drop, refl, sym, ap, ◌∙◌, subst, inl, inr, arith, All}
use Rattle.std.specs.Str.{IsUtf8, IsAscii}
use Rattle.std.proofs.lemmas.Bool.{cases_lt, cases_order}
use Rattle.std.proofs.lemmas.List.{get_or_past, get_or-map, map_push, length-map, take_all, take_more, get_or-drop, length-drop}
use Rattle.std.proofs.lemmas.List.Elements.{All-push, All-head, All-tail}
use Rattle.std.proofs.lemmas.Str.{IsUtf8-from_ascii}
use Rattle.vs_types.specs.declared.numbers.TripNo.{TripNo}
use Rattle.vs_reader.specs.Rows.{Field}
use Rattle.vs_reader.specs.Names.{IsName}
use Rattle.vs_reader.specs.NameRules.{AreNames}
use Rattle.vs_reader.specs.Names.{name_of}
use Rattle.vs_reader.proofs.CallerLemmas.{name_byte_below}
use Rattle.vs_rows.specs.RowForms.{NameTrips}

ascii_name : (field : Field) → IsName field → IsAscii field
ascii_name field name i = elim (cases_lt i (length field)) [
  | inl lt ↦ name_byte_below (get_or field i 0) (name.bytes i 0 lt)
  | inr ge ↦ omega (arith, get_or_past field i 0 ge)
]

pub utf8_name : (names : List Field) (k : ℕ) → AreNames names → k < length names → IsUtf8 (name_of names k)
utf8_name names k are lt = IsUtf8-from_ascii _ (ascii_name _ (are.each k [] lt))

-- a field that isn't UTF-8 is no name
pub no_name : (names : List Field) (field : Field) → AreNames names → ¬ (IsUtf8 field) → (k : ℕ) → k < length names
    → ¬ (field ≡ name_of names k)
no_name names field are wrong k lt e = let P : List ℕ → Type 0 =
    λ f. IsUtf8 f in wrong (subst P (sym e) (utf8_name names k are lt))

pub name_trips_more : (names fields : List Field) (field : Field) (trips : List TripNo) (t : TripNo)
    → NameTrips names fields trips
    → t.0 < length names → field ≡ name_of names t.0 → NameTrips names (fields ++ field ∷ []) (trips ++ t ∷ [])
name_trips_more names fields field trips t named lt e = record {
  fields_are =
      ap (λ (fs : List Field). fs ++ field ∷ []) named.fields_are
      ∙ ap (λ (f : Field). map (λ (u : TripNo). name_of names u.0) trips ++ f ∷ []) e
      ∙ sym (map_push (λ (u : TripNo). name_of names u.0) trips t);
  trips_are = All-push (λ u. u.0 < length names) trips t named.trips_are lt;
}

-- field k is the name of trip k
pub name_trips_at : (names fields : List Field) (trips : List TripNo) → NameTrips names fields trips → (k : ℕ)
    → k < length fields
    → (t : TripNo) × (t.0 < length names) × (get_or fields k [] ≡ name_of names t.0)
name_trips_at names fields trips named k lt =
    let no_trip : TripNo = record { 0 = 0 } in
    let within : k < length trips =
    omega (arith, ap length named.fields_are, length-map trips (λ (u : TripNo). name_of names u.0)) in (
      get_or trips k no_trip,
      named.trips_are k no_trip within,
      ap (λ (fs : List Field). get_or fs k []) named.fields_are
          ∙ get_or-map (λ (u : TripNo). name_of names u.0) trips k no_trip [] within,
    )

-- a field that names none of the trips
pub no_trips : (names fields : List Field) (k : ℕ) → k < length fields
    → ((i : ℕ) → i < length names → ¬ (get_or fields k [] ≡ name_of names i))
    → (trips : List TripNo) → ¬ (NameTrips names fields trips)
no_trips names fields k lt none trips named = let at =
    name_trips_at names fields trips named k lt in none at.0.0 at.1 at.2

-- the same of the fields of a row from the third on
pub no_trips_in_row : (names row : List Field) (k : ℕ) (field : Field) → 2 ≤ k → k < length row
    → field ≡ get_or row k []
    → ((i : ℕ) → i < length names → ¬ (field ≡ name_of names i)) → (trips : List TripNo)
    → ¬ (NameTrips names (drop 2 row) trips)
no_trips_in_row names row k field low lt is none =
    let place : 2 + (k - 2) ≡ k = omega arith in
    let at : get_or (drop 2 row) (k - 2) [] ≡ field =
    get_or-drop 2 row (k - 2) [] ∙ ap (λ (n : ℕ). get_or row n []) place ∙ sym is in
    no_trips names (drop 2 row) (k - 2) (omega (arith, length-drop 2 row)) (λ i below e. none i below (sym at ∙ e))

pub row_trips_more : (names row : List Field) (k : ℕ) (field : Field) (trips : List TripNo) (t : TripNo) → 2 ≤ k
    → k < length row → field ≡ get_or row k []
    → NameTrips names (take (k - 2) (drop 2 row)) trips → t.0 < length names → field ≡ name_of names t.0
    → NameTrips names (take (k + 1 - 2) (drop 2 row)) (trips ++ t ∷ [])
row_trips_more names row k field trips t low lt is named below e =
    let place : 2 + (k - 2) ≡ k = omega arith in
    let at : get_or (drop 2 row) (k - 2) [] ≡ field =
    get_or-drop 2 row (k - 2) [] ∙ ap (λ (n : ℕ). get_or row n []) place ∙ sym is in
    let next : k + 1 - 2 ≡ k - 2 + 1 = omega arith in
    let fields : take (k + 1 - 2) (drop 2 row) ≡ take (k - 2) (drop 2 row) ++ field ∷ [] =
    ap (λ (n : ℕ). take n (drop 2 row)) next ∙ take_more (drop 2 row) (k - 2) [] (omega (arith, length-drop 2 row))
    ∙ ap (λ (f : Field). take (k - 2) (drop 2 row) ++ f ∷ []) at in
    let P : List Field → Type 0 = λ fs. NameTrips names fs (trips ++ t ∷ []) in
    subst P (sym fields) (name_trips_more names (take (k - 2) (drop 2 row)) field trips t named below e)

pub row_trips_all : (names row : List Field) (k : ℕ) (trips : List TripNo) → length row ≤ k
    → NameTrips names (take (k - 2) (drop 2 row)) trips → NameTrips names (drop 2 row) trips
row_trips_all names row k trips le named =
    let P : List Field → Type 0 = λ fs. NameTrips names fs trips in
    subst P (take_all (k - 2) (drop 2 row) (omega (arith, length-drop 2 row))) named

-- a name is that of one number
pub name_once : (names : List Field) (k m : ℕ) → AreNames names → k < length names → m < length names
    → name_of names k ≡ name_of names m → k ≡ m
name_once names k m are a b e = elim (cases_order k m) [
  | inl same ↦ same
  | inr other ↦ elim other [
    | inl below ↦ absurd (are.apart k m [] below b e)
    | inr above ↦ absurd (are.apart m k [] above a (sym e))
  ]
]

-- names of trips stand for one list of trips
pub same_trips : (names : List Field) (ts us : List TripNo) → AreNames names → All (λ t. t.0 < length names) ts
    → All (λ t. t.0 < length names) us
    → map (λ t. name_of names t.0) ts ≡ map (λ t. name_of names t.0) us → ts ≡ us
same_trips names [] [] are a b e = refl
same_trips names [] (u ∷ us) are a b e = absurd (omega (arith, ap length e))
same_trips names (t ∷ ts) [] are a b e = absurd (omega (arith, ap length e))
same_trips names (t ∷ ts) (u ∷ us) are a b e =
    let first : t.0 ≡ u.0 =
    name_once names t.0 u.0 are (All-head (λ (x : TripNo). x.0 < length names) t ts a)
    (All-head (λ (x : TripNo). x.0 < length names) u us b)
    (ap (λ (fs : List Field). get_or fs 0 []) e) in
    let rest =
    same_trips names ts us are (All-tail (λ (x : TripNo). x.0 < length names) t ts a)
    (All-tail (λ (x : TripNo). x.0 < length names) u us b) (ap (drop 1) e) in
    let one : t ≡ u = ap (λ (n : ℕ). record { 0 = n }) first in
    ap (λ (x : TripNo). x ∷ ts) one ∙ ap (λ (xs : List TripNo). u ∷ xs) rest
