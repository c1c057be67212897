-- The arcs of trips, found by their numbers.
use Rattle.std.proofs.Common.{◌≡◌, ℕ, ◌+◌, ◌<◌, List, length, get_or, set, Option, Some, None, inl, inr, arith, sym, ap, ◌∙◌, refl, replicate}
use Rattle.std.proofs.lemmas.Bool.{cases_eq, cases_lt}
use Rattle.std.proofs.lemmas.List.{get_or-set_same, get_or-set_other, get_or-replicate, get_or_past, length-replicate}
use Rattle.std.proofs.lemmas.Option.{none-some}
use Rattle.vs_types.specs.declared.numbers.TripNo.{TripNo}
use Rattle.vs_match.specs.declared.arc_kind.ArcKind.{ArcKind}
use Rattle.vs_match.specs.declared.arc_kind.ArcKind.TheVariants.{Trip}
use Rattle.vs_match.specs.LayerGraph.{kind_at, IsArcOfTrip}
use Rattle.vs_match.specs.TripIndex.{IsTripAt, IsTripIndex}
use Rattle.vs_match.proofs.walks.ClosedWays.{some-same}

-- what the index says of the first n arcs
pub record IsIndexUpto (kinds : List ArcKind) (n : ℕ) (index : List (Option ℕ)) : Type 0 where
  pub found : (i k : ℕ) → get_or index i None ≡ Some k → (k < n) × IsArcOfTrip kinds i k
  pub missing : (i k : ℕ) → get_or index i None ≡ None → k < n → ¬ (IsArcOfTrip kinds i k)

-- copies of a value, and the value past their end
pub get_or-copies : {A : Type 0} (a : A) (n i : ℕ) → get_or (replicate n a) i a ≡ a
get_or-copies a n i = elim (cases_lt i n) [
  | inl within ↦ get_or-replicate n i a a within
  | inr past ↦ get_or_past (replicate n a) i a (omega (arith, length-replicate n a, past))
]

-- nothing yet
pub index_none : (kinds : List ArcKind) (index : List (Option ℕ)) → ((i : ℕ) → get_or index i None ≡ None)
    → IsIndexUpto kinds 0 index
index_none kinds index none = record {
  found = λ i k is. absurd (none-some k (sym (none i) ∙ is));
  missing = λ i k is within. absurd (omega arith);
}

-- an arc of no trip
pub index_other : (kinds : List ArcKind) (n : ℕ) (index : List (Option ℕ)) → IsIndexUpto kinds n index
    → ((i : ℕ) → ¬ (kind_at kinds n ≡ Trip (record { 0 = i }))) → IsIndexUpto kinds (n + 1) index
index_other kinds n index is other = record {
  found = λ i k at. let f = is.found i k at in (omega (arith, f.0), f.1);
  missing = λ i k at within arc. elim (cases_lt k n) [
    | inl before ↦ is.missing i k at before arc
    | inr last ↦ let same : k ≡ n = omega (arith, last, within) in other i (ap (kind_at kinds) (sym same) ∙ arc.1)
  ];
}

-- trips that have the same arc kind have the same number
pub trip_number-is : (a b : TripNo) → Trip a ≡ Trip b → a.0 ≡ b.0
trip_number-is a b e = let same : a ≡ b = cc in ap (λ (t : TripNo). t.0) same

-- the arc of trip i
pub index_trip : (kinds : List ArcKind) (n i : ℕ) (index : List (Option ℕ)) → IsIndexUpto kinds n index
    → n < length kinds → i < length index
    → kind_at kinds n ≡ Trip (record { 0 = i }) → IsIndexUpto kinds (n + 1) (set index i (Some n))
index_trip kinds n i index is within room kind = record {
  found = λ j k at. elim (cases_eq j i) [
    | inl same ↦
        let here =
        ap (λ (m : ℕ). get_or (set index i (Some n)) m None) same ∙ get_or-set_same index i (Some n) None room in
        let number : n ≡ k = some-same n k (sym here ∙ at) in (
          omega (arith, number),
          (
            omega (arith, number, within),
            ap (kind_at kinds) (sym number) ∙ kind ∙ ap (λ (m : ℕ). Trip (record { 0 = m })) (sym same),
          ),
        )
    | inr other ↦
        let f = is.found j k (sym (get_or-set_other index i j (Some n) None other) ∙ at) in
        (omega (arith, f.0), f.1)
  ];
  missing = λ j k at before arc. elim (cases_eq j i) [
    | inl same ↦
        let here =
        ap (λ (m : ℕ). get_or (set index i (Some n)) m None) same ∙ get_or-set_same index i (Some n) None room in
        none-some n (sym at ∙ here)
    | inr other ↦ elim (cases_lt k n) [
      | inl old ↦ is.missing j k (sym (get_or-set_other index i j (Some n) None other) ∙ at) old arc
      | inr last ↦
          let same : n ≡ k = omega (arith, last, before) in
          other (trip_number-is (record { 0 = j }) (record { 0 = i })
          (sym arc.1 ∙ ap (kind_at kinds) (sym same) ∙ kind))
    ]
  ];
}

trip_at : (kinds : List ArcKind) (index : List (Option ℕ)) → IsIndexUpto kinds (length kinds) index
    → (i : ℕ) (o : Option ℕ) → get_or index i None ≡ o → IsTripAt kinds i o
trip_at kinds index is i (Some k) at = (is.found i k at).1
trip_at kinds index is i None at = λ k arc. is.missing i k at arc.0 arc

-- all arcs
pub index_all : (kinds : List ArcKind) (index : List (Option ℕ)) → IsIndexUpto kinds (length kinds) index
    → IsTripIndex kinds index
index_all kinds index is i = trip_at kinds index is i (get_or index i None) refl
