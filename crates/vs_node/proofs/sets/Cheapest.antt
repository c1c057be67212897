-- The cheapest layer of a set.
use Rattle.std.proofs.Common.{◌≡◌, ◌≢◌, ℕ, ◌+◌, ◌<◌, ◌⊎◌, inl, inr, List, [], length, refl, sym, subst, arith, ℤ, pos, negsuc, ◌≤ℤ◌, ◌<ℤ◌}
use Rattle.std.proofs.lemmas.Bool.{cases_lt}
use Rattle.std.proofs.lemmas.Int.{ints}
use Rattle.vs_types.specs.LayerSet.{Has, members}
use Rattle.vs_types.specs.declared.layer_set.LayerSet.{LayerSet}
use Rattle.vs_instance.specs.Problem.{Problem}
use Rattle.vs_prices.specs.declared.table.Table.{Table}
use Rattle.vs_prices.specs.Worth.{trip_price}
use Rattle.vs_instance.specs.Restriction.{IsRestriction, set_of}
use Rattle.vs_node.specs.ChosenLayers.{AreChosen, AreSingle, ComesFirst, IsCheapest}

-- a number that is no more than another is less or the same
less_or_same : (x y : ℤ) → x ≤ℤ y → (x <ℤ y) ⊎ (x ≡ y)
less_or_same (pos m) (pos n) le = elim (cases_lt m n) [
  | inl less ↦ inl (omega (arith, ints))
  | inr more ↦ inr (omega (arith, ints))
]
less_or_same (pos m) (negsuc n) le = absurd (omega (arith, ints))
less_or_same (negsuc m) (pos n) le = inl (omega (arith, ints))
less_or_same (negsuc m) (negsuc n) le = elim (cases_lt n m) [
  | inl less ↦ inl (omega (arith, ints))
  | inr more ↦ inr (omega (arith, ints))
]

module _ (p : Problem) (table : Table) (i : ℕ) where
  comes_first-itself : (l : ℕ) → ComesFirst p table i l l
  comes_first-itself l = inr (refl, omega arith)

  -- one layer after those below it, which are the lowest alone
  pub first_alone : (set : LayerSet) (l : ℕ) → ((m : ℕ) → Has set m → (m ≡ l) ⊎ (l < m)) → (m : ℕ) → m < l + 1
      → Has set m → ComesFirst p table i l m
  first_alone set l lowest m below has = elim (lowest m has) [
    | inl same ↦ inr (subst (λ (k : ℕ). trip_price p table i l ≡ trip_price p table i k) (sym same) refl, omega arith)
    | inr above ↦ absurd (omega arith)
  ]

  -- a layer that is no cheaper leaves the cheapest so far
  pub first_kept : (set : LayerSet) (l k : ℕ) → l < k
      → trip_price p table i l ≤ℤ trip_price p table i k
      → ((m : ℕ) → m < k → Has set m → ComesFirst p table i l m)
      → (m : ℕ) → m < k + 1 → Has set m → ComesFirst p table i l m
  first_kept set l k above no_less first m below has = elim (cases_lt m k) [
    | inl before ↦ first m before has
    | inr after ↦
        let same : k ≡ m = omega arith in
        subst (λ (n : ℕ). ComesFirst p table i l n) same (elim (less_or_same _ _ no_less) [
          | inl less ↦ inl less
          | inr equal ↦ inr (equal, omega arith)
        ])
  ]

  -- so does one that doesn't stand in the set
  pub first_absent : (set : LayerSet) (l k : ℕ) → ¬ (Has set k)
      → ((m : ℕ) → m < k → Has set m → ComesFirst p table i l m)
      → (m : ℕ) → m < k + 1 → Has set m → ComesFirst p table i l m
  first_absent set l k absent first m below has = elim (cases_lt m k) [
    | inl before ↦ first m before has
    | inr after ↦
        let same : m ≡ k = omega arith in
        absurd (absent (subst (Has set) same has))
  ]

  less_than_all : (l k m : ℕ) → trip_price p table i k <ℤ trip_price p table i l → ComesFirst p table i l m
      → ComesFirst p table i k m
  less_than_all l k m less first = elim first [
    | inl further ↦ inl (omega (arith, ints))
    | inr same ↦ let equal = same.0 in inl (omega (arith, ints))
  ]

  -- a cheaper one takes its place
  pub first_taken : (set : LayerSet) (l k : ℕ) → trip_price p table i k <ℤ trip_price p table i l
      → ((m : ℕ) → m < k → Has set m → ComesFirst p table i l m)
      → (m : ℕ) → m < k + 1 → Has set m → ComesFirst p table i k m
  first_taken set l k less first m below has = elim (cases_lt m k) [
    | inl before ↦ less_than_all l k m less (first m before has)
    | inr after ↦
        let same : k ≡ m = omega arith in
        subst (λ (n : ℕ). ComesFirst p table i k n) same (comes_first-itself k)
  ]

  both_first : (l m : ℕ) → ComesFirst p table i l m → ComesFirst p table i m l → l ≡ m
  both_first l m a b = elim a [
    | inl less ↦ elim b [
      | inl more ↦ absurd (omega (arith, ints))
      | inr same ↦ let equal = same.0 in absurd (omega (arith, ints))
    ]
    | inr same ↦ elim b [
      | inl more ↦ let equal = same.0 in absurd (omega (arith, ints))
      | inr too ↦ let below = same.1 in let above = too.1 in omega arith
    ]
  ]

  -- a set has one cheapest layer
  pub cheapest_once : (set : LayerSet) (l m : ℕ) → IsCheapest p set table i l → IsCheapest p set table i m → l ≡ m
  cheapest_once set l m a b = both_first l m (a.first m b.among) (b.first l a.among)

-- l is the cheapest layer of the set below k, where the trip pays the least
pub record IsSoFar (p : Problem) (set : LayerSet) (table : Table) (i : ℕ) (least : ℤ) (k l : ℕ) : Type 0 where
  pub among : Has set l
  pub few : l < 16
  pub pays : least ≡ trip_price p table i l
  pub below : l < k
  pub first : (m : ℕ) → m < k → Has set m → ComesFirst p table i l m

module _ (p : Problem) (set : LayerSet) (table : Table) (i : ℕ) where
  -- at first it is the lowest of the set
  pub so_far-lowest : (least : ℤ) (l : ℕ) → Has set l → ((m : ℕ) → Has set m → (m ≡ l) ⊎ (l < m)) → l < 16
      → least ≡ trip_price p table i l → IsSoFar p set table i least (l + 1) l
  so_far-lowest least l among lowest few pays = record {
    among = among;
    few = few;
    pays = pays;
    below = omega arith;
    first = first_alone p table i set l lowest;
  }

  module _ (least : ℤ) (k l : ℕ) (so_far : IsSoFar p set table i least k l) where
    -- a cheaper layer takes its place
    pub so_far-taken : (price : ℤ) → Has set k → k < 16 → price ≡ trip_price p table i k → price <ℤ least
        → IsSoFar p set table i price (k + 1) k
    so_far-taken price among few pays less =
        let before = so_far.pays in
        record {
          among = among;
          few = few;
          pays = pays;
          below = omega arith;
          first = first_taken p table i set l k (omega (arith, ints, before, pays)) so_far.first;
        }

    -- one that is no cheaper doesn't
    pub so_far-kept : (price : ℤ) → price ≡ trip_price p table i k → least ≤ℤ price
        → IsSoFar p set table i least (k + 1) l
    so_far-kept price pays no_less =
        let before = so_far.pays in
        record {
          among = so_far.among;
          few = so_far.few;
          pays = before;
          below = omega (arith, so_far.below);
          first = first_kept p table i set l k so_far.below (omega (arith, ints, before, pays)) so_far.first;
        }

    -- nor does one that doesn't stand in the set
    pub so_far-absent : ¬ (Has set k) → IsSoFar p set table i least (k + 1) l
    so_far-absent absent = record {
      among = so_far.among;
      few = so_far.few;
      pays = so_far.pays;
      below = omega (arith, so_far.below);
      first = first_absent p table i set l k absent so_far.first;
    }

-- sets of chosen layers restrict the sets that they are chosen from
pub chosen-restricts : (p : Problem) (sets : List LayerSet) (table : Table) (chosen : List LayerSet)
    → IsRestriction p sets → AreChosen p sets table chosen
    → ((i : ℕ) → i < length p.trips → members (set_of chosen i) ≢ []) → IsRestriction p chosen
chosen-restricts p sets table chosen restriction are some = record {
  each_trip = are.each_trip;
  some_layer = some;
  permitted = λ i l inside has. restriction.permitted i l inside ((are.cheapest i l inside).0 has).among;
}

-- and have one layer each
pub chosen-single : (p : Problem) (sets : List LayerSet) (table : Table) (chosen : List LayerSet)
    → AreChosen p sets table chosen → AreSingle chosen
chosen-single p sets table chosen are i k m inside has_k has_m =
    let trip : i < length p.trips = subst (λ (n : ℕ). i < n) are.each_trip inside in
    cheapest_once p table i (set_of sets i) k m ((are.cheapest i k trip).0 has_k) ((are.cheapest i m trip).0 has_m)
