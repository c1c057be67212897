-- What the members of a set of layers are.
use Rattle.std.proofs.Common.{◌≡◌, ◌≢◌, ℕ, zero, suc, ◌+◌, ◌-◌, ◌*◌, ◌/◌, ◌%◌, ◌^◌, ◌<◌, ◌≤◌, ◌↔◌, ◌⊎◌, inl, inr, Bool, true, false, cond, eqb, List, [], ◌∷◌, length, get_or, refl, sym, ap, ◌∙◌, subst, arith, rules, bit_and, bit_or, w16, lit<, add-one, IsTrue, not, nat_eq}
use Rattle.std.specs.Prelude.{Contains, filter}
use Rattle.std.specs.Int.{bit_at, trailing_zeros}
use Rattle.std.specs.List.{range_with_len}
use Rattle.std.specs.Int.Count.{ones, ones_in, ones_step}
use Rattle.std.specs.List.Sorted.{IsStrictlyIncreasing}
use Rattle.std.proofs.Math.Nat.{div-one}
use Rattle.std.proofs.Math.Pow.{shr_lt, shr-shr, shl_exact}
use Rattle.std.proofs.lemmas.Bool.{cases_eq, cases_lt, eqb-true, eq-eqb}
use Rattle.std.proofs.lemmas.Nat.Bits.{bit_at_above, bit_at-lt, bit_at-zero, bit_at-trailing_zeros, bit_at_and, bit_at_set_same, bit_at_set_other, bit_at_clear_same, bit_at_clear_other, bit_at-pow_same, bit_at-pow_other, and_pow}
use Rattle.std.proofs.lemmas.List.Elements.{All-contains, filter_passes}
use Rattle.std.proofs.lemmas.List.Kept.{IsStrictlyIncreasing-filter}
use Rattle.vs_types.specs.LayerSet.{Has, members, layer_numbers}
use Rattle.vs_types.specs.declared.layer_set.LayerSet.{LayerSet}

-- a member's number is below 16
pub Has-below : (set : LayerSet) (l : ℕ) → set.0 < 2 ^ 16 → Has set l → l < 16
Has-below set l fits has = grind (arith, bit_at_above set.0 16 l)

-- d numbers in order, from k on
unfoldable pub numbers_from : ℕ → ℕ → List ℕ
numbers_from k zero = []
numbers_from k (suc d) = k ∷ numbers_from (suc k) d

length-numbers_from : (k d : ℕ) → length (numbers_from k d) ≡ d
unfolding numbers_from
length-numbers_from k zero = refl
length-numbers_from k (suc d) = ap suc (length-numbers_from (suc k) d)

get_or-numbers_from : (k d i x : ℕ) → i < d → get_or (numbers_from k d) i x ≡ k + i
unfolding numbers_from
get_or-numbers_from k zero i x within = absurd (omega arith)
get_or-numbers_from k (suc d) zero x within = omega arith
get_or-numbers_from k (suc d) (suc i) x within =
    let within' : i < d = omega arith in
    omega (arith, get_or-numbers_from (suc k) d i x within')

pub layer_numbers-is : layer_numbers ≡ numbers_from 0 16
unfolding layer_numbers numbers_from
layer_numbers-is = refl

pub layer_numbers-range : layer_numbers ≡ range_with_len 0 16
unfolding layer_numbers
layer_numbers-range = refl

length-layer_numbers : length layer_numbers ≡ 16
unfolding layer_numbers
length-layer_numbers = refl

get_or-layer_numbers : (l x : ℕ) → l < 16 → get_or layer_numbers l x ≡ l
get_or-layer_numbers l x within = rw layer_numbers-is (omega (arith, get_or-numbers_from 0 16 l x within))

Contains-layer_numbers : (l : ℕ) → l < 16 → Contains layer_numbers l
Contains-layer_numbers l within = (l, omega (arith, length-layer_numbers), get_or-layer_numbers l l within)

Contains-cons : (y : ℕ) (xs : List ℕ) (x : ℕ) → Contains xs x → Contains (y ∷ xs) x
Contains-cons y xs x c = (suc c.0, omega (arith, c.1), c.2)

-- what passes a test is kept by the filter
pub Contains-filter : (p : ℕ → Bool) (xs : List ℕ) (x : ℕ) → Contains xs x → p x ≡ true → Contains (filter p xs) x
Contains-filter p [] x c passes = absurd (omega (arith, c.1))
Contains-filter p (y ∷ xs) x (zero, within, is) passes =
    rw (is, passes) (0, omega arith, refl)
Contains-filter p (y ∷ xs) x (suc k, within, is) passes =
    let deeper : Contains xs x = (k, omega arith, is) in
    let rest = Contains-filter p xs x deeper passes in
    elim (p y) as (λ b. Contains (cond b (y ∷ filter p xs) (filter p xs)) x)
    [ true ↦ Contains-cons y (filter p xs) x rest | false ↦ rest ]

-- a layer below 16 that stands in the set is a member
pub Contains-members_below : (set : LayerSet) (l : ℕ) → l < 16 → Has set l → Contains (members set) l
Contains-members_below set l within has =
    Contains-filter (λ k. eqb (bit_at set.0 k) 1) layer_numbers l (Contains-layer_numbers l within) (eq-eqb _ _ has)

-- the members are those layers that stand in the set
pub Contains-members : (set : LayerSet) (l : ℕ) → set.0 < 2 ^ 16 → Contains (members set) l ↔ Has set l
Contains-members set l fits = (
  (λ among. eqb-true (bit_at set.0 l) 1
      (All-contains (λ k. eqb (bit_at set.0 k) 1 ≡ true) (members set) l
      (filter_passes (λ k. eqb (bit_at set.0 k) 1) layer_numbers) among)),
  (λ has. Contains-members_below set l (Has-below set l fits has) has),
)

IsStrictlyIncreasing-layer_numbers : IsStrictlyIncreasing layer_numbers
IsStrictlyIncreasing-layer_numbers k within =
    let here : k < 16 = omega (arith, length-layer_numbers) in
    let next : k + 1 < 16 = omega (arith, length-layer_numbers) in
    omega (arith, get_or-layer_numbers k 0 here, get_or-layer_numbers (k + 1) 0 next)

-- the members stand in the order of their numbers, each once
pub IsStrictlyIncreasing-members : (set : LayerSet) → IsStrictlyIncreasing (members set)
IsStrictlyIncreasing-members set =
    IsStrictlyIncreasing-filter (λ l. eqb (bit_at set.0 l) 1) layer_numbers IsStrictlyIncreasing-layer_numbers

filter-none : (p : ℕ → Bool) (xs : List ℕ) → ((x : ℕ) → p x ≡ false) → filter p xs ≡ []
filter-none p [] none = refl
filter-none p (x ∷ xs) none = rw (none x) (filter-none p xs none)

-- no number stands in the set that is 0
pub members-empty : (set : LayerSet) → set.0 ≡ 0 → members set ≡ []
members-empty set empty =
    filter-none (λ l. eqb (bit_at set.0 l) 1) layer_numbers (λ l. rw (empty, bit_at-zero l) refl)

-- a bit is the length of what the test of it keeps
length-kept : (n k : ℕ) (xs : List ℕ)
    → length (cond (eqb (bit_at n k) 1) (k ∷ xs) xs) ≡ bit_at n k + length xs
length-kept n k xs =
    elim (cases_eq (bit_at n k) 1) [
      | inl set ↦ rw set (omega arith)
      | inr clear ↦
          let none : bit_at n k ≡ 0 = omega (arith, bit_at-lt n k) in
          rw none (omega arith)
    ]

ones-zero : ones 0 ≡ 0
unfolding ones ones_in
ones-zero = refl

ones-from : (n k d : ℕ) → n < 2 ^ (d + k)
    → ones (n / 2 ^ k) ≡ length (filter (λ l. eqb (bit_at n l) 1) (numbers_from k d))
unfolding numbers_from
ones-from n k zero fits =
    let none : n / 2 ^ k ≡ 0 = omega (arith, shr_lt {n = n} 0 k fits) in
    rw none ones-zero
ones-from n k (suc d) fits =
    let same : suc d + k ≡ d + suc k = omega arith in
    let rest = ones-from n (suc k) d (subst (λ (m : ℕ). n < 2 ^ m) same fits) in
    let half : n / 2 ^ k / 2 ≡ n / 2 ^ suc k = shr-shr n k 1 ∙ ap (λ (m : ℕ). n / 2 ^ m) (add-one k) in
    let kept = length-kept n k (filter (λ l. eqb (bit_at n l) 1) (numbers_from (suc k) d)) in
    let step : ones (n / 2 ^ k) ≡ bit_at n k + ones (n / 2 ^ suc k) =
    ones_step (n / 2 ^ k) ∙ ap (λ (m : ℕ). bit_at n k + ones m) half in
    omega (arith, step, rest, kept)

-- the ones of a number of 16 bits are as many as the set has members
pub ones-members : (set : LayerSet) → set.0 < 2 ^ 16 → ones set.0 ≡ length (members set)
ones-members set fits =
    rw layer_numbers-is (ap ones (sym (div-one set.0)) ∙ ones-from set.0 0 16 fits)

shl-one : (l : ℕ) → l < 16 → 1 * 2 ^ l % 65536 ≡ 2 ^ l
shl-one l within =
    let small : 1 < 2 ^ 1 = lit< tt in
    let room : 1 + l ≤ 16 = omega arith in
    shl_exact 1 l 16 small room ∙ omega arith

-- the bits of `1 << l`
pub Has-only : (l k : ℕ) → l < 16 → (bit_at (1 * 2 ^ l % 65536) k ≡ 1) ↔ (k ≡ l)
Has-only l k within =
    rw (shl-one l within)
    (elim (cases_eq k l) [
      | inl same ↦ ((λ _. same), (λ _. rw same (bit_at-pow_same l)))
      | inr other ↦ ((λ is. absurd (omega (arith, bit_at-pow_other l k other))), (λ same. absurd (other same)))
    ])

-- the bits of `n | 1 << l`
pub Has-with : (n l k : ℕ) → l < 16 → (bit_at (bit_or n (1 * 2 ^ l % 65536)) k ≡ 1) ↔ ((bit_at n k ≡ 1) ⊎ (k ≡ l))
Has-with n l k within =
    elim (cases_eq k l) [
      | inl same ↦ ((λ _. inr same), (λ _. rw same (bit_at_set_same w16 n l within)))
      | inr other ↦
          let kept : bit_at (bit_or n (1 * 2 ^ l % 65536)) k ≡ bit_at n k = bit_at_set_other w16 n l within k other in
          ((λ is. inl (sym kept ∙ is)), (λ either. elim either [ inl is ↦ kept ∙ is | inr same ↦ absurd (other same) ]))
    ]

-- the bits of `n & !(1 << l)`
pub Has-without : (n l k : ℕ) → l < 16 → n < 2 ^ 16
    → (bit_at (bit_and n (65535 - 1 * 2 ^ l % 65536)) k ≡ 1) ↔ ((bit_at n k ≡ 1) × (k ≡ l → ⊥))
Has-without n l k within fits =
    elim (cases_lt k 16) [
      | inl inside ↦ elim (cases_eq k l) [
        | inl same ↦
            let cleared : bit_at (bit_and n (65535 - 1 * 2 ^ l % 65536)) k ≡ 0 =
            rw same (bit_at_clear_same w16 n l within) in
            ((λ is. absurd (omega arith)), (λ both. absurd (both.1 same)))
        | inr other ↦
            let kept : bit_at (bit_and n (65535 - 1 * 2 ^ l % 65536)) k ≡ bit_at n k =
            bit_at_clear_other w16 n l within k inside other in
            ((λ is. (sym kept ∙ is, other)), (λ both. kept ∙ both.0))
      ]
      | inr past ↦
          let none : bit_at n k ≡ 0 = bit_at_above n 16 k fits past in
          let masked = bit_at_and n (65535 - 1 * 2 ^ l % 65536) k in
          ((λ is. absurd (omega (arith, masked, is))), (λ both. absurd (omega (arith, both.0))))
    ]

-- the test `n & (1 << l) != 0`
pub Has-test : (n l : ℕ) → l < 16 → IsTrue (not (nat_eq (bit_and n (1 * 2 ^ l % 65536)) 0)) ↔ (bit_at n l ≡ 1)
Has-test n l within =
    rw (shl-one l within, and_pow n l)
    (elim (cases_eq (bit_at n l) 1) [
      | inl set ↦ rw set (search rules)
      | inr clear ↦
          let none : bit_at n l ≡ 0 = omega (arith, bit_at-lt n l) in
          rw none (search rules)
    ])

-- the first set bit of a number that is not 0
pub IsLowest-trailing_zeros : (n : ℕ) → 0 < n → n < 2 ^ 16
    → (trailing_zeros w16 n < 16)
    × (bit_at n (trailing_zeros w16 n) ≡ 1)
    × ((k : ℕ) → bit_at n k ≡ 1 → (k ≡ trailing_zeros w16 n) ⊎ (trailing_zeros w16 n < k))
IsLowest-trailing_zeros n some fits =
    let found = bit_at-trailing_zeros w16 n some fits in (
      found.0,
      found.1,
      (λ k is. elim (cases_lt k (trailing_zeros w16 n)) [
        | inl before ↦ absurd (omega (arith, found.2 k before))
        | inr from ↦ elim (cases_eq k (trailing_zeros w16 n)) [
          | inl same ↦ inl same
          | inr other ↦ inr (omega arith)
        ]
      ]),
    )

-- a set with a layer below 16 isn't empty
pub members-some : (set : LayerSet) (l : ℕ) → l < 16 → Has set l → members set ≢ []
members-some set l within has empty =
    let among = Contains-members_below set l within has in
    omega (arith, among.1, ap length empty)
