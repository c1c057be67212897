-- The layers of a sum of powers of two.
use Rattle.std.proofs.Common.{◌≡◌, ℕ, zero, suc, ◌+◌, ◌*◌, ◌^◌, ◌<◌, ◌≤◌, Bool, true, false, cond, eqb, List, refl, sym, ap, ◌∙◌, arith, inl, inr, sum_by}
use Rattle.std.specs.Int.{bit_at}
use Rattle.std.proofs.lemmas.Bool.{cases_eq, eq-eqb, ne_eqb}
use Rattle.std.proofs.lemmas.Nat.Bits.{bit_at-zero, bit_at-pow_same, bit_at-pow_other, bit_at_cat_low, bit_at_cat_high}
use Rattle.std.proofs.lemmas.List.Sums.{sum_by-cons}
use Rattle.std.proofs.lemmas.Nat.{pow_pos}
use Rattle.vs_types.specs.LayerSet.{layer_numbers}
use Rattle.vs_types.proofs.Members as members
use Rattle.vs_types.proofs.Members.{numbers_from, layer_numbers-is}
use Rattle.vs_types.proofs.Tests.{no-matter}

two_suc : (k : ℕ) → 2 ^ suc k ≡ 2 * 2 ^ k
two_suc k = grind arith

pow_some : (k : ℕ) → 0 < 2 ^ k
pow_some k = pow_pos k

regroup : (m x : ℕ) → m * (2 * x) ≡ 2 * m * x
regroup m x = grind arith

spread : (a b x : ℕ) → (a + b) * x ≡ a * x + b * x
spread a b x = grind arith

module _ (p : ℕ → Bool) where
  abbrev power : ℕ → ℕ
  power l = cond (p l) (2 ^ l) 0

  abbrev bit : ℕ → ℕ
  bit l = cond (p l) 1 0

  -- of d numbers from k on, the powers of those that pass
  powers : ℕ → ℕ → ℕ
  powers k zero = 0
  powers k (suc d) = power k + powers (suc k) d

  powers-are : (k d : ℕ) → sum_by power (numbers_from k d) ≡ powers k d
  unfolding members.numbers_from powers
  powers-are k zero = refl
  powers-are k (suc d) = sum_by-cons power k (numbers_from (suc k) d) ∙ ap (λ n. power k + n) (powers-are (suc k) d)

  power-below : (k : ℕ) → power k < 2 ^ suc k
  power-below k = by_test (p k)
    where
      by_test : (b : Bool) → cond b (2 ^ k) 0 < 2 ^ suc k
      by_test true = omega (arith, two_suc k, pow_some k)
      by_test false = omega (arith, two_suc k, pow_some k)

  power-multiple : (k : ℕ) → power k ≡ bit k * 2 ^ k
  power-multiple k = by_test (p k)
    where
      by_test : (b : Bool) → cond b (2 ^ k) 0 ≡ cond b 1 0 * 2 ^ k
      by_test true = omega arith
      by_test false = omega arith

  -- they are a multiple of the first power
  powers-multiple : (k d : ℕ) → (m : ℕ) × (powers k d ≡ m * 2 ^ k)
  unfolding powers
  powers-multiple k zero = (0, omega arith)
  powers-multiple k (suc d) =
      let rest = powers-multiple (suc k) d in
      let doubled : rest.0 * 2 ^ suc k ≡ 2 * rest.0 * 2 ^ k =
      ap (λ (n : ℕ). rest.0 * n) (two_suc k) ∙ regroup rest.0 (2 ^ k) in (
        bit k + 2 * rest.0,
        ap (λ (n : ℕ). power k + n) (rest.1 ∙ doubled) ∙ ap (λ (n : ℕ). n + 2 * rest.0 * 2 ^ k) (power-multiple k)
            ∙ sym (spread (bit k) (2 * rest.0) (2 ^ k)),
      )

  bit_at-power : (k i : ℕ) → i ≤ k → bit_at (power k) i ≡ cond (eqb i k) (bit k) 0
  bit_at-power k i within = by_test (p k)
    where
      by_test : (b : Bool) → bit_at (cond b (2 ^ k) 0) i ≡ cond (eqb i k) (cond b 1 0) 0
      by_test true = elim (cases_eq i k) [
        | inl same ↦ rw (eq-eqb i k same, same) (bit_at-pow_same k)
        | inr other ↦ rw (ne_eqb i k other) (bit_at-pow_other k i other)
      ]
      by_test false = bit_at-zero i ∙ sym (no-matter (eqb i k))

  -- a number's bit is there where the number passes
  bit_at-powers : (k d i : ℕ) → k ≤ i → i < k + d → bit_at (powers k d) i ≡ bit i
  unfolding powers
  bit_at-powers k zero i from within = absurd (omega (arith, from, within))
  bit_at-powers k (suc d) i from within =
      let rest = powers-multiple (suc k) d in
      let parts : power k + powers (suc k) d ≡ rest.0 * 2 ^ suc k + power k = omega (arith, rest.1) in
      elim (cases_eq i k) [
        | inl same ↦
            ap (λ (n : ℕ). bit_at n i) parts ∙ bit_at_cat_low rest.0 (suc k) (power k) i (omega (arith, same))
            ∙ bit_at-power k i (omega (arith, same)) ∙ ap (λ (b : Bool). cond b (bit k) 0) (eq-eqb i k same)
            ∙ ap bit (sym same)
        | inr other ↦
            let above : suc k ≤ i = omega (arith, from, other) in
            let alone : powers (suc k) d ≡ rest.0 * 2 ^ suc k + 0 = omega (arith, rest.1) in
            ap (λ (n : ℕ). bit_at n i) parts ∙ bit_at_cat_high rest.0 (suc k) (power k) i (power-below k) above
            ∙ sym (bit_at_cat_high rest.0 (suc k) 0 i (pow_some (suc k)) above) ∙ ap (λ (n : ℕ). bit_at n i) (sym alone)
            ∙ bit_at-powers (suc k) d i above (omega (arith, within))
      ]

module _ (p : ℕ → Bool) where
  power-within : (k : ℕ) → power p k ≤ 2 ^ k
  power-within k = by_test (p k)
    where
      by_test : (b : Bool) → cond b (2 ^ k) 0 ≤ 2 ^ k
      by_test true = omega arith
      by_test false = omega arith

  -- the powers from k on stay below the next one
  powers-below : (k d : ℕ) → powers p k d + 2 ^ k ≤ 2 ^ (k + d)
  unfolding powers
  powers-below k zero = let same : k + 0 ≡ k = omega arith in rw same (omega arith)
  powers-below k (suc d) =
      let same : k + suc d ≡ suc k + d = omega arith in
      rw same (omega (arith, powers-below (suc k) d, power-within k, two_suc k))

  pub sum-below : sum_by (λ l. cond (p l) (2 ^ l) 0) layer_numbers < 2 ^ 16
  sum-below =
      let is : sum_by (power p) layer_numbers ≡ powers p 0 16 =
      ap (λ (ls : List ℕ). sum_by (power p) ls) layer_numbers-is ∙ powers-are p 0 16 in
      omega (arith, is, powers-below 0 16)

-- the sum of the powers of the layers that pass has just their bits
pub bit_at-sum : (p : ℕ → Bool) (i : ℕ) → i < 16
    → bit_at (sum_by (λ l. cond (p l) (2 ^ l) 0) layer_numbers) i ≡ cond (p i) 1 0
bit_at-sum p i within =
    ap (λ (ls : List ℕ). bit_at (sum_by (power p) ls) i) layer_numbers-is ∙ ap (λ (n : ℕ). bit_at n i)
    (powers-are p 0 16)
    ∙ bit_at-powers p 0 16 i (omega arith) (omega (arith, within))
