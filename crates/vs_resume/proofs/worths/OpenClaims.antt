-- A claim is open exactly where some worth is below the cost.
use Rattle.std.proofs.Common.{◌≡◌, ◌⊎◌, inl, inr, ℕ, zero, suc, List, [], ◌∷◌, refl, sym, ap, arith, Option, Some, None, slice_get, ℤ, ◌≤ℤ◌, ◌<ℤ◌, Bool, true, false, if◌then◌else◌}
use Rattle.std.specs.Ordering.{int_eq}
use Rattle.std.proofs.lemmas.Bool.Decides.{Decides-int_eq}
use Rattle.std.proofs.lemmas.Int.{ints}
use Rattle.vs_prices.specs.Bounds.{IsBelow}
use Rattle.vs_prices.specs.declared.bound.Bound.{Bound}
use Rattle.vs_prices.specs.declared.bound.Bound.TheVariants.{AtLeast, NoPlan}
use Rattle.vs_prices.specs.Claims.{claim_found}
use Rattle.vs_prices.specs.declared.claim.Claim.{Claim}
use Rattle.vs_prices.specs.declared.claim.Claim.TheVariants.{Optimal, StillOpen}
use Rattle.vs_cert.specs.Answers.{IsAmong, IsBoundOf}
use Rattle.vs_cert.proofs.CallerLemmas.{cost_among}

-- some worth is below the cost
pub record SomeIsBelow (cost : Option ℤ) (worths : List Bound) : Type 0 where
  pub place : ℕ
  pub worth : Bound
  pub stands : slice_get worths place ≡ Some worth
  pub below : IsBelow worth cost

-- a number is one of the worths
abbrev IsAt : List Bound → ℤ → Type 0
IsAt worths n = (k : ℕ) × (slice_get worths k ≡ Some (AtLeast n))

later : (cost : Option ℤ) (w : Bound) (worths : List Bound) (n : ℤ) → (cost ≡ Some n) ⊎ IsAt worths n
    → (cost ≡ Some n) ⊎ IsAt (w ∷ worths) n
later cost w worths n (inl is) = inl is
later cost w worths n (inr at) = inr (suc at.0, at.1)

-- what is among them and the cost is the cost, or one of them
among-at : (cost : Option ℤ) (worths : List Bound) (n : ℤ) → IsAmong cost worths n → (cost ≡ Some n) ⊎ IsAt worths n
among-at (Some c) [] n is = inl (ap Some (sym is))
among-at None [] n is = absurd is
among-at (Some c) (AtLeast w ∷ worths) n (inl is) = inr (0, ap (λ (m : ℤ). Some (AtLeast m)) (sym is))
among-at (Some c) (AtLeast w ∷ worths) n (inr there) =
    later (Some c) (AtLeast w) worths n (among-at (Some c) worths n there)
among-at None (AtLeast w ∷ worths) n (inl is) = inr (0, ap (λ (m : ℤ). Some (AtLeast m)) (sym is))
among-at None (AtLeast w ∷ worths) n (inr there) = later None (AtLeast w) worths n (among-at None worths n there)
among-at (Some c) (NoPlan ∷ worths) n there = later (Some c) NoPlan worths n (among-at (Some c) worths n there)
among-at None (NoPlan ∷ worths) n there = later None NoPlan worths n (among-at None worths n there)

-- and these are among them
at-among : (cost : Option ℤ) (worths : List Bound) (k : ℕ) (n : ℤ) → slice_get worths k ≡ Some (AtLeast n)
    → IsAmong cost worths n
at-among cost [] k n at = absurd cc
at-among (Some c) (AtLeast w ∷ worths) zero n at = let is : w ≡ n = cc in inl (sym is)
at-among None (AtLeast w ∷ worths) zero n at = let is : w ≡ n = cc in inl (sym is)
at-among (Some c) (AtLeast w ∷ worths) (suc k) n at = inr (at-among (Some c) worths k n at)
at-among None (AtLeast w ∷ worths) (suc k) n at = inr (at-among None worths k n at)
at-among cost (NoPlan ∷ worths) zero n at = absurd cc
at-among (Some c) (NoPlan ∷ worths) (suc k) n at = at-among (Some c) worths k n at
at-among None (NoPlan ∷ worths) (suc k) n at = at-among None worths k n at

open_apart : (c b : ℤ) → claim_found (Some c) (Some b) ≡ StillOpen → c ≡ b → ⊥
open_apart c b still same =
    let optimal : claim_found (Some c) (Some b) ≡ Optimal =
    ap {B = Claim} (λ (e : Bool). if e then Optimal else StillOpen) ((Decides-int_eq c b).1 same) in
    absurd cc

apart_open : (c b : ℤ) → b <ℤ c → claim_found (Some c) (Some b) ≡ StillOpen
apart_open c b less = by_test (int_eq c b) refl
  where
    by_test : (e : Bool) → int_eq c b ≡ e → (if e then Optimal else StillOpen) ≡ StillOpen
    by_test true is = let same = (Decides-int_eq c b).0 is in absurd (omega (arith, ints, less, same))
    by_test false is = refl

less_by : (b c : ℤ) → b ≤ℤ c → ¬ (c ≡ b) → b <ℤ c
less_by b c low apart = grind (arith, ints)

-- where the claim is open, some worth is below the cost
pub open_below : (cost : Option ℤ) (worths : List Bound) (bound : Option ℤ) → IsBoundOf cost worths bound
    → claim_found cost bound ≡ StillOpen → SomeIsBelow cost worths
open_below None worths None is still = absurd cc
open_below (Some c) worths None is still = absurd (is c (cost_among c worths))
open_below None worths (Some b) is still =
    elim (among-at None worths b is.0) [
      | inl cost ↦ absurd cc
      | inr at ↦ record { place = at.0; worth = AtLeast b; stands = at.1; below = tt }
    ]
open_below (Some c) worths (Some b) is still =
    let less = less_by b c (is.1 c (cost_among c worths)) (open_apart c b still) in
    elim (among-at (Some c) worths b is.0) [
      | inl cost ↦ let same : c ≡ b = cc in absurd (open_apart c b still same)
      | inr at ↦ record { place = at.0; worth = AtLeast b; stands = at.1; below = less }
    ]

-- and where some is, the claim is open
pub below_open : (cost : Option ℤ) (worths : List Bound) (bound : Option ℤ) → IsBoundOf cost worths bound → (k : ℕ)
    (worth : Bound) → slice_get worths k ≡ Some worth → IsBelow worth cost → claim_found cost bound ≡ StillOpen
below_open cost worths bound is k NoPlan at below = absurd below
below_open cost worths None is k (AtLeast n) at below = absurd (is n (at-among cost worths k n at))
below_open None worths (Some b) is k (AtLeast n) at below = refl
below_open (Some c) worths (Some b) is k (AtLeast n) at below =
    let low = is.1 n (at-among (Some c) worths k n at) in
    apart_open c b (omega (arith, ints, low, below))
