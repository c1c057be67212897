-- Multipliers that pay as much for each trip.
use Rattle.std.proofs.Common.{◌≡◌, ℕ, ◌≤◌, List, get_or, length, replicate, sym, subst, arith, inl, inr, ℤ, pos, ◌≤ℤ◌}
use Rattle.std.proofs.lemmas.Bool.{cases_lt}
use Rattle.std.proofs.lemmas.Int.{ints}
use Rattle.std.proofs.lemmas.List.{get_or_past, get_or-replicate, length-replicate}
use Rattle.vs_instance.specs.declared.limits.TheConstants.{MAX_TRIPS}
use Rattle.vs_instance.specs.Problem.{Problem}
use Rattle.vs_instance.proofs.CallerLemmas.{multiplier-least}
use Rattle.vs_multi.specs.Multipliers.{AreMultipliers, AreWithin, IsMultiplier}
use Rattle.vs_multi.proofs.CallerLemmas.{none_within}

-- what is no more than each of so many trips may be paid at least is a multiplier
pub little_within : (trips : ℕ) (paid : ℤ) → trips ≤ MAX_TRIPS → pos 0 ≤ℤ paid → paid ≤ℤ pos 20000000000000
    → IsMultiplier trips paid
little_within trips paid few some little =
    let least = multiplier-least trips few in
    (some, omega (arith, ints, little), omega (arith, ints, little, least))

even_within : (n : ℕ) (paid : ℤ) → IsMultiplier n paid → AreWithin (replicate n paid)
even_within n paid is i =
    let count = length-replicate {A = ℤ} n paid in
    let Is : ℕ → Type 0 = λ m. IsMultiplier m (get_or (replicate n paid) i (pos 0)) in
    subst Is (sym count) (elim (cases_lt i n) [
      | inl inside ↦ subst (IsMultiplier n) (sym (get_or-replicate n i paid (pos 0) inside)) is
      | inr past ↦ subst (IsMultiplier n) (sym (get_or_past (replicate n paid) i (pos 0)
          (omega (arith, length-replicate {A = ℤ} n paid)))) (none_within n)
    ])

-- they are multipliers where that is one
pub even-AreMultipliers : (p : Problem) (paid : ℤ) (multipliers : List ℤ)
    → multipliers ≡ replicate (length p.trips) paid → IsMultiplier (length p.trips) paid
    → AreMultipliers p multipliers
even-AreMultipliers p paid multipliers same is =
    subst (AreMultipliers p) (sym same) (record {
      each_trip = length-replicate {A = ℤ} (length p.trips) paid;
      within = even_within (length p.trips) paid is;
    })
