-- Lists of multipliers.
use Rattle.std.proofs.Common.{◌≡◌, ℕ, ◌<◌, List, length, set, sym, subst, inl, inr, arith, ℤ, pos, to_z, of_z, w64, get_or-set_other}
use Rattle.std.proofs.lemmas.Bool.{cases_eq, cases_lt}
use Rattle.std.proofs.lemmas.Grind.{get_or-set_at}
use Rattle.std.proofs.lemmas.Int.{clamps, ints}
use Rattle.std.proofs.lemmas.List.{get_or_past, length-set}
use Rattle.vs_types.specs.declared.layer_set.LayerSet.{LayerSet}
use Rattle.vs_instance.specs.Dearest.{most_multiplier}
use Rattle.vs_instance.specs.Lagrangian.{multiplier_of}
use Rattle.vs_instance.specs.Problem.{Problem}
use Rattle.vs_instance.proofs.CallerLemmas.{multiplier-most}
use Rattle.vs_prices.specs.declared.table.Table.{Table}
use Rattle.vs_prices.specs.Worth.{least_price}
use Rattle.vs_multi.specs.Multipliers.{AreMultipliers, AreOfTable, AreWithin, IsMultiplier, limited}

-- nothing is a multiplier
pub none_within : (trips : ℕ) → IsMultiplier trips (pos 0)
none_within trips = (omega (arith, ints), omega (arith, ints), omega (arith, ints))

-- what is kept within the limits is one
pub limited_within : (trips : ℕ) (price : ℤ) → IsMultiplier trips (limited (pos (most_multiplier trips)) price)
limited_within trips price =
    let most = multiplier-most trips in
    (omega (arith, ints, clamps), omega (arith, ints, clamps, most), omega (arith, ints, clamps))

-- where those of a list are multipliers, so are those past its end
pub all_within : (xs : List ℤ) → ((j : ℕ) → j < length xs → IsMultiplier (length xs) (multiplier_of xs j))
    → AreWithin xs
all_within xs each i =
    elim (cases_lt i (length xs)) [
      | inl inside ↦ each i inside
      | inr past ↦ subst (IsMultiplier (length xs)) (sym (get_or_past xs i (pos 0) past)) (none_within (length xs))
    ]

-- so the multipliers that a table stands for are multipliers
pub of_table_within : (p : Problem) (sets : List LayerSet) (table : Table) (xs : List ℤ)
    → AreOfTable p sets table xs → AreMultipliers p xs
of_table_within p sets table xs of = record {
  each_trip = of.each_trip;
  within = all_within xs (λ j inside.
      subst (λ (n : ℕ). IsMultiplier n (multiplier_of xs j)) (sym of.each_trip)
      (subst (IsMultiplier (length p.trips)) (sym (of.price j (omega (arith, inside, of.each_trip))))
      (limited_within (length p.trips) (least_price p sets table j))));
}

-- a list of them stays one where a multiplier is put into it
pub within-set : (trips : ℕ) (xs : List ℤ) (i : ℕ) (m : ℤ) → length xs ≡ trips → AreWithin xs → IsMultiplier trips m
    → AreWithin (set xs i (to_z w64 (of_z w64 m)))
within-set trips xs i m count each here =
    let put : to_z w64 (of_z w64 m) ≡ m = omega (arith, ints, here.0, here.1) in
    subst (λ (z : ℤ). AreWithin (set xs i z)) (sym put)
    (all_within (set xs i m) (λ j inside.
    let size = length-set xs i m in
    subst (λ (n : ℕ). IsMultiplier n (multiplier_of (set xs i m) j)) (sym size)
    (elim (cases_eq j i) [
      | inl same ↦ subst (IsMultiplier (length xs))
          (sym (get_or-set_at xs i j m (pos 0) same (omega (arith, inside, size, same))))
          (subst (λ (n : ℕ). IsMultiplier n m) (sym count) here)
      | inr apart ↦ subst (IsMultiplier (length xs)) (sym (get_or-set_other xs i j m (pos 0) apart)) (each j)
    ])))
