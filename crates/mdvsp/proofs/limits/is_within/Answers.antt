use Rattle.std.proofs.Common.{rules, ◌↔◌, IsTrue, ◌≡◌, ℕ, ℤ, pos, neg_ℤ, ◌^◌, ◌≤ℤ◌, ◌-ℤ◌, ◌*ℤ◌, w64, FitsSigned, arith}
use Rattle.std.specs.Int.{w128, saturate_to_bits}
use Rattle.std.proofs.lemmas.Int.{ints, to_z-of_z}
use Rattle.mdvsp.specs.Limits.{IsCostWithin}
use Rattle.mdvsp.proofs.SmallNumbers.{compared}
use Rattle.mdvsp.proofs.limits.is_within.Goals as goal

pub returns-in-Some-Some : goal.returns-in-Some-Some
returns-in-Some-Some c =
    let cost = c.in-Some-Some.cost in
    let fits_cost : FitsSigned w64 cost = search rules in
    let fits_above : FitsSigned w128 c.saturating_mul-above.result = search rules in
    let fits_top : FitsSigned w128 c.saturating_mul.result = search rules in
    let fits_bound : FitsSigned w128 c.in-Some-Some.bound = search rules in
    let fits_gone : FitsSigned w128 c.saturating_sub.result = search rules in
    let gone : c.saturating_sub.result ≡ saturate_to_bits 127 (cost -ℤ c.in-Some-Some.bound) =
    grind (arith, to_z-of_z, c.saturating_sub.ensures, c.from-cost.ensures) in
    let above : c.saturating_mul-above.result ≡ saturate_to_bits 127 (c.saturating_sub.result *ℤ pos 1000000) =
    grind (arith, to_z-of_z, c.saturating_mul-above.ensures) in
    let top : c.saturating_mul.result ≡ saturate_to_bits 127 (pos c.args.gap *ℤ cost) =
    grind (arith, to_z-of_z, c.saturating_mul.ensures, c.from-cost.ensures, c.from.ensures) in
    let same = compared c.args.gap cost c.in-Some-Some.bound _ _ _ c.ranges.gap.fits (omega (arith, ints))
    (omega (arith, ints)) gone above top in
    grind (arith, to_z-of_z, same, c.in-Some-Some.is-0, c.in-Some-Some.is-1)
