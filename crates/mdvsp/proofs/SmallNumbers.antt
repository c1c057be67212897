-- Numbers brought within 128 bits compare with small ones as before.
use Rattle.std.proofs.Common.{◌≡◌, ◌∙◌, ap, sym, subst, ℕ, suc, ◌+◌, ◌-◌, ◌*◌, ◌^◌, ◌<◌, ◌≤◌, ℤ, pos, negsuc, neg_ℤ, ◌-ℤ◌, ◌*ℤ◌, ◌≤ℤ◌, ◌<ℤ◌, ◌↔◌, arith}
use Rattle.std.proofs.Math.IntN.{pos-*ℤ-pos, pos-*ℤ-negsuc, negsuc-*ℤ-pos}
use Rattle.std.proofs.Math.Nat.{mul-le-mul}
use Rattle.std.proofs.lemmas.Int.{ints}
use Rattle.std.specs.Int.{saturate_to_bits}

-- far from both ends of 128 bits
pub record IsSmall (y : ℤ) : Type 0 where
  pub low : neg_ℤ (pos (2 ^ 100)) ≤ℤ y
  pub high : y ≤ℤ pos (2 ^ 100)

pub above_small : (z y : ℤ) → IsSmall y → saturate_to_bits 127 z ≤ℤ y → z ≤ℤ y
above_small (pos n) y small le = grind (arith, ints, small.high)
above_small (negsuc n) y small le = grind (arith, ints, small.low)

pub below_small : (z y : ℤ) → IsSmall y → z ≤ℤ y → saturate_to_bits 127 z ≤ℤ y
below_small (pos n) y small le = grind (arith, ints, small.high)
below_small (negsuc n) y small le = grind (arith, ints, small.low)

pub small_stays : (y : ℤ) → IsSmall y → saturate_to_bits 127 y ≡ y
small_stays (pos n) small = grind (arith, ints, small.high)
small_stays (negsuc n) small = grind (arith, ints, small.low)

pub above_parts : (z y : ℤ) → IsSmall y → (saturate_to_bits 127 z *ℤ pos 1000000) ≤ℤ y → (z *ℤ pos 1000000) ≤ℤ y
above_parts (pos n) y small le = grind (arith, ints, pos-*ℤ-pos, small.high)
above_parts (negsuc n) y small le = grind (arith, ints, negsuc-*ℤ-pos, small.low)

pub below_parts : (z y : ℤ) → IsSmall y → (z *ℤ pos 1000000) ≤ℤ y → (saturate_to_bits 127 z *ℤ pos 1000000) ≤ℤ y
below_parts (pos n) y small le = grind (arith, ints, pos-*ℤ-pos, small.high)
below_parts (negsuc n) y small le = grind (arith, ints, negsuc-*ℤ-pos, small.low)

pub small_product : (gap : ℕ) (cost : ℤ) → gap < 2 ^ 32 → neg_ℤ (pos (2 ^ 63)) ≤ℤ cost → cost ≤ℤ pos (2 ^ 63)
    → IsSmall (pos gap *ℤ cost)
small_product gap (pos n) few low high =
    let at_most : gap * n ≤ 2 ^ 32 * 2 ^ 63 =
    mul-le-mul {n₁ = gap} {m₁ = n} {n₂ = 2 ^ 32} {m₂ = 2 ^ 63} (omega arith) (omega (arith, ints)) in record {
      low = grind (arith, ints, pos-*ℤ-pos, at_most);
      high = grind (arith, ints, pos-*ℤ-pos, at_most);
    }
small_product gap (negsuc n) few low high =
    let at_most : gap * suc n ≤ 2 ^ 32 * 2 ^ 63 =
    mul-le-mul {n₁ = gap} {m₁ = suc n} {n₂ = 2 ^ 32} {m₂ = 2 ^ 63} (omega arith) (omega (arith, ints)) in record {
      low = grind (arith, ints, pos-*ℤ-negsuc, at_most);
      high = grind (arith, ints, pos-*ℤ-negsuc, at_most);
    }

-- brought within 128 bits at each step, the one side compares with the other as the numbers themselves do
pub compared : (gap : ℕ) (cost bound gone above top : ℤ) → gap < 2 ^ 32 → neg_ℤ (pos (2 ^ 63)) ≤ℤ cost
    → cost ≤ℤ pos (2 ^ 63) → gone ≡ saturate_to_bits 127 (cost -ℤ bound)
    → above ≡ saturate_to_bits 127 (gone *ℤ pos 1000000) → top ≡ saturate_to_bits 127 (pos gap *ℤ cost)
    → (above ≤ℤ top) ↔ (((cost -ℤ bound) *ℤ pos 1000000) ≤ℤ (pos gap *ℤ cost))
compared gap cost bound gone above top few low high gone_is above_is top_is =
    let y = pos gap *ℤ cost in
    let small = small_product gap cost few low high in
    let top_is_y : top ≡ y = top_is ∙ small_stays y small in
    let is : above ≡ saturate_to_bits 127 (saturate_to_bits 127 (cost -ℤ bound) *ℤ pos 1000000) =
    above_is ∙ ap (λ (z : ℤ). saturate_to_bits 127 (z *ℤ pos 1000000)) gone_is in (
      (λ le. above_parts (cost -ℤ bound) y small (above_small _ y small (subst (λ (z : ℤ). z ≤ℤ y) is
          (subst (λ (z : ℤ). above ≤ℤ z) top_is_y le)))),
      (λ le. subst (λ (z : ℤ). above ≤ℤ z) (sym top_is_y) (subst (λ (z : ℤ). z ≤ℤ y) (sym is)
          (below_small _ y small (below_parts (cost -ℤ bound) y small le)))),
    )
