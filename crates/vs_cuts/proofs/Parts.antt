-- How far from 0 parts of numbers are.
use Rattle.std.proofs.Common.{ℕ, ◌*◌, ◌≤◌, ℤ, pos, negsuc, ◌*ℤ◌, arith, sym, subst}
use Rattle.std.proofs.lemmas.Int.{ints, unsigned_abs-mul}
use Rattle.std.proofs.Math.Nat.{mul-le-mul_left}
use Rattle.std.specs.Int.RustNames.{unsigned_abs}
use Rattle.std.specs.Int.Signed.{shr_z}
use Rattle.vs_cuts.specs.Numbers.{IsPart}

-- where a number is at most so many wholes from 0
shr_near : (z : ℤ) (n : ℕ) → unsigned_abs z ≤ n * 1048576 → unsigned_abs (shr_z z 1048576) ≤ n
shr_near (pos a) n h = omega arith
shr_near (negsuc a) n h = omega arith

-- a part is no whole, or just one
part_abs : (p : ℤ) → IsPart p → unsigned_abs p ≤ 1048576
part_abs p h = grind (arith, ints)

-- so many parts of a number are no further from 0 than the number
pub part_near : (z p : ℤ) → IsPart p → unsigned_abs (shr_z (z *ℤ p) 1048576) ≤ unsigned_abs z
part_near z p h =
    shr_near (z *ℤ p) (unsigned_abs z)
    (subst (λ (m : ℕ). m ≤ unsigned_abs z * 1048576) (sym (unsigned_abs-mul z p))
    (mul-le-mul_left (unsigned_abs z) (part_abs p h)))

-- and its product fits
pub product_near : (z p : ℤ) (m : ℕ) → IsPart p → unsigned_abs z ≤ m → unsigned_abs (z *ℤ p) ≤ m * 1048576
product_near z p m h near =
    subst (λ (n : ℕ). n ≤ m * 1048576) (sym (unsigned_abs-mul z p))
    (let parts : unsigned_abs z * unsigned_abs p ≤ unsigned_abs z * 1048576 =
    mul-le-mul_left (unsigned_abs z) (part_abs p h) in omega arith)
