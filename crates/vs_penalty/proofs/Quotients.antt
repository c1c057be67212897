-- A number divided by one that is above 0.
use Rattle.std.proofs.Common.{◌≡◌, suc, arith, div-le_self, ℤ, pos, negsuc, ◌<ℤ◌, int_div}
use Rattle.std.proofs.lemmas.Int.{ints, clamps}
use Rattle.vs_penalty.specs.Means.{LiesBetween}

-- it comes no farther from 0
pub quotient_between : (number part : ℤ) → pos 0 <ℤ part → LiesBetween (pos 0) number (int_div number part)
quotient_between (pos n) (pos d) above = (omega (arith, ints, clamps), omega (arith, ints, clamps, div-le_self n d))
quotient_between (negsuc n) (pos d) above =
    (omega (arith, ints, clamps, div-le_self (suc n) d), omega (arith, ints, clamps))
quotient_between number (negsuc d) above = absurd above.lt

-- by 1 it stays
pub quotient_whole : (number part : ℤ) → part ≡ pos 1 → int_div number part ≡ number
quotient_whole number part one = rw one (of_one number)
  where
    of_one : (number : ℤ) → int_div number (pos 1) ≡ number
    of_one (pos n) = omega (arith, ints)
    of_one (negsuc n) = omega (arith, ints)
