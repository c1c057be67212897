-- Products of an integer with a natural number.
use Rattle.std.proofs.Common.{◌≡◌, ℕ, zero, suc, ◌+◌, ◌≤◌, ap, arith, ℤ, pos, negsuc, ◌+ℤ◌, ◌-ℤ◌, ◌*ℤ◌, ◌≤ℤ◌}
use Rattle.std.proofs.Math.Nat.{mul-add}
use Rattle.std.proofs.lemmas.Int.{ints}
use Rattle.std.proofs.lemmas.Nat.{mul-le}

-- a product with nothing, and with one
pub times_none : (x : ℤ) → x *ℤ pos 0 ≡ pos 0
times_none (pos m) = omega (arith, ints)
times_none (negsuc m) = omega (arith, ints)

pub times_one : (x : ℤ) → x *ℤ pos 1 ≡ x
times_one (pos m) = omega (arith, ints)
times_one (negsuc m) = omega (arith, ints)

-- nothing, so many times
pub none_times : (n : ℕ) → pos 0 *ℤ pos n ≡ pos 0
none_times n = omega (arith, ints)

-- a product with a sum
pub times_sum : (x : ℤ) (m n : ℕ) → x *ℤ pos (m + n) ≡ x *ℤ pos m +ℤ x *ℤ pos n
times_sum (pos k) m n = let product = mul-add k m n in omega (arith, ints)
times_sum (negsuc k) m n = let product = mul-add (suc k) m n in omega (arith, ints)

-- a product with one more
pub times_more : (x : ℤ) (n : ℕ) → x *ℤ pos (n + 1) ≡ x *ℤ pos n +ℤ x
times_more x n = let sum = times_sum x n 1 in let one = times_one x in omega (arith, ints, sum, one)

-- sums and differences are multiplied term by term
pub times_add : (x y : ℤ) (n : ℕ) → (x +ℤ y) *ℤ pos n ≡ x *ℤ pos n +ℤ y *ℤ pos n
times_add x y zero =
    let both = times_none (x +ℤ y) in
    let first = times_none x in
    let second = times_none y in
    omega (arith, ints, both, first, second)
times_add x y (suc n) =
    let rest = times_add x y n in
    let both = times_more (x +ℤ y) n in
    let first = times_more x n in
    let second = times_more y n in
    omega (arith, ints, rest, both, first, second)

pub times_sub : (x y : ℤ) (n : ℕ) → (x -ℤ y) *ℤ pos n ≡ x *ℤ pos n -ℤ y *ℤ pos n
times_sub x y n =
    let is : (x -ℤ y) +ℤ y ≡ x = omega (arith, ints) in
    let sum = times_add (x -ℤ y) y n in
    let whole = ap (λ (z : ℤ). z *ℤ pos n) is in
    omega (arith, ints, sum, whole)

-- more of what is 0 or more come to more
pub times_le : (x : ℤ) (m n : ℕ) → pos 0 ≤ℤ x → m ≤ n → (x *ℤ pos m) ≤ℤ (x *ℤ pos n)
times_le (pos k) m n some le = let product = mul-le k m k n (omega arith) le in omega (arith, ints)
times_le (negsuc k) m n some le = absurd (omega (arith, ints))
