-- What minutes and metres cost together.
use Rattle.std.proofs.Common.{◌≡◌, ℕ, ◌+◌, arith}
use Rattle.std.proofs.Math.Nat.{mul-add}
use Rattle.vs_instance.specs.Problem.{Problem}
use Rattle.vs_instance.specs.Ways.{layer_of}
use Rattle.vs_instance.specs.Pieces.{rated}

-- two stretches of minutes and metres cost what both together do
pub rated-add : (p : Problem) (l a b x y : ℕ) → rated p l (a + b) (x + y) ≡ rated p l a x + rated p l b y
rated-add p l a b x y =
    let time = mul-add (layer_of p l).per_minute a b in
    let driven = mul-add (layer_of p l).per_metre x y in
    omega (arith, time, driven)
