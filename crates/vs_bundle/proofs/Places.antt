-- Places in a list by layer, and within that by trip.
use Rattle.std.proofs.Common.{ℕ, ◌+◌, ◌*◌, ◌<◌, ◌≤◌, arith}
use Rattle.std.proofs.Math.Nat.{mul-add, mul-le-mul_left}

-- each trip has one in each layer
pub place_inside : (trips layers l i : ℕ) → l < layers → i < trips → trips * l + i < trips * layers
place_inside trips layers l i layer trip =
    let next : l + 1 ≤ layers = omega arith in
    let rows : trips * (l + 1) ≤ trips * layers = mul-le-mul_left trips next in
    omega (arith, rows, mul-add trips l 1)
