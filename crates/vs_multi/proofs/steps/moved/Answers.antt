use Rattle.std.proofs.Common.{ℕ, ◌*◌, ◌≤◌, ap, arith}
use Rattle.std.proofs.lemmas.Int.{ints, clamps}
use Rattle.std.proofs.lemmas.Nat.{mul-le}
use Rattle.vs_types.specs.declared.numbers.TheConstants.{MAX_LAYERS}
use Rattle.vs_multi.specs.declared.steps.TheConstants.{MOST}
use Rattle.vs_multi.proofs.steps.moved.Goals as goal

pub returns : goal.returns
returns c =
    let few : c.args.step ≤ MOST = omega (arith, ints, c.requires.step) in
    let product = mul-le c.args.step c.args.covers MOST MAX_LAYERS few c.requires.covers in
    let same = ap (λ (n : ℕ). c.args.step * n) c.from.ensures in
    omega (arith, ints, clamps, few, product, same, c.max.ensures.value, c.min.ensures.value)
