use Rattle.std.proofs.Common.{ℕ, ◌*◌, ◌/◌, ◌<◌, ◌≤◌, arith, Option, Some, None}
use Rattle.std.proofs.Math.Nat.{div-le_of_le-mul}
use Rattle.std.proofs.lemmas.Int.{ints}
use Rattle.std.specs.Option.{SomeIff, unwrap_or}
use Rattle.vs_multi.specs.declared.steps.TheConstants.{MOST}
use Rattle.vs_multi.proofs.steps.mean.Goals as goal

mean_few : (total n : ℕ) (o : Option ℕ) → total ≤ MOST * n → SomeIff o (0 < n) (total / n)
    → unwrap_or o 0 ≤ MOST
mean_few total n None few is = omega arith
mean_few total n (Some m) few is =
    let bound = div-le_of_le-mul n {m = total} {n = MOST} (omega arith) in
    omega (arith, is.1, bound)

pub returns-clause-few : goal.returns-clause-few
returns-clause-few c =
    let few = mean_few c.total.result _ c.checked_div.result c.total.ensures.few c.checked_div.ensures in
    omega (arith, ints, few, c.unwrap_or.ensures)
