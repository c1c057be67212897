-- Slopes, and steps that are short for them.
use Rattle.std.proofs.Common.{◌≢◌, ℕ, ◌+◌, ◌*◌, ◌<◌, ◌≤◌, List, arith, get_or, length, length-set, set, subst, sym}
use Rattle.std.proofs.lemmas.List.{get_or-set_other}
use Rattle.std.proofs.lemmas.List.Elements.{All-set}
use Rattle.std.proofs.Math.Nat.{mul-le-mul_left}
use Rattle.std.specs.Int.RustNames.{unsigned_abs}
use Rattle.vs_cuts.specs.Numbers.{IsNear}
use Rattle.vs_weights.specs.Steps.{AreSlopes, IsShortFor}
use Rattle.vs_weights.specs.declared.standing.Standing.{Standing}
use Rattle.vs_weights.specs.declared.step.Step.{Step}

-- what is short for slopes is so for those nearer to 0
pub short_below : (near most : ℕ) (step : Step) → IsShortFor most step → near ≤ most → IsShortFor near step
short_below near most step short le = record {
  product = λ is.
      let product : unsigned_abs step.length * near ≤ unsigned_abs step.length * most =
      mul-le-mul_left (unsigned_abs step.length) le in
      let all = short.product is in omega arith;
}

-- slopes of which one is written that is no further from 0
pub slopes_set : (most i : ℕ) (standings : List Standing) (standing : Standing) → IsNear most standing.slope
    → AreSlopes most standings → AreSlopes most (set standings i standing)
slopes_set most i standings standing near all =
    All-set (λ (one : Standing). IsNear most one.slope) standings i standing near all

-- those behind it are as they were
pub slopes_rest : (near i : ℕ) (standings : List Standing) (standing : Standing)
    → ((k : ℕ) (d : Standing) → i ≤ k → k < length standings → IsNear near (get_or standings k d).slope)
    → (k : ℕ) (d : Standing) → i + 1 ≤ k → k < length (set standings i standing)
    → IsNear near (get_or (set standings i standing) k d).slope
slopes_rest near i standings standing each k d above below =
    let other : k ≢ i = omega arith in
    let within : k < length standings = subst (λ (n : ℕ). k < n) (length-set standings i standing) below in
    subst (λ (one : Standing). IsNear near one.slope) (sym (get_or-set_other standings i k standing d other))
    (each k d (omega arith) within)
