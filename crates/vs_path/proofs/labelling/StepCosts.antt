-- What steps cost at most in nets of so many nodes: few steps no more than a path can, and one no more than an arc
-- where there are few nodes.
use Rattle.std.proofs.Common.{ℕ, ◌*◌, ◌≤◌, max, arith, ℤ, pos, ◌+ℤ◌, ◌-ℤ◌}
use Rattle.std.specs.Prelude.{nat_abs, List}
use Rattle.std.proofs.Math.Nat.{div-le_of_le-mul, le-max_left, le-max_right, mul-div-le}
use Rattle.std.proofs.lemmas.Int.{ints}
use Rattle.std.proofs.lemmas.Nat.{mul-le}
use Rattle.vs_path.specs.declared.residual.TheConstants.{MAX_PATH_COST, MAX_STEP_COST, USUAL_NODES}
use Rattle.vs_path.specs.StepCosts.{most_step}
use Rattle.vs_path.specs.Labels.{IsNear}
use Rattle.vs_path.specs.Residual.{IsWithin, AllWithin, price_at}

-- one step
pub step-few : (nodes : ℕ) → most_step nodes ≤ nat_abs MAX_STEP_COST
step-few nodes =
    let more : USUAL_NODES * nat_abs MAX_STEP_COST ≤ max nodes USUAL_NODES * nat_abs MAX_STEP_COST =
    mul-le USUAL_NODES (nat_abs MAX_STEP_COST) (max nodes USUAL_NODES) (nat_abs MAX_STEP_COST)
    (le-max_right nodes USUAL_NODES) (omega arith) in
    div-le_of_le-mul (max nodes USUAL_NODES) {m = nat_abs MAX_PATH_COST} {n = nat_abs MAX_STEP_COST}
    (omega (arith, more))

-- no more steps than there are nodes
pub steps-few : (nodes count : ℕ) → count ≤ nodes → count * most_step nodes ≤ nat_abs MAX_PATH_COST
steps-few nodes count few =
    let most = le-max_left nodes USUAL_NODES in
    let more : count * most_step nodes ≤ max nodes USUAL_NODES * most_step nodes =
    mul-le count (most_step nodes) (max nodes USUAL_NODES) (most_step nodes) (omega (arith, few, most)) (omega arith) in
    let all : max nodes USUAL_NODES * most_step nodes ≤ nat_abs MAX_PATH_COST =
    mul-div-le (nat_abs MAX_PATH_COST) (max nodes USUAL_NODES) in
    omega (arith, more, all)

-- fewer steps cost no more than more of them
pub steps-≤ : (nodes count more : ℕ) → count ≤ more → count * most_step nodes ≤ more * most_step nodes
steps-≤ nodes count more few = mul-le count (most_step nodes) more (most_step nodes) few (omega arith)

-- what a step costs at most is within the limit of all nets
pub step-within : (nodes : ℕ) (costs : List ℤ) → AllWithin (pos (most_step nodes)) costs → AllWithin MAX_STEP_COST costs
step-within nodes costs within k =
    let c = within k in
    let few = step-few nodes in
    record { low = omega (arith, ints, c.low, few); high = omega (arith, ints, c.high, few) }

-- a label that few steps led to is near by what a path can cost
pub near-path : (nodes : ℕ) (prices : List ℤ) (source count v : ℕ) (label : ℤ) → count ≤ nodes
    → IsNear nodes prices source count v label
    → IsWithin MAX_PATH_COST ((label +ℤ price_at prices v) -ℤ price_at prices source)
near-path nodes prices source count v label few near =
    let most = steps-few nodes count few in
    record { low = omega (arith, ints, near.low, most); high = omega (arith, ints, near.high, most) }
