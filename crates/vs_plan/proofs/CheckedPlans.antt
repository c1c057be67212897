-- What it takes for a plan to be checked.
use Rattle.std.proofs.Common.{◌≡◌, List, ℤ, pos, ◌≤ℤ◌, sym, ◌∙◌, subst}
use Rattle.vs_instance.specs.Instance.{IsInstance}
use Rattle.vs_instance.specs.Problem.{Problem}
use Rattle.vs_instance.specs.Plan.{IsPlan, LayerBlock, plan_cost}
use Rattle.vs_plan.specs.declared.costs.TheConstants.{MAX_PLAN_COST}
use Rattle.vs_plan.specs.CheckedPlan.{IsChecked}

-- a plan of an instance at its cost is checked, by the instance that it remembers and the cost that it keeps
pub is_checked : (remembered p : Problem) (blocks : List LayerBlock) (kept cost : ℤ) → IsInstance p → IsPlan p blocks
    → cost ≡ pos (plan_cost p blocks) → cost ≤ℤ MAX_PLAN_COST → remembered ≡ p → kept ≡ cost
    → IsChecked (record { problem = remembered; blocks = blocks; cost = kept })
is_checked remembered p blocks kept cost instance plan value few same keeps =
    subst (λ (q : Problem). IsChecked (record { problem = q; blocks = blocks; cost = kept })) (sym same)
    (record {
      instance = instance;
      plan = plan;
      cost = keeps ∙ value;
      limit = subst (λ (x : ℤ). x ≤ℤ MAX_PLAN_COST) (sym keeps) few;
    })
