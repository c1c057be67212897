-- The flaws of a plan beside a printed cost, and those of a claim.
use Rattle.std.proofs.Common.{◌≡◌, Bool, true, false, not, List, [], refl, sym, ap, ◌∙◌, subst, Option, Some, None as nothing, ℤ, pos}
use Rattle.std.specs.Ordering.{int_eq}
use Rattle.std.proofs.lemmas.Bool.{false_from_ne_true}
use Rattle.std.proofs.lemmas.Bool.Decides.{Decides-int_eq}
use Rattle.vs_instance.specs.Firsts.{first, when}
use Rattle.vs_instance.specs.Problem.{Problem}
use Rattle.vs_instance.specs.Plan.{IsPlan, LayerBlock, plan_cost}
use Rattle.vs_plan.specs.PlanFaults.{faults_of}
use Rattle.vs_plan.specs.declared.plan_fault.PlanFault.{PlanFault}
use Rattle.vs_plan.proofs.CallerLemmas.{refuses}
use Rattle.vs_prices.specs.declared.claim.Claim.{Claim}
use Rattle.vs_prices.specs.declared.claim.Claim.TheVariants.{Optimal, Infeasible, StillOpen}
use Rattle.vs_check.specs.declared.flaw.Flaw.TheVariants.{CostDiffers}
use Rattle.vs_check.specs.Flaws.{cost_flaws, plan_flaws, same_claim}

pub same_cost : (x y : ℤ) → x ≡ y → int_eq x y ≡ true
same_cost x y is = (Decides-int_eq x y).1 is

pub other_cost : (x y : ℤ) → (x ≡ y → ⊥) → int_eq x y ≡ false
other_cost x y apart = false_from_ne_true (int_eq x y) (λ e. apart ((Decides-int_eq x y).0 e))

module _ (p : Problem) (blocks : List LayerBlock) where
  -- a plan has no first fault
  pub no_fault : IsPlan p blocks → first (faults_of p blocks) ≡ nothing
  no_fault plan = by_first (first (faults_of p blocks)) refl
    where
      by_first : (f : Option PlanFault) → first (faults_of p blocks) ≡ f → f ≡ nothing
      by_first nothing is = refl
      by_first (Some fault) is = absurd (refuses p blocks fault is plan)

  at_no_fault : (cost : ℤ) → IsPlan p blocks → plan_flaws p blocks (Some cost) ≡ cost_flaws p blocks cost nothing
  at_no_fault cost plan = ap (cost_flaws p blocks cost) (no_fault plan)

  pub right_cost : (cost : ℤ) → IsPlan p blocks → cost ≡ pos (plan_cost p blocks) → plan_flaws p blocks (Some cost) ≡ []
  right_cost cost plan is =
      at_no_fault cost plan
      ∙ ap (λ (b : Bool). when (not b) (CostDiffers cost (pos (plan_cost p blocks))))
      (same_cost cost (pos (plan_cost p blocks)) is)

  pub wrong_cost : (cost found : ℤ) → IsPlan p blocks → found ≡ pos (plan_cost p blocks) → (cost ≡ found → ⊥)
      → Some (CostDiffers cost found) ≡ first (plan_flaws p blocks (Some cost))
  wrong_cost cost found plan is apart =
      sym (ap first (at_no_fault cost plan
      ∙ ap (λ (b : Bool). when (not b) (CostDiffers cost (pos (plan_cost p blocks))))
      (other_cost cost (pos (plan_cost p blocks)) (λ e. apart (e ∙ sym is))))
      ∙ ap (λ (n : ℤ). Some (CostDiffers cost n)) (sym is))

-- the test of claims
pub claims_same : (a b : Claim) → same_claim a b ≡ true → a ≡ b
claims_same Optimal Optimal e = refl
claims_same Optimal Infeasible e = cc
claims_same Optimal StillOpen e = cc
claims_same Infeasible Optimal e = cc
claims_same Infeasible Infeasible e = refl
claims_same Infeasible StillOpen e = cc
claims_same StillOpen Optimal e = cc
claims_same StillOpen Infeasible e = cc
claims_same StillOpen StillOpen e = refl

claim_itself : (a : Claim) → same_claim a a ≡ true
claim_itself Optimal = refl
claim_itself Infeasible = refl
claim_itself StillOpen = refl

pub same_claims : (a b : Claim) → a ≡ b → same_claim a b ≡ true
same_claims a b is = subst (λ (x : Claim). same_claim a x ≡ true) is (claim_itself a)
