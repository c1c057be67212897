-- What leaves are worth bounds the plans, and reports say no more than that.
use Rattle.std.proofs.Common.{◌≡◌, ℕ, Bool, true, false, cond, List, refl, sym, ap, ◌∙◌, subst, arith, Option, Some, None, IsSomeAnd, option_map, ℤ, pos, ◌≤ℤ◌}
use Rattle.std.specs.Ordering.{int_eq}
use Rattle.std.proofs.lemmas.Bool.Decides.{Decides-int_eq}
use Rattle.std.proofs.lemmas.Int.{ints}
use Rattle.vs_instance.specs.Plan.{LayerBlock, IsPlan, plan_cost}
use Rattle.vs_plan.specs.CheckedPlan.{Checked}
use Rattle.vs_prices.specs.Bounds.{IsNoLess}
use Rattle.vs_prices.specs.Worth.{BoundsPlans, IsBoundOn}
use Rattle.vs_prices.specs.declared.bound.Bound.{Bound}
use Rattle.vs_prices.specs.declared.bound.Bound.TheVariants.{AtLeast, NoPlan}
use Rattle.vs_prices.specs.Claims.{claim_found}
use Rattle.vs_prices.specs.declared.claim.Claim.{Claim}
use Rattle.vs_prices.specs.declared.claim.Claim.TheVariants.{Optimal, StillOpen}
use Rattle.vs_tree.specs.declared.calls.Report.{Report}
use Rattle.vs_tree.specs.History.{Opening, State, IsLeaf, IsLeafWorth, incumbent, known, prices_at, sets_at, spot_at, state_of, table_of}
use Rattle.vs_tree.specs.Laws.{IsTrueClaim, LeavesBoundPlans, ReportsAreTrue}
use Rattle.vs_tree.specs.Prices.{AreLawful, no_prices}
use Rattle.vs_tree.specs.Report.{IsReport, bound_of}
use Rattle.vs_tree.specs.Sound.{IsOpening, IsPlanOf, IsSound}
use Rattle.vs_tree.proofs.Accepted.{last-is}
use Rattle.vs_tree.proofs.LawfulPrices.{lawful_bounds, lawful_worth}
use Rattle.vs_tree.proofs.Spots.{leaf_within}
use Rattle.vs_tree.proofs.sound.Histories.{histories_are_sound}

module _ (o : Opening) (s : State) (opening : IsOpening o) (sound : IsSound o s) where
  lawful : (k : ℕ) → IsLeaf s k → AreLawful o.problem (prices_at s k)
  lawful k leaf = sound.tables (table_of (spot_at s k)) no_prices (sound.numbers k leaf)

  -- a plan costs at least what the leaf is worth that it lies in
  leaf_bounds : (k : ℕ) (worth : Bound) → IsLeaf s k → IsLeafWorth o.problem s k worth
      → BoundsPlans o.problem (sets_at s k) worth
  leaf_bounds k worth leaf is =
      lawful_bounds o.problem (sets_at s k) (prices_at s k) opening.instance
      (sound.restrictions k (leaf_within s.places k leaf)) (lawful k leaf) worth is

  -- a bound that no leaf is worth less than bounds all plans
  all_bounded : (bound : Bound)
      → ((k : ℕ) (worth : Bound) → IsLeaf s k → IsLeafWorth o.problem s k worth → IsNoLess worth bound)
      → (blocks : List LayerBlock) → IsPlan o.problem blocks → IsBoundOn bound (plan_cost o.problem blocks)
  all_bounded bound least blocks plan =
      let one = sound.shared_out blocks plan in
      let worth = lawful_worth o.problem (sets_at s one.leaf) (prices_at s one.leaf) (lawful one.leaf one.is_in.leaf) in
      lower worth.0 bound (plan_cost o.problem blocks) (least one.leaf worth.0 one.is_in.leaf worth.1)
      (leaf_bounds one.leaf worth.0 one.is_in.leaf worth.1 blocks plan one.is_in.within)
    where
      lower : (worth bound : Bound) (cost : ℕ) → IsNoLess worth bound → IsBoundOn worth cost → IsBoundOn bound cost
      lower NoPlan bound cost less no_plan = absurd no_plan
      lower (AtLeast n) NoPlan cost less bounds = absurd less
      lower (AtLeast n) (AtLeast m) cost less bounds = omega (arith, ints, less, bounds)

  module _ (r : Report) (report : IsReport o.problem s r) where
    bounded : (bound : Option ℤ) → r.bound ≡ bound → (blocks : List LayerBlock) → IsPlan o.problem blocks
        → IsBoundOn (bound_of bound) (plan_cost o.problem blocks)
    bounded bound is =
        all_bounded (bound_of bound) (λ k worth leaf is_worth. subst (λ (b : Option ℤ). IsNoLess worth (bound_of b)) is
        (report.bound.leaves k worth leaf is_worth))

    open_claim : (n : ℤ) → r.bound ≡ Some n → IsTrueClaim o.problem s r StillOpen
    open_claim n is =
        let P : Option ℤ → Type 0 = λ q. IsSomeAnd q (λ bound.
        (blocks : List LayerBlock) → IsPlan o.problem blocks → bound ≤ℤ pos (plan_cost o.problem blocks)) in
        subst P (sym is) (bounded (Some n) is)

    optimal_claim : (best : Option Checked) → incumbent s ≡ best → (n : ℤ) → r.bound ≡ Some n
        → option_map (λ plan. plan.cost) best ≡ Some n
        → IsSomeAnd best (λ plan. IsPlanOf o.problem plan
        × ((blocks : List LayerBlock) → IsPlan o.problem blocks → plan.cost ≤ℤ pos (plan_cost o.problem blocks)))
    optimal_claim None is n bound found = cc
    optimal_claim (Some plan) is n bound found =
        let costs : n ≡ plan.cost = cc in (
          last-is (IsPlanOf o.problem) None s.accepted plan sound.plans (λ y none. cc) is,
          λ blocks a_plan. subst (λ (x : ℤ). x ≤ℤ pos (plan_cost o.problem blocks)) costs
              (bounded (Some n) bound blocks a_plan),
        )

    true_claim : (cost bound : Option ℤ) → r.cost ≡ cost → r.bound ≡ bound
        → IsTrueClaim o.problem s r (claim_found cost bound)
    true_claim None None no_cost no_bound = bounded None no_bound
    true_claim None (Some n) no_cost has_bound = open_claim n has_bound
    true_claim (Some c) None has_cost no_bound =
        let is : known s ≡ Some c = sym report.cost ∙ has_cost in
        let both : IsNoLess (bound_of (Some c)) (bound_of None) =
        subst (λ (q : Option ℤ). IsNoLess (bound_of q) (bound_of None)) is
        (subst (λ (q : Option ℤ). IsNoLess (bound_of (known s)) (bound_of q)) no_bound report.bound.cost) in
        absurd both
    true_claim (Some c) (Some n) has_cost has_bound = by_test (int_eq c n) refl
      where
        by_test : (b : Bool) → int_eq c n ≡ b → IsTrueClaim o.problem s r (cond b Optimal StillOpen)
        by_test true same =
            let alike : c ≡ n = (Decides-int_eq c n).0 same in
            optimal_claim (incumbent s) refl n has_bound (sym report.cost ∙ has_cost ∙ ap (λ (x : ℤ). Some x) alike)
        by_test false other = open_claim n has_bound

-- the laws
pub leaves_bound_plans : LeavesBoundPlans
leaves_bound_plans o steps k worth opening history leaf is =
    leaf_bounds o (state_of o steps) opening (histories_are_sound o steps opening history) k worth leaf is

pub reports_are_true : ReportsAreTrue
reports_are_true o steps r opening history report =
    let s : State = state_of o steps in
    subst (λ (c : Claim). IsTrueClaim o.problem s r c) (sym report.claim)
    (true_claim o s opening (histories_are_sound o steps opening history) r report r.cost r.bound refl refl)
