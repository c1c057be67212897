-- The numbers and the blocks in the document of a state are within their limits.
use Rattle.std.proofs.Common.{◌≡◌, [], inl, inr, refl, sym, subst, arith, rules, Option, Some, None, option_map, ℤ, pos}
use Rattle.std.specs.Prelude.{IfNone, IfSome}
use Rattle.std.specs.List.{All}
use Rattle.std.proofs.lemmas.Int.{ints}
use Rattle.std.proofs.lemmas.List.Elements.{All-nil, All-weaker}
use Rattle.vs_instance.specs.Blocks.{IsBlock}
use Rattle.vs_instance.specs.Instance.{IsInstance}
use Rattle.vs_instance.specs.Plan.{LayerBlock, plan_cost}
use Rattle.vs_instance.specs.Problem.{Problem}
use Rattle.vs_plan.specs.Blocks.{IsOfInstance}
use Rattle.vs_plan.specs.CheckedPlan.{Checked}
use Rattle.vs_prices.specs.Bounds.{IsNoLess}
use Rattle.vs_prices.specs.declared.bound.Bound.TheVariants.{AtLeast, NoPlan}
use Rattle.vs_tree.specs.History.{Opening, State, incumbent, known, sets_at, spot_at, table_of}
use Rattle.vs_tree.specs.Prices.{AreLawful, no_prices}
use Rattle.vs_tree.specs.Report.{IsLesser, IsReached, bound_of}
use Rattle.vs_tree.specs.Sound.{IsPlanOf, IsSound}
use Rattle.vs_tree.proofs.CallerLemmas.{last-is, lawful_fits, lawful_holds}
use Rattle.vs_rows.specs.DocumentRows.{IsBetween, IsWithin}
use Rattle.vs_cert.specs.StateDocument.{known_blocks}
use Rattle.vs_rows.specs.declared.limits.TheConstants.{MAX_BOUND, MAX_COST}
use Rattle.vs_rows.proofs.CallerLemmas.{checked_cost, cost_bound}
use Rattle.vs_cert.proofs.states.WorthRange.{worth_below}

module _ (o : Opening) (s : State) (instance : IsInstance o.problem) (sound : IsSound o s) where
  abbrev p : Problem
  p = o.problem

  -- the cheapest plan is one of the instance
  known_plan_is : (plan : Checked) → incumbent s ≡ Some plan → IsPlanOf p plan
  known_plan_is plan is = last-is (IsPlanOf p) None s.accepted plan sound.plans (λ other none. absurd cc) is

  by_cost : (best : Option Checked) → incumbent s ≡ best
      → IfSome (option_map (λ (plan : Checked). plan.cost) best) (IsBetween (pos 0) MAX_COST)
  by_cost None is = search rules
  by_cost (Some plan) is =
      let checked = (known_plan_is plan is).0 in
      checked_cost (plan_cost plan.problem plan.blocks) plan.cost checked.cost checked.limit

  pub known_fits : IfSome (known s) (IsBetween (pos 0) MAX_COST)
  known_fits = by_cost (incumbent s) refl

  -- a bound that a leaf is worth
  reached_fits : (n : ℤ) → IsReached p s (AtLeast n) → IsWithin MAX_BOUND n
  reached_fits n at =
      let worth = at.worth in
      let stands = sound.tables (table_of (spot_at s at.leaf)) no_prices (sound.numbers at.leaf at.is_leaf) in
      let lawful = subst (AreLawful p) (sym worth.listed) stands in
      let high = worth_below p instance worth.table (lawful_fits p worth.table lawful)
      (lawful_holds p worth.table lawful) (sets_at s at.leaf) n worth.worth in
      let low = sound.worths at.leaf (AtLeast n) at.is_leaf worth in
      (omega (arith, ints, low), omega (arith, ints, high))

  same_fits : (n : ℤ) (cost : Option ℤ) → IfSome cost (IsBetween (pos 0) MAX_COST) → AtLeast n ≡ bound_of cost
      → IsWithin MAX_BOUND n
  same_fits n None fits same = absurd cc
  same_fits n (Some cost) fits same = let is : n ≡ cost = cc in cost_bound n cost is fits

  pub bound_fits : (bound : Option ℤ) → IsLesser p s (bound_of bound) → IfSome bound (IsWithin MAX_BOUND)
  bound_fits None is = search rules
  bound_fits (Some n) is =
      elim is.reached [
        | inl same ↦ same_fits n (known s) known_fits same
        | inr at ↦ reached_fits n at
      ]

  -- there is a bound where there is a cost
  no_known : (cost : Option ℤ) → IsNoLess (bound_of cost) NoPlan → cost ≡ None
  no_known None is = refl
  no_known (Some cost) is = absurd is

  pub none_known : (bound : Option ℤ) → IsLesser p s (bound_of bound) → IfNone bound (known s ≡ None)
  none_known None is = no_known (known s) is.cost
  none_known (Some n) is = search rules

  -- the blocks are of the instance, and there are none where there is no cost
  of_instance : (best : Option Checked) → incumbent s ≡ best → All (IsOfInstance p) (known_blocks best)
  of_instance None is = All-nil (IsOfInstance p)
  of_instance (Some plan) is =
      let known = known_plan_is plan is in
      let blocks = known.0.plan.each_block in
      subst (λ (q : Problem). All (IsOfInstance q) plan.blocks) known.1
      (All-weaker (λ (b : LayerBlock). IsBlock plan.problem b.0 b.1) (IsOfInstance plan.problem)
      (λ b is_block. record {
        layer = is_block.layer;
        some_trip = is_block.some_trip;
        trips = is_block.of_instance;
      }) plan.blocks blocks)

  pub blocks_of_instance : All (IsOfInstance p) (known_blocks (incumbent s))
  blocks_of_instance = of_instance (incumbent s) refl

  none_without : (best : Option Checked)
      → IfNone (option_map (λ (plan : Checked). plan.cost) best) (known_blocks best ≡ [])
  none_without None = refl
  none_without (Some plan) = search rules

  pub no_blocks : IfNone (known s) (known_blocks (incumbent s) ≡ [])
  no_blocks = none_without (incumbent s)
