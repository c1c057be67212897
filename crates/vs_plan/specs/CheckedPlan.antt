-- A plan that was judged, with the instance that it is a plan of and what it costs.
use Rattle.std.specs.Prelude.{◌≡◌, ◌⊎◌, ℕ, List, Option, Some, None, IsSomeAnd, option_map, ℤ, pos, ◌≤ℤ◌, refl}
use Rattle.std.specs.Coded.{Coded, code_by, coded×, coded_ℕ, coded_ℤ, coded_list}
use Rattle.vs_types.specs.declared.numbers.TripNo.{TripNo}
use Rattle.vs_plan.specs.declared.costs.TheConstants.{MAX_PLAN_COST}
use Rattle.vs_instance.specs.Codes.{coded_problem}
use Rattle.vs_instance.specs.Instance.{IsInstance}
use Rattle.vs_instance.specs.Problem.{Problem}
use Rattle.vs_instance.specs.Plan.{IsPlan, LayerBlock, plan_cost}

pub record Checked : Type 0 where
  pub problem : Problem
  pub blocks : List LayerBlock
  pub cost : ℤ

-- the blocks are a plan of the instance, at the cost
pub record IsChecked (c : Checked) : Type 0 where
  pub instance : IsInstance c.problem
  pub plan : IsPlan c.problem c.blocks
  pub cost : c.cost ≡ pos (plan_cost c.problem c.blocks)
  pub limit : c.cost ≤ℤ MAX_PLAN_COST

-- what a plan costs, where there is one
abbrev pub cost_of : Option Checked → Option ℤ
cost_of plan = option_map (λ c. c.cost) plan

-- a plan that costs no more than the other one, where that is there
abbrev pub IsNoDearer : Option Checked → Option Checked → Type 0
IsNoDearer plan None = Unit {0}
IsNoDearer plan (Some other) = IsSomeAnd plan (λ p. p.cost ≤ℤ other.cost)

-- the cheaper of two plans, or of two that may be none
pub record IsCheaperOf (plan first second : Option Checked) : Type 0 where
  pub one_of : (plan ≡ first) ⊎ (plan ≡ second)
  pub than_first : IsNoDearer plan first
  pub than_second : IsNoDearer plan second

-- how checked plans are stored, so that a proof can tell them apart
abbrev pub coded_trip_no : Coded TripNo
coded_trip_no = code_by ℕ coded_ℕ (λ i. i.0) (λ n. record { 0 = n }) (λ _. refl)

abbrev pub coded_block : Coded LayerBlock
coded_block =
    code_by (ℕ × List TripNo) (coded× coded_ℕ (coded_list coded_trip_no)) (λ b. (b.0.0, b.1))
    (λ c. (record { 0 = c.0 }, c.1)) (λ _. refl)

abbrev pub coded_checked : Coded Checked
coded_checked =
    code_by (Problem × (List LayerBlock × ℤ)) (coded× coded_problem (coded× (coded_list coded_block) coded_ℤ))
    (λ c. (c.problem, (c.blocks, c.cost))) (λ c. record { problem = c.0; blocks = c.1.0; cost = c.1.1 }) (λ _. refl)
