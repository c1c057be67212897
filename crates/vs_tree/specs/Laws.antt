-- What holds of every history of a search.
use Rattle.std.specs.Prelude.{ℕ, List, IsSomeAnd, pos, ◌≤ℤ◌}
use Rattle.vs_instance.specs.Problem.{Problem}
use Rattle.vs_instance.specs.Plan.{LayerBlock, IsPlan, plan_cost}
use Rattle.vs_prices.specs.Worth.{BoundsPlans}
use Rattle.vs_prices.specs.declared.bound.Bound.{Bound}
use Rattle.vs_prices.specs.declared.claim.Claim.{Claim}
use Rattle.vs_prices.specs.declared.claim.Claim.TheVariants.{Optimal, Infeasible, StillOpen}
use Rattle.vs_tree.specs.declared.calls.Report.{Report}
use Rattle.vs_tree.specs.History.{FullStep, Opening, State, IsHistory, IsLeaf, IsLeafWorth, incumbent, sets_at, state_of}
use Rattle.vs_tree.specs.Report.{IsReport}
use Rattle.vs_tree.specs.Sound.{IsOpening, IsPlanOf, IsSound}
use Rattle.vs_tree.specs.StateTree.{IsTreeOf}
use Rattle.vs_prices.specs.Tree.{Tree}

-- every state that a history leads to is sound
abbrev pub HistoriesAreSound : Type 0
HistoriesAreSound = (o : Opening) (steps : List FullStep) → IsOpening o → IsHistory o steps
    → IsSound o (state_of o steps)

-- in every such state a plan costs at least what the leaf is worth that it lies in
abbrev pub LeavesBoundPlans : Type 0
LeavesBoundPlans =
    (o : Opening) (steps : List FullStep) (k : ℕ) (worth : Bound) → IsOpening o → IsHistory o steps
    → IsLeaf (state_of o steps) k → IsLeafWorth o.problem (state_of o steps) k worth
    → BoundsPlans o.problem (sets_at (state_of o steps) k) worth

-- what the report of such a state says of all plans, by its claim
abbrev pub IsTrueClaim : Problem → State → Report → Claim → Type 0
IsTrueClaim p s r Optimal = IsSomeAnd (incumbent s) (λ best. IsPlanOf p best
    × ((blocks : List LayerBlock) → IsPlan p blocks → best.cost ≤ℤ pos (plan_cost p blocks)))
IsTrueClaim p s r Infeasible = (blocks : List LayerBlock) → ¬ (IsPlan p blocks)
IsTrueClaim p s r StillOpen = IsSomeAnd r.bound (λ bound.
    (blocks : List LayerBlock) → IsPlan p blocks → bound ≤ℤ pos (plan_cost p blocks))

abbrev pub ReportsAreTrue : Type 0
ReportsAreTrue =
    (o : Opening) (steps : List FullStep) (r : Report) → IsOpening o → IsHistory o steps
    → IsReport o.problem (state_of o steps) r → IsTrueClaim o.problem (state_of o steps) r r.claim

-- the spots of every such state make a tree of cases, in which each leaf stands once
abbrev pub StatesAreTrees : Type 0
StatesAreTrees =
    (o : Opening) (steps : List FullStep) → IsOpening o → IsHistory o steps
    → (tree : Tree) × IsTreeOf o.problem (state_of o steps) tree
