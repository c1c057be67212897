-- What is wrong with a document, as one list in the order in which it is judged.
use Rattle.std.specs.Prelude.{ℕ, ◌+◌, ◌<◌, Bool, true, false, not, if◌then◌else◌, List, [], ◌∷◌, ◌++◌, length, flat_map, ℤ, pos, int_lt, Option, Some, None, slice_get}
use Rattle.std.specs.List.{enumerate_from}
use Rattle.std.specs.Ordering.{int_eq}
use Rattle.vs_types.specs.declared.layer_set.LayerSet.{LayerSet}
use Rattle.vs_instance.specs.Firsts.{first, when}
use Rattle.vs_instance.specs.Problem.{Problem}
use Rattle.vs_instance.specs.Plan.{LayerBlock, plan_cost}
use Rattle.vs_instance.specs.Restriction.{permitted_sets, set_of}
use Rattle.vs_plan.specs.Blocks.{blocks_of}
use Rattle.vs_plan.specs.PlanFaults.{faults_of}
use Rattle.vs_plan.specs.declared.plan_fault.PlanFault.{PlanFault}
use Rattle.vs_plan.specs.declared.plan_fault.PlanFault.TheVariants as fault
use Rattle.vs_prices.specs.Breaks.{breaks_of}
use Rattle.vs_prices.specs.Worth.{worth_of}
use Rattle.vs_prices.specs.declared.bound.Bound.{Bound}
use Rattle.vs_prices.specs.declared.bound.Bound.TheVariants.{AtLeast, NoPlan}
use Rattle.vs_prices.specs.declared.broken_at.BrokenAt.{BrokenAt}
use Rattle.vs_prices.specs.declared.broken_at.BrokenAt.TheVariants as broken
use Rattle.vs_prices.specs.declared.table.Table.{Table}
use Rattle.vs_prices.specs.declared.claim.Claim.{Claim}
use Rattle.vs_prices.specs.declared.claim.Claim.TheVariants.{Optimal, Infeasible, StillOpen}
use Rattle.vs_rows.specs.declared.document.Document.{Document}
use Rattle.vs_check.specs.declared.flaw.Flaw.{Flaw}
use Rattle.vs_check.specs.declared.flaw.Flaw.TheVariants.{Plan, CostDiffers, TableBroken, BadSplit, LeafTooWeak, ClaimDiffers}
use Rattle.vs_rows.specs.Shapes.{preorder}
use Rattle.vs_check.specs.declared.verdict.Verdict.{Verdict}
use Rattle.vs_check.specs.declared.verdict.Verdict.TheVariants.{Yes, No}
use Rattle.vs_types.specs.Parts.{is_proper_part}
use Rattle.vs_prices.specs.Claims.{claim_found}
use Rattle.vs_prices.specs.Tree.{Tree, Leaf, Split, right_of, with_set}
use Rattle.vs_check.specs.Trees.{trees_of}

-- beside a printed cost: the first fault of the blocks, and where they have none, a cost that isn't theirs
abbrev pub cost_flaws : Problem → List LayerBlock → ℤ → Option PlanFault → List Flaw
cost_flaws p blocks cost (Some fault) = Plan fault ∷ []
cost_flaws p blocks cost None =
    when (not (int_eq cost (pos (plan_cost p blocks)))) (CostDiffers cost (pos (plan_cost p blocks)))

abbrev pub plan_flaws : Problem → List LayerBlock → Option ℤ → List Flaw
plan_flaws p blocks None = []
plan_flaws p blocks (Some cost) = cost_flaws p blocks cost (first (faults_of p blocks))

-- the first place where table t, counted from 0, breaks
abbrev pub broken_flaws : ℕ → Option BrokenAt → List Flaw
broken_flaws t None = []
broken_flaws t (Some at) = TableBroken t at ∷ []

abbrev pub table_flaws : Problem → ℕ → Table → List Flaw
table_flaws p t table = broken_flaws t (first (breaks_of p table))

-- table by table
abbrev pub tables_flaws : Problem → List Table → List Flaw
tables_flaws p tables = flat_map (λ e. table_flaws p e.0 e.1) (enumerate_from 0 tables)

-- of a leaf at this position, counted from 0, whose table is worth so much there, beside the printed bound
abbrev pub leaf_flaws : ℕ → Bound → Option ℤ → List Flaw
leaf_flaws position NoPlan bound = []
leaf_flaws position (AtLeast n) None = LeafTooWeak position n None ∷ []
leaf_flaws position (AtLeast n) (Some bound) = when (int_lt n bound) (LeafTooWeak position n (Some bound))

-- of a leaf where each trip may be run in a layer of these sets, which names this table
abbrev pub named_flaws : Problem → Option ℤ → ℕ → List LayerSet → Option Table → List Flaw
named_flaws p bound position sets None = []
named_flaws p bound position sets (Some table) = leaf_flaws position (worth_of p sets table) bound

-- Row by row, of a tree whose first row is at this position, where each trip may be run in a layer of these sets.
-- Behind a split that doesn't share out its trip's set nothing of its parts is told.
abbrev pub tree_flaws : Problem → List Table → Option ℤ → ℕ → List LayerSet → Tree → List Flaw
tree_flaws p tables bound position sets (Leaf table) = named_flaws p bound position sets (slice_get tables table)
tree_flaws p tables bound position sets (Split trip left lower upper) =
    if is_proper_part left (set_of sets trip.0) then
    tree_flaws p tables bound (position + 1) (with_set sets trip left) lower
    ++ tree_flaws p tables bound (position + 1 + length (preorder lower))
    (with_set sets trip (right_of sets trip left)) upper
    else BadSplit position ∷ []

-- of the shape's one tree, at whose root each trip may be run in its permitted layers
abbrev pub shape_flaws : Problem → Document → List Flaw
shape_flaws p d = flat_map (tree_flaws p d.tables.items d.bound 0 (permitted_sets p)) (trees_of d.shape.items)

abbrev pub same_claim : Claim → Claim → Bool
same_claim Optimal Optimal = true
same_claim Infeasible Infeasible = true
same_claim StillOpen StillOpen = true
same_claim _ _ = false

abbrev pub claim_flaws : Claim → Claim → List Flaw
claim_flaws claimed found = when (not (same_claim claimed found)) (ClaimDiffers claimed found)

-- all flaws in order: the plan and its cost, the tables, the shape, and the claim
abbrev pub flaws_of : Problem → Document → List Flaw
flaws_of p d =
    plan_flaws p (blocks_of d.plan) d.cost ++ tables_flaws p d.tables.items ++ shape_flaws p d
    ++ claim_flaws d.claim (claim_found d.cost d.bound)

-- yes where there is none, and else no for the first
abbrev pub verdict_of : Option Flaw → Verdict
verdict_of None = Yes
verdict_of (Some flaw) = No flaw

-- a flaw names layers and trips of an instance with so many
abbrev pub IsFaultWithin : ℕ → ℕ → PlanFault → Type 0
IsFaultWithin layers trips (fault.Twice i) = i.0 < trips
IsFaultWithin layers trips (fault.Uncovered i) = i.0 < trips
IsFaultWithin layers trips (fault.Fleet l count) = l.0 < layers
IsFaultWithin layers trips _ = Unit {0}

abbrev pub IsBreakWithin : ℕ → ℕ → BrokenAt → Type 0
IsBreakWithin layers trips (broken.Fleet l) = l.0 < layers
IsBreakWithin layers trips (broken.PullOut l i) = (l.0 < layers) × (i.0 < trips)
IsBreakWithin layers trips (broken.Link l i j) = (l.0 < layers) × (i.0 < trips) × (j.0 < trips)
IsBreakWithin layers trips (broken.PullIn l i) = (l.0 < layers) × (i.0 < trips)

abbrev pub IsFlawWithin : ℕ → ℕ → Flaw → Type 0
IsFlawWithin layers trips (Plan fault) = IsFaultWithin layers trips fault
IsFlawWithin layers trips (TableBroken t at) = IsBreakWithin layers trips at
IsFlawWithin layers trips _ = Unit {0}

abbrev pub IsVerdictWithin : ℕ → ℕ → Verdict → Type 0
IsVerdictWithin layers trips Yes = Unit {0}
IsVerdictWithin layers trips (No flaw) = IsFlawWithin layers trips flaw
