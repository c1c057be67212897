-- When a document proves what it claims.
use Rattle.std.specs.Prelude.{◌≡◌, ◌≤◌, List, [], All, ℤ, pos, ◌≤ℤ◌, Option, Some, MatchOption, IfSome, IfNone, slice_get}
use Rattle.vs_types.specs.declared.layer_set.LayerSet.{LayerSet}
use Rattle.vs_instance.specs.Problem.{Problem}
use Rattle.vs_instance.specs.Plan.{IsPlan, LayerBlock, plan_cost}
use Rattle.vs_instance.specs.Restriction.{permitted_sets}
use Rattle.vs_plan.specs.Blocks.{blocks_of}
use Rattle.vs_prices.specs.declared.bound.Bound.{Bound}
use Rattle.vs_prices.specs.declared.table.Table.{Table}
use Rattle.vs_prices.specs.Table.{Fits, HoldingTable}
use Rattle.vs_prices.specs.Worth.{IsWorth, Reaches}
use Rattle.vs_prices.specs.Claims.{claim_found}
use Rattle.vs_prices.specs.declared.claim.Claim.TheVariants.{Optimal, Infeasible}
use Rattle.vs_prices.specs.Tree.{Tree, IsGoodTree, LeafPlace, leaves}
use Rattle.vs_rows.specs.Shapes.{preorder}
use Rattle.vs_rows.specs.declared.document.Document.{Document}

-- the blocks are a plan of the printed cost, and where none is printed there are none
abbrev pub HasPlan : Problem → Document → Type 0
HasPlan p d =
    MatchOption d.cost (blocks_of d.plan ≡ []) (λ cost. IsPlan p (blocks_of d.plan)
    × (cost ≡ pos (plan_cost p (blocks_of d.plan))))

-- the table reaches the printed bound, whichever layer of its set each trip is run in
abbrev pub ReachesBound : Problem → List LayerSet → Table → Option ℤ → Type 0
ReachesBound p sets table bound = (worth : Bound) × IsWorth p sets table worth × Reaches worth bound

-- the leaf names one of the tables, which reaches the printed bound there
pub record IsStrongLeaf (p : Problem) (tables : List Table) (bound : Option ℤ) (place : LeafPlace) : Type 0 where
  pub table : Table
  pub table_is : slice_get tables place.table ≡ Some table
  pub reaches : ReachesBound p place.sets table bound

-- the tree shares out what each trip may be run in, and each of its leaves reaches the printed bound
pub record IsStrongTree (p : Problem) (tables : List Table) (bound : Option ℤ) (sets : List LayerSet)
    (tree : Tree) : Type 0 where
  pub splits : IsGoodTree sets tree
  pub leaves : All (IsStrongLeaf p tables bound) (leaves sets tree)

-- the document's shape is such a tree, at whose root each trip may be run in its permitted layers
pub record HasTree (p : Problem) (d : Document) : Type 0 where
  pub tree : Tree
  pub shape_is : d.shape.items ≡ preorder tree
  pub strong : IsStrongTree p d.tables.items d.bound (permitted_sets p) tree

pub record HoldingDocument (p : Problem) (d : Document) : Type 0 where
  pub plan : HasPlan p d
  pub tables : All (λ t. Fits p t × HoldingTable p t) d.tables.items
  pub tree : HasTree p d
  pub claim : d.claim ≡ claim_found d.cost d.bound

-- What a document that holds proves, whoever wrote it: its blocks are a plan of the printed cost; no plan of the
-- instance costs less than the printed bound, and where the bound is none there is no plan; where it claims so, no plan
-- costs less than its own.
pub record ProvesItsClaim (p : Problem) (d : Document) : Type 0 where
  pub plan : IfSome d.cost (λ cost. IsPlan p (blocks_of d.plan) × (cost ≡ pos (plan_cost p (blocks_of d.plan))))
  pub bound : IfSome d.bound (λ bound. (blocks : List LayerBlock) → IsPlan p blocks → bound ≤ℤ pos (plan_cost p blocks))
  pub no_plan : IfNone d.bound ((blocks : List LayerBlock) → ¬ (IsPlan p blocks))
  pub optimal : d.claim ≡ Optimal → (blocks : List LayerBlock) → IsPlan p blocks
      → plan_cost p (blocks_of d.plan) ≤ plan_cost p blocks
  pub has_plan : d.claim ≡ Optimal → IsPlan p (blocks_of d.plan)
  pub infeasible : d.claim ≡ Infeasible → (blocks : List LayerBlock) → ¬ (IsPlan p blocks)
