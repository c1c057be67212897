-- What stands in memory between two turns, and how a turn changes it.
use Rattle.std.specs.Prelude.{◌≡◌, ◌⊎◌, ℕ, ◌+◌, ◌<◌, ◌≤◌, ◌^◌, true, List, [], ◌++◌, length, map, All, slice_get, Option, Some, MatchOption, IfSome, ℤ, pos}
use Rattle.vs_types.specs.declared.layer_set.LayerSet.{LayerSet}
use Rattle.vs_instance.specs.Plan.{IsPlan, LayerBlock, plan_cost}
use Rattle.vs_instance.specs.Problem.{Problem}
use Rattle.vs_instance.specs.Restriction.{permitted_sets}
use Rattle.vs_plan.specs.Blocks.{blocks_of}
use Rattle.vs_plan.specs.CheckedPlan.{Checked}
use Rattle.vs_prices.specs.Bounds.{IsBelow}
use Rattle.vs_prices.specs.Table.{Fits, HoldingTable}
use Rattle.vs_prices.specs.declared.table.Table.{Table}
use Rattle.vs_prices.specs.Tree.{IsGoodTree, leaves}
use Rattle.vs_rows.specs.DocumentRows.{IsBetween}
use Rattle.vs_rows.specs.declared.document.Document.{Document}
use Rattle.vs_rows.specs.declared.document.Shape.{Shape}
use Rattle.vs_rows.specs.declared.limits.TheConstants.{MAX_COST}
use Rattle.vs_tree.specs.History.{IsCheaper, incumbent}
use Rattle.vs_tree.specs.Prices.{prices_of}
use Rattle.vs_tree.specs.Search.{Search, state}
use Rattle.vs_cert.specs.TreeRows.{AreRowsOf}
use Rattle.vs_resume.specs.declared.cases.Case.{Case}
use Rattle.vs_resume.specs.declared.course.Course.{Course}
use Rattle.vs_resume.specs.declared.deepen.TheConstants.{MAX_TURN}
use Rattle.vs_resume.specs.declared.turning.Ended.{Ended}
use Rattle.vs_resume.specs.Cases.{AreCasesOf, AreCasesOfRows, AreSettled}
use Rattle.vs_resume.specs.InPlace.{in_place, row_of_leaf}
use Rattle.vs_resume.specs.Order.{worths_in}
use Rattle.vs_resume.specs.Outlines.{IsOutline}
use Rattle.vs_resume.specs.Parts.{AreWidenedTables}
use Rattle.vs_resume.specs.Standing.{IsPrinted, Standing}
use Rattle.vs_resume.specs.Turns.{IsNextIn, IsTurn}

-- the blocks are a plan of the cost, and where there is no cost there are none
abbrev pub HasPlanOf : Problem → Option ℤ → List LayerBlock → Type 0
HasPlanOf p cost blocks = MatchOption cost (blocks ≡ []) (λ c. IsPlan p blocks × (c ≡ pos (plan_cost p blocks)))

-- the standing is what is in memory: its tree shares out what each trip may be run in, its tables hold, and its blocks
-- are a plan, whose cost can be printed
pub record IsCourseOf (p : Problem) (c : Course) (s : Standing) : Type 0 where
  pub cost : s.cost ≡ c.cost
  pub blocks : s.blocks ≡ blocks_of c.plan
  pub outline : IsOutline c.rows.items s.tree
  pub tables : s.tables ≡ map prices_of c.tables.items
  pub good : IsGoodTree (permitted_sets p) s.tree
  pub lawful : All (λ table. Fits p table × HoldingTable p table) c.tables.items
  pub cases : AreCasesOf p c.tables.items (leaves (permitted_sets p) s.tree) c.cases.items
  pub plan : HasPlanOf p s.cost s.blocks
  pub within : IfSome s.cost (IsBetween (pos 0) MAX_COST)

abbrev pub IsSomeCourse : Problem → Course → Type 0
IsSomeCourse p c = (s : Standing) × IsCourseOf p c s

-- what is in memory is what a document prints
pub record IsBegun (p : Problem) (d : Document) (c : Course) : Type 0 where
  pub first : Standing
  pub printed : IsPrinted d first
  pub course : IsCourseOf p c first
  pub tables : length c.tables.items ≡ length d.tables.items

-- the tables of a turn still have numbers of 32 bits, and a turn adds no more than these
abbrev pub HasFewTables : Course → Type 0
HasFewTables c = length c.tables.items + MAX_TURN + 1 < 2 ^ 32

abbrev pub HasNewTables : Course → Course → Type 0
HasNewTables old new = length new.tables.items ≤ length old.tables.items + MAX_TURN + 1

-- leaf k comes next
abbrev pub AreNext : Course → ℕ → Type 0
AreNext c k = IsNextIn c.cost (worths_in c.cases.items) k

-- leaf k, and its layers
abbrev pub IsCaseAt : Course → ℕ → Case → Type 0
IsCaseAt c k found = slice_get c.cases.items k ≡ Some found

abbrev pub HasSetsAt : Course → ℕ → List LayerSet → Type 0
HasSetsAt c k sets = (found : Case) → IsCaseAt c k found → found.sets.items ≡ sets

-- the plan stays, or is this one now
pub record IsSamePlan (old new : Course) : Type 0 where
  pub cost : new.cost ≡ old.cost
  pub plan : new.plan ≡ old.plan

pub record IsPlanNow (found : Checked) (new : Course) : Type 0 where
  pub cost : new.cost ≡ Some found.cost
  pub blocks : blocks_of new.plan ≡ found.blocks

-- the plan of a search of a part is taken where it is cheaper, and all else stays
pub record IsPlanTaken (t : Search) (old new : Course) : Type 0 where
  pub tables : new.tables ≡ old.tables
  pub rows : new.rows ≡ old.rows
  pub cases : new.cases ≡ old.cases
  pub plan : MatchOption (incumbent (state t)) (IsSamePlan old new)
      (λ found. (IsCheaper found.cost old.cost × IsPlanNow found new)
      ⊎ ((¬ (IsCheaper found.cost old.cost)) × IsSamePlan old new))

-- the tree of a search of a part stands in the place of leaf k, and the plan stays
pub record IsPartPut (p : Problem) (k : ℕ) (t : Search) (old new : Course) : Type 0 where
  pub cost : new.cost ≡ old.cost
  pub plan : new.plan ≡ old.plan
  pub leaf : Case
  pub is_leaf : IsCaseAt old k leaf
  pub table : Table
  pub is_table : slice_get old.tables.items leaf.table ≡ Some table
  pub numbers : List ℕ
  pub rows : List Shape
  pub of_tree : AreRowsOf t.opening (state t) numbers rows
  pub added : List Table
  pub widened : AreWidenedTables p leaf.sets.items (state t) numbers added
  pub fresh : List Case
  pub are_fresh : AreCasesOfRows p added leaf.sets.items rows fresh
  pub settled : List Case
  pub are_settled : AreSettled p table leaf.table (length old.tables.items) fresh settled
  pub tables_are : new.tables.items ≡ old.tables.items ++ added
  pub rows_are : new.rows.items ≡ in_place old.rows.items (row_of_leaf old.rows.items k) rows
  pub cases_are : new.cases.items ≡ in_place old.cases.items k settled

-- a turn of so many nodes leads from one to the other
pub record IsTurnedOn (p : Problem) (left nodes : ℕ) (s : Standing) (new : Course) : Type 0 where
  pub standing : Standing
  pub course : IsCourseOf p new standing
  pub turn : IsTurn p left s standing nodes

abbrev pub TurnsOn : Problem → ℕ → Course → Course → ℕ → Type 0
TurnsOn p left old new nodes = (s : Standing) → IsCourseOf p old s → IsTurnedOn p left nodes s new

-- the same where a turn ended so: one that finished no node was stopped, and changed nothing
abbrev pub TurnsFurther : Problem → ℕ → Course → Course → Ended → Type 0
TurnsFurther p left old new ended = ((ended.finished ≡ 0) × (ended.stopped ≡ true) × (new ≡ old))
    ⊎ ((1 ≤ ended.finished) × (ended.finished ≤ left) × TurnsOn p left old new ended.finished)

-- no leaf is below the cost
abbrev pub NoneIsBelow : Course → Type 0
NoneIsBelow c = All (λ found. ¬ (IsBelow found.worth c.cost)) c.cases.items

-- turns end only where that is so
abbrev pub EndsOnly : Course → Ended → Type 0
EndsOnly c ended = ended.stopped ≡ true → NoneIsBelow c
