-- How far the rows of a document have been read.
use Rattle.std.specs.Prelude.{ℕ, suc, ◌+◌, ◌≤◌, List, [], ◌∷◌, length, map, ◌≡◌, ◌≢◌, All, ℤ, pos, Option, None, IfSome, IfNone}
use Rattle.vs_prices.specs.Table.{Fits}
use Rattle.vs_prices.specs.declared.table.Table.{Table}
use Rattle.vs_reader.specs.declared.input.Input.{Input}
use Rattle.vs_reader.specs.Rows.{row_of}
use Rattle.vs_document.specs.declared.refused.DocError.{DocError}
use Rattle.vs_document.specs.declared.refused.DocError.TheVariants as error
use Rattle.vs_instance.specs.Plan.{LayerBlock}
use Rattle.vs_plan.specs.Blocks.{IsOfInstance}
use Rattle.vs_rows.specs.declared.document.Document.{Document}
use Rattle.vs_rows.specs.declared.limits.TheConstants.{MAX_COST, MAX_BOUND, MAX_FINISHED, MAX_NUMBER}
use Rattle.vs_document.specs.declared.reading.head.Head.{Head}
use Rattle.vs_rows.specs.declared.document.Shape.{Shape}
use Rattle.vs_rows.specs.declared.document.Shape.TheVariants as shape
use Rattle.vs_rows.specs.DocumentText.{DocumentText, IsBlankElsewhere}
use Rattle.vs_rows.specs.Shapes.{AreTree, IsShapeOf}
use Rattle.vs_rows.specs.DocumentRows.{DocumentRow, ClaimRow, CostRow, BoundRow, NodesRow, BlockRow, EndRow, Says, tables_rows, shape_row, IsBetween, IsWithin}
use Rattle.vs_rows.specs.RowReading.{IsFirstRefused, LeadTo, ReadsTo, SayTo}
use Rattle.vs_document.specs.DocumentRefusals.{IsRefusal, documents}
use Rattle.vs_document.specs.Places.{Place, AtEnd, AtClaim, AtBlocks, InTree, InTable}

-- of the rows from one on, which come at a place, the first that is refused is told and why
abbrev pub IsRefusedAt : Input → ℕ → Place → DocError → Type 0
IsRefusedAt input at place (error.Refused row why) = IsFirstRefused documents input at place row why
IsRefusedAt input at place error.Memory = Unit {0}

-- it is so wherever that row comes
abbrev pub IsRefusedAnywhere : Input → ℕ → DocError → Type 0
IsRefusedAnywhere input at e = (place : Place) → place ≢ AtEnd → IsRefusedAt input at place e

-- in a tree of which some part is still to come
abbrev pub IsRefusedInTree : Input → ℕ → ℕ → DocError → Type 0
IsRefusedInTree input at tables e = (parts : ℕ) → IsRefusedAt input at (InTree tables (suc parts)) e

-- the rows from one on to before another are those of some tables from the first on, behind which the tree comes
pub record ReadsTables (input : Input) (at to : ℕ) (tables : List Table) : Type 0 where
  pub fits : All (Fits input.instance) tables
  pub blank : All (IsBlankElsewhere input.instance) tables
  pub number : length tables ≤ MAX_NUMBER
  pub reads : ReadsTo documents input at (InTable 0 []) (tables_rows input.instance tables) to
      (InTree (length tables) 1)

-- the row is a part of a tree behind so many tables: a split brings two parts, and a leaf none
abbrev pub parts_behind : ℕ → Shape → ℕ
parts_behind parts (shape.Split trip left) = suc (suc parts)
parts_behind parts (shape.Leaf table) = parts

pub record ReadsPart (input : Input) (at tables : ℕ) (part : Shape) : Type 0 where
  pub is_part : IsShapeOf input.instance tables part
  pub say : SayTo documents input at (shape_row part ∷ []) (at + 1)
  pub lead : (parts : ℕ) → LeadTo documents input at (InTree tables (suc parts)) (at + 1) (InTree tables
      (parts_behind parts part))

-- the row is `end`, and the last one
pub record IsLast (input : Input) (at : ℕ) : Type 0 where
  pub says : Says input.names (row_of input.rest at) EndRow
  pub last : length input.rest ≡ at + 1

-- the rows from one on are those of a tree behind so many tables
pub record ReadsTree (input : Input) (at tables to : ℕ) (shapes : List Shape) : Type 0 where
  pub tree : AreTree shapes
  pub parts : All (IsShapeOf input.instance tables) shapes
  pub reads : ReadsTo documents input at (InTree tables 1) (map shape_row shapes) to (InTree tables 0)

-- the rows are those of some blocks beside this cost, behind which the first table comes or the tree
pub record ReadsBlocks (input : Input) (at : ℕ) (cost : Option ℤ) (to : ℕ) (blocks : List LayerBlock) : Type 0 where
  pub of_instance : All (IsOfInstance input.instance) blocks
  pub no_blocks : IfNone cost (blocks ≡ [])
  pub reads : ReadsTo documents input at (AtBlocks cost) (map BlockRow blocks) to (InTable 0 [])

-- one row says this, and leads to another place
abbrev pub ReadsRow : Input → ℕ → Place → DocumentRow → Place → Type 0
ReadsRow input at place said next = ReadsTo documents input at place (said ∷ []) (at + 1) next

-- the rows stand for the document, and are refused so
abbrev pub IsDocumentOf : Input → Document → Type 0
IsDocumentOf input d = DocumentText input.instance input.names input.rest d

abbrev pub IsRefusalOf : Input → DocError → Type 0
IsRefusalOf input e = IsRefusal input.instance input.names input.before input.rest e

-- the first four rows are these
pub record ReadsHead (input : Input) (head : Head) : Type 0 where
  pub cost : IfSome head.cost (IsBetween (pos 0) MAX_COST)
  pub bound : IfSome head.bound (IsWithin MAX_BOUND)
  pub no_cost : IfNone head.bound (head.cost ≡ None)
  pub nodes : head.nodes ≤ MAX_FINISHED
  pub reads : ReadsTo documents input 0 AtClaim
      (ClaimRow head.claim ∷ CostRow head.cost ∷ BoundRow head.bound ∷ NodesRow head.nodes ∷ []) 4 (AtBlocks head.cost)
