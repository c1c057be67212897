-- What a document has that was read for an instance: each number in it is one of the instance, or a price, or within
-- its range, and its shape is that of a tree.
use Rattle.std.specs.Prelude.{◌≡◌, ◌<◌, ◌^◌, [], length, All, IfNone}
use Rattle.vs_instance.specs.Problem.{Problem}
use Rattle.vs_plan.specs.Blocks.{CanBeJudged, IsOfInstance, blocks_of}
use Rattle.vs_prices.specs.Table.{Fits}
use Rattle.vs_rows.specs.declared.document.Document.{Document}
use Rattle.vs_rows.specs.Shapes.{AreTree, IsShapeOf}

pub record IsReadFor (p : Problem) (d : Document) : Type 0 where
  pub blocks : CanBeJudged p (blocks_of d.plan)
  pub no_blocks : IfNone d.cost (blocks_of d.plan ≡ [])
  pub tables : All (Fits p) d.tables.items
  pub few_tables : length d.tables.items < 2 ^ 32
  pub tree : AreTree d.shape.items
  pub shapes : All (IsShapeOf p (length d.tables.items)) d.shape.items
  pub few_rows : length d.shape.items < 2 ^ 32

-- each number in the document is one of the instance, its tables fit it, and its shape is that of a tree
pub record Suits (p : Problem) (d : Document) : Type 0 where
  pub blocks : All (IsOfInstance p) (blocks_of d.plan)
  pub no_blocks : IfNone d.cost (blocks_of d.plan ≡ [])
  pub tables : All (Fits p) d.tables.items
  pub tree : AreTree d.shape.items
  pub shapes : All (IsShapeOf p (length d.tables.items)) d.shape.items
