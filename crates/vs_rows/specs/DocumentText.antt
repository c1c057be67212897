-- The documents that rows stand for.
use Rattle.std.specs.Prelude.{◌≡◌, ℕ, ◌<◌, ◌≤◌, List, [], length, All, pos, IfSome, IfNone, None}
use Rattle.vs_instance.specs.Problem.{Problem}
use Rattle.vs_instance.specs.Ways.{Permitted}
use Rattle.vs_plan.specs.Blocks.{IsOfInstance, blocks_of}
use Rattle.vs_prices.specs.Table.{Fits, into_price, from_price}
use Rattle.vs_prices.specs.declared.table.Table.{Table}
use Rattle.vs_reader.specs.Rows.{Row}
use Rattle.vs_reader.specs.Names.{NameLists}
use Rattle.vs_rows.specs.declared.document.Document.{Document}
use Rattle.vs_rows.specs.declared.limits.TheConstants.{MAX_COST, MAX_BOUND, MAX_FINISHED, MAX_NUMBER}
use Rattle.vs_rows.specs.DocumentRows.{IsBetween, IsWithin, SayAll, rows_of_document}
use Rattle.vs_rows.specs.Shapes.{AreTree, IsShapeOf}

-- a document that has a text: its numbers are within their ranges, those that name something are of the instance, its
-- tables fit, and its shape is that of a tree
pub record HasText (p : Problem) (d : Document) : Type 0 where
  pub cost : IfSome d.cost (IsBetween (pos 0) MAX_COST)
  pub bound : IfSome d.bound (IsWithin MAX_BOUND)
  pub no_cost : IfNone d.bound (d.cost ≡ None)
  pub nodes : d.nodes ≤ MAX_FINISHED
  pub blocks : All (IsOfInstance p) (blocks_of d.plan)
  pub no_blocks : IfNone d.cost (blocks_of d.plan ≡ [])
  pub few_tables : length d.tables.items ≤ MAX_NUMBER
  pub fits : All (Fits p) d.tables.items
  pub tree : AreTree d.shape.items
  pub shapes : All (IsShapeOf p (length d.tables.items)) d.shape.items

-- The rows stand for the document. Prices for trips that a layer may not run aren't printed, so documents that differ
-- in nothing else have the same rows.
pub record DocumentText (p : Problem) (names : NameLists) (rows : List Row) (d : Document) : Type 0 where
  pub has_text : HasText p d
  pub rows_say : SayAll names rows (rows_of_document p d)

-- the prices that aren't printed are 0
abbrev pub IsBlankElsewhere : Problem → Table → Type 0
IsBlankElsewhere p table = (l i : ℕ) → l < length p.layers → i < length p.trips → ¬ (Permitted p l i)
    → (into_price p table l i ≡ pos 0) × (from_price p table l i ≡ pos 0)

-- two tables of one kind, whose printed prices are the same
pub record Agree (p : Problem) (t u : Table) : Type 0 where
  pub ray : t.ray ≡ u.ray
  pub fleet : t.fleet.items ≡ u.fleet.items
  pub into : (l i : ℕ) → l < length p.layers → i < length p.trips → Permitted p l i
      → into_price p t l i ≡ into_price p u l i
  pub from : (l i : ℕ) → l < length p.layers → i < length p.trips → Permitted p l i
      → from_price p t l i ≡ from_price p u l i
