-- What a search that is carried on knows between two turns, and the documents that print it.
use Rattle.std.specs.Prelude.{◌≡◌, List, [], ◌∷◌, map, slice_get, slice_index_or, Option, Some, ℤ}
use Rattle.vs_instance.specs.Plan.{LayerBlock}
use Rattle.vs_instance.specs.Problem.{Problem}
use Rattle.vs_instance.specs.Restriction.{permitted_sets}
use Rattle.vs_plan.specs.Blocks.{blocks_of}
use Rattle.vs_prices.specs.declared.bound.Bound.{Bound}
use Rattle.vs_prices.specs.Tree.{LeafPlace, Tree, leaves}
use Rattle.vs_rows.specs.Shapes.{preorder}
use Rattle.vs_rows.specs.declared.document.Document.{Document}
use Rattle.vs_tree.specs.Prices.{AreWorth, Prices, no_prices, prices_of}
use Rattle.vs_cert.specs.StateDocument.{IsRenumbered, first_times, tables_named}

-- the cost and the blocks of its cheapest plan, its tree of cases, and the prices of its tables, which leaves name by
-- their numbers
pub record Standing : Type 0 where
  pub cost : Option ℤ
  pub blocks : List LayerBlock
  pub tree : Tree
  pub tables : List Prices

-- its leaves, from left to right
abbrev pub leaves_of : Problem → Standing → List LeafPlace
leaves_of p s = leaves (permitted_sets p) s.tree

-- the prices of the table that a leaf names are worth so much there
abbrev pub IsNamedWorth : Problem → List Prices → LeafPlace → Bound → Type 0
IsNamedWorth p tables leaf worth =
    (prices : Prices) × (slice_get tables leaf.table ≡ Some prices) × AreWorth p leaf.sets prices worth

-- and those of some leaves, leaf by leaf
abbrev pub AreNamedWorths : Problem → List Prices → List LeafPlace → List Bound → Type 0
AreNamedWorths p tables [] [] = Unit {0}
AreNamedWorths p tables (leaf ∷ places) (worth ∷ worths) =
    IsNamedWorth p tables leaf worth × AreNamedWorths p tables places worths
AreNamedWorths p tables _ _ = ⊥

-- what a document prints
pub record IsPrinted (d : Document) (s : Standing) : Type 0 where
  pub cost : s.cost ≡ d.cost
  pub blocks : s.blocks ≡ blocks_of d.plan
  pub rows : d.shape.items ≡ preorder s.tree
  pub tables : s.tables ≡ map prices_of d.tables.items

-- a document that prints it with the tables alone that leaves name, in the order in which they first name them
pub record IsWrittenFor (s : Standing) (d : Document) : Type 0 where
  pub cost : d.cost ≡ s.cost
  pub blocks : blocks_of d.plan ≡ s.blocks
  pub shape : Tree
  pub renumbered : IsRenumbered (first_times (tables_named s.tree)) s.tree shape
  pub rows : d.shape.items ≡ preorder shape
  pub tables : map prices_of d.tables.items
      ≡ map (λ n. slice_index_or s.tables n no_prices) (first_times (tables_named s.tree))
