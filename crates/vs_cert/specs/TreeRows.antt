-- The tree of cases of a state as rows, whose leaves name only the tables that are written.
use Rattle.std.specs.Prelude.{◌≡◌, ℕ, ◌≤◌, List, [], ◌∷◌, ◌++◌, length, slice_get, Some}
use Rattle.vs_tree.specs.History.{Opening, State}
use Rattle.vs_tree.specs.StateTree.{IsTreeOf}
use Rattle.vs_prices.specs.Tree.{Tree}
use Rattle.vs_tree.specs.declared.spot.Spot.{Spot}
use Rattle.vs_tree.specs.declared.spot.Spot.TheVariants.{Inner, Free, Held, Closed}
use Rattle.vs_cert.specs.Numbering.{with_number}
use Rattle.vs_rows.specs.Shapes.{preorder}
use Rattle.vs_cert.specs.StateDocument.{IsRenumbered, first_times, tables_named}
use Rattle.vs_rows.specs.declared.document.Shape.{Shape}
use Rattle.vs_rows.specs.declared.document.Shape.TheVariants as shape

-- the rows of the state's tree, whose leaves name the tables of these numbers by their places
pub record AreRowsOf (o : Opening) (s : State) (numbers : List ℕ) (rows : List Shape) : Type 0 where
  pub tree : Tree
  pub is_tree : IsTreeOf o.problem s tree
  pub numbers_are : numbers ≡ first_times (tables_named tree)
  pub few : length numbers ≤ length s.tables
  pub shape : Tree
  pub renumbered : IsRenumbered numbers tree shape
  pub rows_are : rows ≡ preorder shape

-- a leaf's table comes among the numbers, and its row names the table's place
pub record IsTablePlaced (table : ℕ) (known more : List ℕ) (row : Shape) : Type 0 where
  pub place : ℕ
  pub row_is : row ≡ shape.Leaf place
  pub numbers : more ≡ with_number known table
  pub named : slice_get more place ≡ Some table

-- the row of a leaf, after which the same spots wait
pub record IsLeafRow (table : ℕ) (before after known more : List ℕ) (row : Shape) : Type 0 where
  pub spots : after ≡ before
  pub placed : IsTablePlaced table known more row

-- the row of a split, whose right part waits behind its left part
pub record IsRowOfSplit (split : Shape) (lower upper : ℕ) (before after known more : List ℕ) (row : Shape) : Type 0
  where
    pub row_is : row ≡ split
    pub spots : after ≡ before ++ upper ∷ lower ∷ []
    pub numbers : more ≡ known

-- the row of a spot, with the spots that wait and the numbers of tables before and after it
abbrev pub IsRowAt : Spot → List ℕ → List ℕ → List ℕ → List ℕ → Shape → Type 0
IsRowAt (Inner trip left lower upper) before after numbers more row =
    IsRowOfSplit (shape.Split trip left) lower upper before after numbers more row
IsRowAt (Free table) before after numbers more row = IsLeafRow table before after numbers more row
IsRowAt (Held worker table) before after numbers more row = IsLeafRow table before after numbers more row
IsRowAt (Closed table) before after numbers more row = IsLeafRow table before after numbers more row
