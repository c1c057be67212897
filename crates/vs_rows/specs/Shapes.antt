-- Trees of cases as the rows of a document.
use Rattle.std.specs.Prelude.{◌≡◌, ◌≢◌, ℕ, ◌<◌, List, [], ◌∷◌, ◌++◌, length}
use Rattle.vs_types.specs.LayerSet.{Has, members}
use Rattle.vs_instance.specs.Problem.{Problem}
use Rattle.vs_prices.specs.Tree.{Tree, Leaf, Split}
use Rattle.vs_rows.specs.declared.document.Shape.{Shape}
use Rattle.vs_rows.specs.declared.document.Shape.TheVariants as shape

-- the rows of a tree: a split, then those of its left part, then those of its right part
abbrev pub preorder : Tree → List Shape
preorder (Leaf table) = shape.Leaf table ∷ []
preorder (Split trip left lower upper) = shape.Split trip left ∷ preorder lower ++ preorder upper

-- the rows are those of a tree
pub record AreTree (shapes : List Shape) : Type 0 where
  pub tree : Tree
  pub rows_are : shapes ≡ preorder tree

-- what a row of the tree names is of the instance, or one of so many tables, and a split has some layer on the left
abbrev pub IsShapeOf : Problem → ℕ → Shape → Type 0
IsShapeOf p tables (shape.Leaf table) = table < tables
IsShapeOf p tables (shape.Split trip left) =
    (trip.0 < length p.trips) × (members left ≢ []) × ((l : ℕ) → Has left l → l < length p.layers)
