-- The rows of a tree apart from the tables that its leaves name.
use Rattle.std.specs.Prelude.{◌≡◌, ℕ, List, [], ◌∷◌, map}
use Rattle.vs_prices.specs.Tree.{Tree}
use Rattle.vs_rows.specs.Shapes.{preorder}
use Rattle.vs_rows.specs.declared.document.Shape.{Shape}
use Rattle.vs_rows.specs.declared.document.Shape.TheVariants as shape

-- the row, where every leaf names the first table
abbrev pub plain : Shape → Shape
plain (shape.Leaf table) = shape.Leaf 0
plain (shape.Split trip left) = shape.Split trip left

-- the rows are those of the tree but for the tables of its leaves
abbrev pub IsOutline : List Shape → Tree → Type 0
IsOutline rows tree = map plain rows ≡ map plain (preorder tree)

-- the rows whose leaves name the tables of these numbers, one after the other, as far as there are numbers
abbrev pub with_numbers : List Shape → List ℕ → List Shape
with_numbers [] numbers = []
with_numbers (shape.Split trip left ∷ rows) numbers = shape.Split trip left ∷ with_numbers rows numbers
with_numbers (shape.Leaf table ∷ rows) [] = shape.Leaf table ∷ rows
with_numbers (shape.Leaf table ∷ rows) (n ∷ numbers) = shape.Leaf n ∷ with_numbers rows numbers
