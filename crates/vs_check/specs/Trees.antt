-- The tree that a document's rows are those of, as a function: AreTree says what it means.
use Rattle.std.specs.Prelude.{List, [], ◌∷◌}
use Rattle.vs_types.specs.declared.layer_set.LayerSet.{LayerSet}
use Rattle.vs_types.specs.declared.numbers.TripNo.{TripNo}
use Rattle.vs_prices.specs.Tree.{Tree, Leaf, Split}
use Rattle.vs_rows.specs.declared.document.Shape.{Shape}
use Rattle.vs_rows.specs.declared.document.Shape.TheVariants as shape

-- the first two of some trees as the parts of one
abbrev pub joined : TripNo → LayerSet → List Tree → List Tree
joined trip left (lower ∷ upper ∷ trees) = Split trip left lower upper ∷ trees
joined trip left _ = []

-- the trees whose rows these are, one after the other
abbrev pub trees_of : List Shape → List Tree
trees_of [] = []
trees_of (shape.Leaf table ∷ rows) = Leaf table ∷ trees_of rows
trees_of (shape.Split trip left ∷ rows) = joined trip left (trees_of rows)
