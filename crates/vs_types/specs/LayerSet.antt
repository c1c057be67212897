-- A set of layers, read as the numbers below 16 whose bit is set.
use Rattle.std.specs.Prelude.{◌≡◌, ℕ, ◌==◌, List, [], ◌∷◌, filter}
use Rattle.std.specs.Int.{bit_at}
use Rattle.vs_types.specs.declared.layer_set.LayerSet.{LayerSet}

-- layer l stands in the set
abbrev pub Has : LayerSet → ℕ → Type 0
Has set l = bit_at set.0 l ≡ 1

-- every number that a layer can have, in order
unfoldable pub layer_numbers : List ℕ
layer_numbers = 0 ∷ 1 ∷ 2 ∷ 3 ∷ 4 ∷ 5 ∷ 6 ∷ 7 ∷ 8 ∷ 9 ∷ 10 ∷ 11 ∷ 12 ∷ 13 ∷ 14 ∷ 15 ∷ []

-- the members of the set, in order
abbrev pub members : LayerSet → List ℕ
members set = filter (λ l. bit_at set.0 l == 1) layer_numbers
