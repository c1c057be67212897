-- The leaves of a tree with the layers of each, its table, and what that is worth.
use Rattle.std.specs.Prelude.{◌≡◌, ◌⊎◌, ℕ, ◌+◌, ◌<◌, List, [], ◌∷◌, ◌++◌, All, length, map, reverse, slice_get, Some}
use Rattle.std.specs.List.{AllZip}
use Rattle.vs_types.specs.declared.layer_set.LayerSet.{LayerSet}
use Rattle.vs_instance.specs.Problem.{Problem}
use Rattle.vs_prices.specs.Tree.{IsGoodTree, LeafPlace, Tree, leaves, right_of, with_set}
use Rattle.vs_prices.specs.Bounds.{IsNoLess}
use Rattle.vs_prices.specs.Worth.{IsWorth}
use Rattle.vs_prices.specs.declared.bound.Bound.{Bound}
use Rattle.vs_prices.specs.declared.table.Table.{Table}
use Rattle.vs_rows.specs.Shapes.{preorder}
use Rattle.vs_rows.specs.declared.document.Shape.{Shape}
use Rattle.vs_rows.specs.declared.document.Shape.TheVariants.{Leaf, Split}
use Rattle.vs_resume.specs.declared.cases.Case.{Case}
use Rattle.vs_resume.specs.declared.cases.Walk.{Walk}

-- a leaf's layers, the number of its table, and what that is worth there
pub record IsCaseOf (p : Problem) (tables : List Table) (leaf : LeafPlace) (found : Case) : Type 0 where
  pub sets : found.sets.items ≡ leaf.sets
  pub number : found.table ≡ leaf.table
  pub table : Table
  pub named : slice_get tables leaf.table ≡ Some table
  pub worth : IsWorth p leaf.sets table found.worth

-- leaf by leaf
abbrev pub AreCasesOf : Problem → List Table → List LeafPlace → List Case → Type 0
AreCasesOf p tables places cases = AllZip (IsCaseOf p tables) places cases

-- the leaves of the tree whose rows these are
abbrev pub AreCasesOfRows : Problem → List Table → List LayerSet → List Shape → List Case → Type 0
AreCasesOfRows p tables sets rows cases =
    (tree : Tree) → rows ≡ preorder tree → AreCasesOf p tables (leaves sets tree) cases

-- a row whose part has these layers names a table of so many, or a trip
abbrev pub CanGoOver : ℕ → List LayerSet → Shape → Type 0
CanGoOver tables here (Leaf table) = table < tables
CanGoOver tables here (Split trip left) = trip.0 < length here

-- the rows are those of a tree whose splits share out these layers and whose leaves name tables of so many
pub record AreGoodRows (sets : List LayerSet) (tables : ℕ) (rows : List Shape) : Type 0 where
  pub tree : Tree
  pub rows_are : rows ≡ preorder tree
  pub good : IsGoodTree sets tree
  pub named : All (λ leaf. leaf.table < tables) (leaves sets tree)

-- the layers of the parts that are still to come, the next one first
abbrev pub sets_ahead : Walk → List (List LayerSet)
sets_ahead walk = reverse (map (λ sets. sets.items) walk.ahead.items)

-- a leaf is one more case
pub record IsNoted (p : Problem) (tables : List Table) (table : ℕ) (here : List LayerSet) (old new : Walk) : Type 0
  where
    pub ahead : sets_ahead new ≡ sets_ahead old
    pub found : Case
    pub is_case : IsCaseOf p tables (record { sets = here; table = table }) found
    pub cases : new.cases.items ≡ old.cases.items ++ found ∷ []

-- behind a row whose part has these layers
abbrev pub GoesOver : Problem → List Table → Shape → List LayerSet → Walk → Walk → Type 0
GoesOver p tables (Leaf table) here old new = IsNoted p tables table here old new
GoesOver p tables (Split trip left) here old new =
    (sets_ahead new ≡ with_set here trip left ∷ with_set here trip (right_of here trip left) ∷ sets_ahead old)
    × (new.cases ≡ old.cases)

-- a leaf with its own new table, whose number is counted from the given one on, or with the old one, where that is
-- worth more there
pub record IsSettled (p : Problem) (old : Table) (number base : ℕ) (before after : Case) : Type 0 where
  pub sets : after.sets ≡ before.sets
  pub least : Bound
  pub is_least : IsWorth p before.sets.items old least
  pub no_less_than_old : IsNoLess after.worth least
  pub no_less_than_own : IsNoLess after.worth before.worth
  pub choice : ((after.table ≡ base + before.table) × (after.worth ≡ before.worth))
      ⊎ ((after.table ≡ number) × (after.worth ≡ least))

abbrev pub AreSettled : Problem → Table → ℕ → ℕ → List Case → List Case → Type 0
AreSettled p old number base before after = AllZip (IsSettled p old number base) before after
