-- The leaves of a tree of spots.
use Rattle.std.proofs.Common.{ℕ, List, [], ◌∷◌, ◌++◌, refl, sym, subst}
use Rattle.vs_types.specs.declared.layer_set.LayerSet.{LayerSet}
use Rattle.vs_tree.specs.History.{Place}
use Rattle.vs_tree.specs.StateTree.{AreLeavesAt, IsTreeAt}
use Rattle.vs_prices.specs.Tree.{Tree, Leaf, Split, LeafPlace, leaves, right_of, with_set}

module _ (places : List Place) where
  both : (xs ys : List LeafPlace) (first second : List ℕ) → AreLeavesAt places xs first → AreLeavesAt places ys second
      → AreLeavesAt places (xs ++ ys) (first ++ second)
  both [] ys [] second here there = there
  both [] ys (k ∷ first) second here there = absurd here
  both (x ∷ xs) ys [] second here there = absurd here
  both (x ∷ xs) ys (k ∷ first) second here there = (here.0, both xs ys first second here.1 there)

  -- are those at its spots
  pub leaves_at : (t : Tree) (j : ℕ) (sets : List LayerSet) (spots : List ℕ) → IsTreeAt places j sets t spots
      → AreLeavesAt places (leaves sets t) spots
  leaves_at (Leaf table) j sets spots is =
      subst (λ (some : List ℕ). AreLeavesAt places (leaves sets (Leaf table)) some) (sym is.spots_are)
      (record { leaf = is.leaf; table_is = is.table_is; sets_are = is.sets_are; spots_are = refl }, tt)
  leaves_at (Split trip left lower upper) j sets spots is =
      subst (λ (some : List ℕ). AreLeavesAt places (leaves sets (Split trip left lower upper)) some) (sym is.spots_are)
      (both (leaves (with_set sets trip left) lower) (leaves (with_set sets trip (right_of sets trip left)) upper)
      is.first is.second (leaves_at lower is.lower (with_set sets trip left) is.first is.is_lower)
      (leaves_at upper is.upper (with_set sets trip (right_of sets trip left)) is.second is.is_upper))
