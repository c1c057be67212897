-- The layers at the root of a search.
use Rattle.std.proofs.Common.{◌≡◌, ◌==◌, ℕ, true, List, sym, ap, ◌∙◌, inl, inr}
use Rattle.std.proofs.lemmas.Bool.{cases_eq, ne_eqb}
use Rattle.vs_instance.specs.Restriction.{permitted_sets}
use Rattle.vs_tree.specs.History.{FullStep, Opening, IsHistory, IsLeaf, is_inner, sets_at, spot_at, state_of}
use Rattle.vs_tree.specs.Sound.{IsOpening}
use Rattle.vs_tree.specs.StateTree.{IsTreeAt}
use Rattle.vs_prices.specs.Tree.{Tree, Leaf, Split}
use Rattle.vs_tree.proofs.CallerLemmas.{states_are_trees}

-- as long as the root is a leaf, each trip may be run there in the layers that permit it
root_sets : (o : Opening) (steps : List FullStep) → IsOpening o → IsHistory o steps → IsLeaf (state_of o steps) 0
    → sets_at (state_of o steps) 0 ≡ permitted_sets o.problem
root_sets o steps opening history leaf =
    let has = states_are_trees o steps opening history in by_tree has.0 has.1.spots has.1.is_tree
  where
    by_tree : (tree : Tree) (spots : List ℕ)
        → IsTreeAt (state_of o steps).places 0 (permitted_sets o.problem) tree spots
        → sets_at (state_of o steps) 0 ≡ permitted_sets o.problem
    by_tree (Leaf table) spots is = sym is.sets_are
    by_tree (Split trip left lower upper) spots is =
        let inner : is_inner (spot_at (state_of o steps) 0) ≡ true = ap is_inner is.inner in absurd cc

-- the same where the number of the leaf says that it is the root
pub root_leaf : (o : Opening) (steps : List FullStep) (leaf : ℕ) → IsOpening o → IsHistory o steps
    → IsLeaf (state_of o steps) leaf → (leaf == 0) ≡ true → sets_at (state_of o steps) leaf ≡ permitted_sets o.problem
root_leaf o steps leaf opening history is_leaf is_root =
    elim (cases_eq leaf 0) [
      | inl same ↦
          ap (sets_at (state_of o steps)) same
          ∙ root_sets o steps opening history
          (ap (λ (k : ℕ). is_inner (spot_at (state_of o steps) k)) (sym same) ∙ is_leaf)
      | inr apart ↦ let no = ne_eqb leaf 0 apart in absurd cc
    ]
