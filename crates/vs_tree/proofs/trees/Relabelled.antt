-- The tree of a state where a leaf becomes another kind of leaf.
use Rattle.std.proofs.Common.{◌≡◌, ◌≢◌, ℕ, ◌<◌, true, false, List, length, refl, sym, ap, ◌∙◌, arith, inl, inr}
use Rattle.std.proofs.lemmas.Bool.{cases_eq}
use Rattle.vs_types.specs.declared.layer_set.LayerSet.{LayerSet}
use Rattle.vs_tree.specs.declared.spot.Spot.{Spot}
use Rattle.vs_tree.specs.History.{Place, is_inner, place_at, table_of, with_spot}
use Rattle.vs_tree.specs.StateTree.{IsTreeAt}
use Rattle.vs_prices.specs.Tree.{Tree, Leaf, Split, IsGoodTree, right_of, splits, with_set}
use Rattle.vs_tree.proofs.Spots.{length-with_spot, with_spot-other, with_spot-same, with_spot-sets}

-- a good tree of spot j with so many splits, whose leaves are these spots
pub record TreeFrom (places : List Place) (j : ℕ) (sets : List LayerSet) (count : ℕ) (spots : List ℕ) : Type 0 where
  pub tree : Tree
  pub is_tree : IsTreeAt places j sets tree spots
  pub good : IsGoodTree sets tree
  pub splits_are : splits tree ≡ count

module _ (places : List Place) (k : ℕ) (spot : Spot) (within : k < length places)
    (was : is_inner (place_at places k).spot ≡ false) (leaf : is_inner spot ≡ false) where
  abbrev new : List Place
  new = with_spot places k spot

  here : (place_at new k).spot ≡ spot
  here = ap (λ (q : Place). q.spot) (with_spot-same places k spot within)

  there : (j : ℕ) → j ≢ k → (place_at new j).spot ≡ (place_at places j).spot
  there j other = ap (λ (q : Place). q.spot) (with_spot-other places k spot j other)

  -- what was split still is, and a leaf is still one
  pub kind_still : (j : ℕ) → is_inner (place_at new j).spot ≡ is_inner (place_at places j).spot
  kind_still j =
      elim (cases_eq j k) [
        | inl same ↦
            ap (λ (i : ℕ). is_inner (place_at new i).spot) same ∙ ap is_inner here ∙ leaf ∙ sym was
            ∙ ap (λ (i : ℕ). is_inner (place_at places i).spot) (sym same)
        | inr other ↦ ap is_inner (there j other)
      ]

  leaf_still : (j : ℕ) → is_inner (place_at places j).spot ≡ false → is_inner (place_at new j).spot ≡ false
  leaf_still j before = kind_still j ∙ before

  -- a spot that was split is another one
  split_apart : (j : ℕ) → is_inner (place_at places j).spot ≡ true → j ≢ k
  split_apart j inner same =
      let not : is_inner (place_at places j).spot ≡ false =
      ap (λ (i : ℕ). is_inner (place_at places i).spot) same ∙ was in
      cc

  -- the tree is the same but for the leaf's table
  pub relabelled : (t : Tree) (j : ℕ) (sets : List LayerSet) (spots : List ℕ) → IsTreeAt places j sets t spots
      → IsGoodTree sets t → TreeFrom new j sets (splits t) spots
  relabelled (Leaf table) j sets spots is good = record {
    tree = Leaf (table_of (place_at new j).spot);
    is_tree = record {
      leaf = leaf_still j is.leaf;
      table_is = refl;
      sets_are = is.sets_are ∙ sym (with_spot-sets places k spot j);
      spots_are = is.spots_are;
    };
    good = tt;
    splits_are = refl;
  }
  relabelled (Split trip left lower upper) j sets spots is good =
      let l = relabelled lower is.lower (with_set sets trip left) is.first is.is_lower good.2 in
      let u = relabelled upper is.upper (with_set sets trip (right_of sets trip left)) is.second is.is_upper good.3 in
      record {
        tree = Split trip left l.tree u.tree;
        is_tree = record {
          lower = is.lower;
          upper = is.upper;
          first = is.first;
          second = is.second;
          within = omega (arith, is.within, length-with_spot places k spot);
          inner = there j (split_apart j (ap is_inner is.inner)) ∙ is.inner;
          is_lower = l.is_tree;
          is_upper = u.is_tree;
          spots_are = is.spots_are;
        };
        good = (good.0, good.1, l.good, u.good);
        splits_are = omega (arith, l.splits_are, u.splits_are);
      }
