-- What holds of every tree of cases.
use Rattle.std.specs.Prelude.{◌≡◌, ℕ, List, All, slice_get, Some}
use Rattle.vs_types.specs.declared.layer_set.LayerSet.{LayerSet}
use Rattle.vs_instance.specs.Problem.{Problem}
use Rattle.vs_instance.specs.Instance.{IsInstance}
use Rattle.vs_instance.specs.Plan.{LayerBlock, IsPlan}
use Rattle.vs_instance.specs.Restriction.{IsRestriction, IsWithin}
use Rattle.vs_prices.specs.Tree.{Tree, IsGoodTree, LeafPlace, leaves}

-- the blocks lie within the restriction of leaf k
pub record LiesIn (places : List LeafPlace) (k : ℕ) (blocks : List LayerBlock) : Type 0 where
  pub place : LeafPlace
  pub is : slice_get places k ≡ Some place
  pub within : IsWithin place.sets blocks

-- the blocks lie in one leaf, and in no other
pub record LiesInOne (places : List LeafPlace) (blocks : List LayerBlock) : Type 0 where
  pub leaf : ℕ
  pub lies : LiesIn places leaf blocks
  pub only : (k : ℕ) → LiesIn places k blocks → k ≡ leaf

-- in every instance, each plan within a restriction lies in exactly one leaf of a good tree that has it at its root
abbrev pub LeavesShareOutPlans : Type 0
LeavesShareOutPlans = (p : Problem) (sets : List LayerSet) (tree : Tree) (blocks : List LayerBlock) → IsInstance p
    → IsRestriction p sets → IsGoodTree sets tree → IsPlan p blocks → IsWithin sets blocks
    → LiesInOne (leaves sets tree) blocks

-- the sets of each leaf of such a tree are a restriction
abbrev pub LeavesAreRestrictions : Type 0
LeavesAreRestrictions = (p : Problem) (sets : List LayerSet) (tree : Tree) → IsInstance p → IsRestriction p sets
    → IsGoodTree sets tree → All (λ place. IsRestriction p place.sets) (leaves sets tree)
