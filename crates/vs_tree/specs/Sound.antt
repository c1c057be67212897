-- What holds of every state of a search.
use Rattle.std.specs.Prelude.{◌≡◌, ℕ, suc, ◌+◌, ◌<◌, ◌≤◌, List, length, All, slice_index_or, pos, ◌<ℤ◌, IfSome}
use Rattle.vs_instance.specs.Instance.{IsInstance}
use Rattle.vs_instance.specs.Plan.{LayerBlock, IsPlan}
use Rattle.vs_instance.specs.Problem.{Problem}
use Rattle.vs_instance.specs.Restriction.{IsRestriction, IsWithin}
use Rattle.vs_plan.specs.CheckedPlan.{Checked, IsChecked}
use Rattle.vs_prices.specs.Bounds.{IsBelow, IsNoLess}
use Rattle.vs_prices.specs.declared.bound.Bound.{Bound}
use Rattle.vs_prices.specs.declared.bound.Bound.TheVariants.{AtLeast}
use Rattle.vs_tree.specs.Prices.{AreLawful}
use Rattle.vs_tree.specs.History.{Opening, State, IsAmong, IsClosed, IsHeldBy, IsLeaf, IsLeafWorth, count_spots, is_closed, is_held, is_inner, known, sets_at, spot_at, table_of}

-- the blocks lie within the restriction of this leaf
pub record IsIn (s : State) (blocks : List LayerBlock) (k : ℕ) : Type 0 where
  pub leaf : IsLeaf s k
  pub within : IsWithin (sets_at s k) blocks

-- the blocks lie within the restriction of one leaf, and of no other
pub record IsInOneLeaf (s : State) (blocks : List LayerBlock) : Type 0 where
  pub leaf : ℕ
  pub is_in : IsIn s blocks leaf
  pub only : (k : ℕ) → IsIn s blocks k → k ≡ leaf

-- a plan of the problem
abbrev pub IsPlanOf : Problem → Checked → Type 0
IsPlanOf p plan = IsChecked plan × (plan.problem ≡ p)

-- a search begins with an instance, and with one of its plans, if any
pub record IsOpening (o : Opening) : Type 0 where
  pub instance : IsInstance o.problem
  pub first : IfSome o.first (IsPlanOf o.problem)

-- each plan costs less than the one before
abbrev pub EachIsCheaper : List Checked → Type 0
EachIsCheaper plans =
    (k : ℕ) (d : Checked) → suc k < length plans → (slice_index_or plans (suc k) d).cost <ℤ
    (slice_index_or plans k d).cost

-- no leaf is worth less than 0
abbrev pub AreNotNegative : Problem → State → Type 0
AreNotNegative p s =
    (k : ℕ) (worth : Bound) → IsLeaf s k → IsLeafWorth p s k worth → IsNoLess worth (AtLeast (pos 0))

pub record IsSound (o : Opening) (s : State) : Type 0 where
  pub shared_out : (blocks : List LayerBlock) → IsPlan o.problem blocks → IsInOneLeaf s blocks
  pub tables : All (AreLawful o.problem) s.tables
  pub restrictions : (k : ℕ) → k < length s.places → IsRestriction o.problem (sets_at s k)
  pub numbers : (k : ℕ) → IsLeaf s k → table_of (spot_at s k) < length s.tables
  pub worths : AreNotNegative o.problem s
  pub plans : All (IsPlanOf o.problem) s.accepted
  pub cheaper : EachIsCheaper s.accepted
  pub closed : (k : ℕ) (worth : Bound) → IsClosed s k → IsLeafWorth o.problem s k worth → ¬ (IsBelow worth (known s))
  pub finished : s.finished ≡ count_spots is_inner s.places + count_spots is_closed s.places
  pub count_tables : length s.tables ≡ s.finished + 1
  pub budget : s.finished + count_spots is_held s.places ≤ o.budget
  pub one_leaf : (worker j k : ℕ) → IsHeldBy s worker j → IsHeldBy s worker k → j ≡ k
  pub gone : (worker k : ℕ) → IsAmong worker s.gone → ¬ (IsHeldBy s worker k)
