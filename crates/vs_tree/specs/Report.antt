-- What a search has found.
use Rattle.std.specs.Prelude.{◌≡◌, ◌⊎◌, ℕ, ◌<◌, ◌≤◌, false, List, length, AllPairs, Contains, slice_index_or, Option, Some, None, ℤ}
use Rattle.vs_instance.specs.Problem.{Problem}
use Rattle.vs_prices.specs.Bounds.{IsBelow, IsNoLess}
use Rattle.vs_prices.specs.declared.bound.Bound.{Bound}
use Rattle.vs_prices.specs.declared.bound.Bound.TheVariants.{AtLeast, NoPlan}
use Rattle.vs_prices.specs.Claims.{claim_found}
use Rattle.vs_tree.specs.declared.calls.Report.{Report}
use Rattle.vs_tree.specs.declared.calls.Stand.{Stand}
use Rattle.vs_tree.specs.History.{Place, State, IsLeaf, IsLeafWorth, is_inner, known, place_at}

-- no plan costs less than the number; where there is none, there is no plan
abbrev pub bound_of : Option ℤ → Bound
bound_of None = NoPlan
bound_of (Some n) = AtLeast n

-- a leaf is worth the bound
pub record IsReached (p : Problem) (s : State) (bound : Bound) : Type 0 where
  pub leaf : ℕ
  pub is_leaf : IsLeaf s leaf
  pub worth : IsLeafWorth p s leaf bound

-- the lesser of the least worth of all leaves and the incumbent's cost, where there is one
pub record IsLesser (p : Problem) (s : State) (bound : Bound) : Type 0 where
  pub leaves : (k : ℕ) (worth : Bound) → IsLeaf s k → IsLeafWorth p s k worth → IsNoLess worth bound
  pub cost : IsNoLess (bound_of (known s)) bound
  pub reached : (bound ≡ bound_of (known s)) ⊎ IsReached p s bound

pub record IsReport (p : Problem) (s : State) (r : Report) : Type 0 where
  pub cost : r.cost ≡ known s
  pub bound : IsLesser p s (bound_of r.bound)
  pub claim : r.claim ≡ claim_found r.cost r.bound
  pub finished : r.finished ≡ s.finished

-- the least of what the first leaves of so many places are worth, and of the cost that is known, if any
pub record IsLeastOf (places : List Place) (worths : List Bound) (known : Option ℤ) (count : ℕ) (least : Bound) : Type 0
  where
    pub leaves : (k : ℕ) → k < count → is_inner (place_at places k).spot ≡ false
        → IsNoLess (slice_index_or worths k NoPlan) least
    pub cost : IsNoLess (bound_of known) least
    pub reached : (least ≡ bound_of known) ⊎ ((k : ℕ) × (k < count) × (is_inner (place_at places k).spot ≡ false)
        × (slice_index_or worths k NoPlan ≡ least))

-- a leaf leaves room for a plan cheaper than the incumbent
pub record IsOpenLeaf (p : Problem) (s : State) : Type 0 where
  pub leaf : ℕ
  pub worth : Bound
  pub is_leaf : IsLeaf s leaf
  pub is_worth : IsLeafWorth p s leaf worth
  pub below : IsBelow worth (known s)

-- a number is one of these, which rise, exactly where the fact holds of it
pub record AreThose (P : ℕ → Type 0) (numbers : List ℕ) : Type 0 where
  pub rising : AllPairs (λ j k. j < k) numbers
  pub each : (k : ℕ) → Contains numbers k → P k
  pub all : (k : ℕ) → P k → Contains numbers k

-- the fact holds of so many numbers
pub record HoldsOfSoMany (P : ℕ → Type 0) (count : ℕ) : Type 0 where
  pub numbers : List ℕ
  pub those : AreThose P numbers
  pub counted : count ≡ length numbers

-- the leaf of this number leaves room for a plan cheaper than the incumbent
pub record LeavesRoom (p : Problem) (s : State) (leaf : ℕ) : Type 0 where
  pub worth : Bound
  pub is_leaf : IsLeaf s leaf
  pub is_worth : IsLeafWorth p s leaf worth
  pub below : IsBelow worth (known s)

-- how far the search has come; the leaves that leave room are counted, each once
pub record IsStand (p : Problem) (s : State) (stand : Stand) : Type 0 where
  pub finished : stand.finished ≡ s.finished
  pub cost : stand.cost ≡ known s
  pub bound : IsLesser p s (bound_of stand.bound)
  pub some_open : 0 < stand.open → IsOpenLeaf p s
  pub none_open : stand.open ≡ 0 → ¬ (IsOpenLeaf p s)
  pub counted : HoldsOfSoMany (LeavesRoom p s) stand.open

-- one of the first leaves of so many places is worth less than the cost that is known, if any
pub record IsBelowAmong (places : List Place) (worths : List Bound) (known : Option ℤ) (count : ℕ) : Type 0 where
  pub place : ℕ
  pub before : place < count
  pub is_leaf : is_inner (place_at places place).spot ≡ false
  pub below : IsBelow (slice_index_or worths place NoPlan) known

-- the place of this number is one of the first so many, and such a leaf
pub record IsBelowAt (places : List Place) (worths : List Bound) (known : Option ℤ) (count place : ℕ) : Type 0 where
  pub before : place < count
  pub is_leaf : is_inner (place_at places place).spot ≡ false
  pub below : IsBelow (slice_index_or worths place NoPlan) known

-- so many of the first places are such leaves
pub record IsOpenCount (places : List Place) (worths : List Bound) (known : Option ℤ) (count found : ℕ) : Type 0 where
  pub few : found ≤ count
  pub some : 0 < found → IsBelowAmong places worths known count
  pub none : found ≡ 0 → ¬ (IsBelowAmong places worths known count)
  pub counted : HoldsOfSoMany (IsBelowAt places worths known count) found
