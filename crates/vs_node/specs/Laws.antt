-- What holds of every search.
use Rattle.std.specs.Prelude.{ℕ, ◌≤◌, List, ℤ}
use Rattle.vs_instance.specs.Lagrangian.{IsStartingValue}
use Rattle.vs_prices.specs.Bounds.{ReachesValue}
use Rattle.vs_prices.specs.declared.bound.Bound.{Bound}
use Rattle.vs_tree.specs.History.{FullStep, Opening, IsHistory, IsLeaf, IsLeafWorth, state_of}
use Rattle.vs_tree.specs.Sound.{IsOpening}
use Rattle.vs_node.specs.WorkedHistory.{AreWorked}

-- once a leaf was worked on, every leaf is worth no less than the value at the starting multipliers
abbrev pub WorkedSearchesReachTheStart : Type 0
WorkedSearchesReachTheStart =
    (o : Opening) (steps : List FullStep) (k : ℕ) (worth : Bound) (value : ℤ) → IsOpening o → IsHistory o steps
    → AreWorked o steps → 1 ≤ (state_of o steps).finished → IsLeaf (state_of o steps) k
    → IsLeafWorth o.problem (state_of o steps) k worth → IsStartingValue o.problem value → ReachesValue worth value
