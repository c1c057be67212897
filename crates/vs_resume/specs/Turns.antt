-- The turns by which a search is carried on: each takes the leaf of least worth and puts a part in its place.
use Rattle.std.specs.Prelude.{◌≡◌, ◌⊎◌, ℕ, ◌+◌, ◌-◌, ◌<◌, ◌≤◌, List, [], ◌∷◌, ◌++◌, All, length, sum_by, slice_get, Option, Some, ℤ, pos}
use Rattle.std.specs.List.{AllZip}
use Rattle.vs_types.specs.declared.layer_set.LayerSet.{LayerSet}
use Rattle.vs_instance.specs.Lagrangian.{IsStartingValue}
use Rattle.vs_instance.specs.Narrowed.{narrowed}
use Rattle.vs_instance.specs.Plan.{IsPlan, plan_cost}
use Rattle.vs_instance.specs.Problem.{Problem}
use Rattle.vs_instance.specs.Restriction.{IsWithin}
use Rattle.vs_prices.specs.Bounds.{IsBelow, IsNoLess, ReachesValue}
use Rattle.vs_prices.specs.declared.bound.Bound.{Bound}
use Rattle.vs_prices.specs.Tree.{IsGoodTree, LeafPlace, Tree, leaves, splits}
use Rattle.vs_tree.specs.History.{IsCheaper}
use Rattle.vs_tree.specs.Prices.{AreLawful, Prices}
use Rattle.vs_cert.specs.Answers.{count_not_below}
use Rattle.vs_resume.specs.declared.deepen.TheConstants.{MAX_TURN}
use Rattle.vs_resume.specs.InPlace.{with_part}
use Rattle.vs_resume.specs.Standing.{AreNamedWorths, IsNamedWorth, Standing, leaves_of}

-- worth k is below the cost and no more than any other, and the first of those that are as low
pub record IsNextOf (cost : Option ℤ) (worths : List Bound) (k : ℕ) (worth : Bound) : Type 0 where
  pub stands : slice_get worths k ≡ Some worth
  pub below : IsBelow worth cost
  pub least : (j : ℕ) (other : Bound) → slice_get worths j ≡ Some other → IsNoLess other worth
  pub first : (j : ℕ) (other : Bound) → slice_get worths j ≡ Some other → IsNoLess worth other → k ≤ j

-- some worth comes next as worth k
abbrev pub IsNextIn : Option ℤ → List Bound → ℕ → Type 0
IsNextIn cost worths k = (worth : Bound) × IsNextOf cost worths k worth

-- the leaf that comes next: of those below the cost the one of least worth, and of these the first
pub record IsNextLeaf (p : Problem) (s : Standing) (k : ℕ) (leaf : LeafPlace) (worth : Bound) : Type 0 where
  pub worths : List Bound
  pub are_worths : AreNamedWorths p s.tables (leaves_of p s) worths
  pub next : IsNextOf s.cost worths k worth
  pub stands : slice_get (leaves_of p s) k ≡ Some leaf

-- the leaves of a part that comes in the place of a leaf with these layers, which was worth so much: each is worth no
-- less than that, and no less than the value at the starting multipliers of the leaf's part of the instance
pub record AreDeeper (p : Problem) (sets : List LayerSet) (worth : Bound) (worths : List Bound) : Type 0 where
  pub no_less : All (λ deeper. IsNoLess deeper worth) worths
  pub reach_start : (value : ℤ) → IsStartingValue (narrowed p sets) value
      → All (λ deeper. ReachesValue deeper value) worths

-- the same leaf with another table
abbrev pub with_table : LeafPlace → ℕ → LeafPlace
with_table leaf n = record { sets = leaf.sets; table = n }

-- a leaf names its own table or the old one, whichever is worth more there
pub record IsBetterOf (p : Problem) (tables : List Prices) (old own : ℕ) (leaf : LeafPlace) : Type 0 where
  pub choice : (leaf.table ≡ own) ⊎ (leaf.table ≡ old)
  pub no_less_than_own : (worth other : Bound) → IsNamedWorth p tables leaf worth
      → IsNamedWorth p tables (with_table leaf own) other → IsNoLess worth other
  pub no_less_than_old : (worth other : Bound) → IsNamedWorth p tables leaf worth
      → IsNamedWorth p tables (with_table leaf old) other → IsNoLess worth other

-- each of some leaves has a table of its own, which is one of those from a number on, and names the better of that and
-- of the old one
pub record AreBetter (p : Problem) (tables : List Prices) (first old : ℕ) (places : List LeafPlace) : Type 0 where
  pub own : List ℕ
  pub new : All (λ n. (first ≤ n) × (n < length tables)) own
  pub each : AllZip (IsBetterOf p tables old) own places

-- the plan stays
pub record IsPlanKept (s t : Standing) : Type 0 where
  pub cost : t.cost ≡ s.cost
  pub blocks : t.blocks ≡ s.blocks

-- or becomes a cheaper one in which each trip is run in a layer of its set
pub record IsPlanFound (p : Problem) (sets : List LayerSet) (s t : Standing) : Type 0 where
  pub plan : IsPlan p t.blocks
  pub within : IsWithin sets t.blocks
  pub costs : t.cost ≡ Some (pos (plan_cost p t.blocks))
  pub cheaper : IsCheaper (pos (plan_cost p t.blocks)) s.cost

-- A turn, before which so many nodes are left, finishes so many. The next leaf gives place to a part, each of whose
-- leaves names a new table of its own, or that of the leaf before where this is worth more.
pub record IsTurn (p : Problem) (left : ℕ) (s t : Standing) (nodes : ℕ) : Type 0 where
  pub number : ℕ
  pub leaf : LeafPlace
  pub worth : Bound
  pub next : IsNextLeaf p s number leaf worth
  pub part : Tree
  pub good : IsGoodTree leaf.sets part
  pub tree : t.tree ≡ with_part s.tree number part
  pub added : List Prices
  pub lawful : All (AreLawful p) added
  pub tables : t.tables ≡ s.tables ++ added
  pub better : AreBetter p t.tables (length s.tables) leaf.table (leaves leaf.sets part)
  pub worths : List Bound
  pub are_worths : AreNamedWorths p t.tables (leaves leaf.sets part) worths
  pub deeper : AreDeeper p leaf.sets worth worths
  pub some : 1 ≤ nodes
  pub few : nodes ≤ MAX_TURN
  pub within : nodes ≤ left
  pub each_split : splits part ≤ nodes
  pub each_node : nodes ≤ splits part + count_not_below t.cost worths
  pub plan : IsPlanKept s t ⊎ IsPlanFound p leaf.sets s t

-- where a turn leads to, and how many nodes it finished
pub record Turned : Type 0 where
  pub standing : Standing
  pub nodes : ℕ

-- turn after turn, from a standing before which so many nodes are left, to another one
abbrev pub AreTurns : Problem → ℕ → Standing → List Turned → Standing → Type 0
AreTurns p left s [] t = t ≡ s
AreTurns p left s (turn ∷ turns) t =
    IsTurn p left s turn.standing turn.nodes × AreTurns p (left - turn.nodes) turn.standing turns t

-- how many nodes they finished together
abbrev pub nodes_of : List Turned → ℕ
nodes_of turns = sum_by (λ turn. turn.nodes) turns
