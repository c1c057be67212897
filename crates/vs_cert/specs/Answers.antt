-- What the document of a search says when the search is over.
use Rattle.std.specs.Prelude.{◌≡◌, ℕ, ◌+◌, ◌*◌, ◌<◌, ◌≤◌, Bool, true, false, not, List, [], ◌∷◌, length, count_by, ℤ, ◌≤ℤ◌, ◌⊎◌, Option, Some, None, MatchOption, int_lt, slice_get}
use Rattle.vs_types.specs.LayerSet.{members}
use Rattle.vs_types.specs.declared.layer_set.LayerSet.{LayerSet}
use Rattle.vs_instance.specs.Problem.{Problem}
use Rattle.vs_instance.specs.Lagrangian.{IsStartingValue}
use Rattle.vs_instance.specs.Restriction.{permitted_sets}
use Rattle.vs_prices.specs.Worth.{IsWorth, IsRoundedUp}
use Rattle.vs_prices.specs.declared.bound.Bound.{Bound}
use Rattle.vs_prices.specs.declared.bound.Bound.TheVariants.{AtLeast, NoPlan}
use Rattle.vs_prices.specs.declared.table.Table.{Table}
use Rattle.vs_prices.specs.Tree.{LeafPlace, leaves, splits}
use Rattle.vs_prices.specs.declared.claim.Claim.TheVariants.{StillOpen}
use Rattle.vs_rows.specs.declared.document.Document.{Document}
use Rattle.vs_check.specs.HoldingDocument.{HoldingDocument}

-- the leaves of the tree of a document that holds, in order
abbrev pub leaf_places : (p : Problem) (d : Document) → HoldingDocument p d → List LeafPlace
leaf_places p d holds = leaves (permitted_sets p) holds.tree.tree

-- how many splits that tree has
abbrev pub splits_of : (p : Problem) (d : Document) → HoldingDocument p d → ℕ
splits_of p d holds = splits holds.tree.tree

-- the worths of the leaves, in order
abbrev pub AreWorths : Problem → Document → List LeafPlace → List Bound → Type 0
AreWorths p d [] [] = Unit {0}
AreWorths p d (leaf ∷ places) (worth ∷ worths) =
    (table : Table) × (slice_get d.tables.items leaf.table ≡ Some table) × IsWorth p leaf.sets table worth
    × AreWorths p d places worths
AreWorths p d _ _ = ⊥

-- whether a worth is below a cost, where no cost is above every number
abbrev pub is_below : Option ℤ → Bound → Bool
is_below cost NoPlan = false
is_below None (AtLeast n) = true
is_below (Some cost) (AtLeast n) = int_lt n cost

-- how many of the worths aren't
abbrev pub count_not_below : Option ℤ → List Bound → ℕ
count_not_below cost worths = count_by (λ worth. not (is_below cost worth)) worths

-- n is the cost, or one of the worths, and none of these is less
abbrev pub IsAmong : Option ℤ → List Bound → ℤ → Type 0
IsAmong (Some cost) [] n = n ≡ cost
IsAmong None [] n = ⊥
IsAmong cost (AtLeast worth ∷ worths) n = (n ≡ worth) ⊎ IsAmong cost worths n
IsAmong cost (NoPlan ∷ worths) n = IsAmong cost worths n

abbrev pub IsLeast : Option ℤ → List Bound → ℤ → Type 0
IsLeast cost worths n = IsAmong cost worths n × ((m : ℤ) → IsAmong cost worths m → n ≤ℤ m)

-- the printed bound is the lesser of the least worth and the cost; there is none exactly where neither is a number
abbrev pub IsBoundOf : Option ℤ → List Bound → Option ℤ → Type 0
IsBoundOf cost worths (Some bound) = IsLeast cost worths bound
IsBoundOf cost worths None = (n : ℤ) → ¬ (IsAmong cost worths n)

-- the tables are those that leaves name, in the order in which the leaves first name them, of which so many are named
-- already
abbrev pub AreNamedInOrder : ℕ → List LeafPlace → ℕ → Type 0
AreNamedInOrder named [] tables = tables ≡ named
AreNamedInOrder named (leaf ∷ places) tables =
    ((leaf.table < named) × AreNamedInOrder named places tables)
    ⊎ ((leaf.table ≡ named) × AreNamedInOrder (named + 1) places tables)

-- the bound is no less than what the starting multipliers show, or than the cost
abbrev pub ReachesStart : Problem → Document → ℤ → Type 0
ReachesStart p d bound = (value start : ℤ) → IsStartingValue p value → IsRoundedUp value start
    → MatchOption d.cost (start ≤ℤ bound) (λ cost. (start ≤ℤ bound) ⊎ (cost ≤ℤ bound))

-- in how many ways a layer of its set can be chosen for each trip
abbrev pub choices : List LayerSet → ℕ
choices [] = 1
choices (layers ∷ sets) = length (members layers) * choices sets

-- What the document says of a search with this budget, however far it came: its nodes are no fewer than the splits of
-- its tree, and no more than these and the leaves that aren't below the cost.
pub record IsAnswerSoFar (p : Problem) (budget : ℕ) (d : Document) : Type 0 where
  pub holds : HoldingDocument p d
  pub written : AreNamedInOrder 0 (leaf_places p d holds) (length d.tables.items)
  pub worths : List Bound
  pub are_worths : AreWorths p d (leaf_places p d holds) worths
  pub bound : IsBoundOf d.cost worths d.bound
  pub within_budget : d.nodes ≤ budget
  pub each_split : splits_of p d holds ≤ d.nodes
  pub each_node : d.nodes ≤ splits_of p d holds + count_not_below d.cost worths

-- What the document says of a search with this budget: its nodes are no fewer than the splits of its tree, and no more
-- than these and the leaves that aren't below the cost; where the claim is still open they are the whole budget.
pub record IsAnswer (p : Problem) (budget : ℕ) (d : Document) : Type 0 where
  pub holds : HoldingDocument p d
  pub written : AreNamedInOrder 0 (leaf_places p d holds) (length d.tables.items)
  pub worths : List Bound
  pub are_worths : AreWorths p d (leaf_places p d holds) worths
  pub bound : IsBoundOf d.cost worths d.bound
  pub within_budget : d.nodes ≤ budget
  pub each_split : splits_of p d holds ≤ d.nodes
  pub each_node : d.nodes ≤ splits_of p d holds + count_not_below d.cost worths
  pub still_open : d.claim ≡ StillOpen → d.nodes ≡ budget
