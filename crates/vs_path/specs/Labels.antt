-- What a search for least paths knows while it goes on.
use Rattle.std.specs.Prelude.{◌≡◌, ◌≢◌, ◌⊎◌, ℕ, ◌+◌, ◌*◌, ◌<◌, ◌≤◌, List, [], ◌∷◌, ◌++◌, length, set, replicate, slice_index, slice_index_or, Option, Some, None, ℤ, pos, ◌+ℤ◌, ◌-ℤ◌, ◌≤ℤ◌, ◌<ℤ◌}
use Rattle.vs_path.specs.declared.residual.TheConstants.{MAX_SEARCH_NODES, MAX_SEARCH_PRICE}
use Rattle.vs_queue.specs.declared.step.Step.{Step}
use Rattle.vs_queue.specs.declared.node_table.Settled.{Settled}
use Rattle.vs_path.specs.declared.labels.Labels.{Labels}
use Rattle.vs_path.specs.declared.labels.TheConstants.{NO_BOUND}
use Rattle.vs_queue.specs.Keys.{Keys, IsBelow, IsEmpty, key_at}
use Rattle.vs_queue.specs.NodeLists.{label_of}
use Rattle.vs_path.specs.declared.residual.Way.{Way}
use Rattle.vs_path.specs.StepCosts.{most_step}
use Rattle.vs_path.specs.Residual.{ResidualNet, IsOpen, IsWithin, AllWithin, from_of, to_of, reduced, price_at, step_along}

-- by node: the least distance and the place in the order, where it is settled; the key, where it waits; and the last
-- step of a path that was found; and the settled nodes in order
pub record Lists : Type 0 where
  pub settled : List (Option Settled)
  pub waiting : Keys
  pub steps : List (Option Step)
  pub order : List ℕ

abbrev pub lists_of : Labels → Lists
lists_of l = record {
  settled = l.nodes.settled;
  waiting = l.nodes.waiting;
  steps = l.nodes.steps;
  order = l.order.items;
}

abbrev pub settled_at : Lists → ℕ → Option Settled
settled_at l v = slice_index_or l.settled v None

abbrev pub waiting_at : Lists → ℕ → Option ℤ
waiting_at l v = key_at l.waiting v

abbrev pub step_at : Lists → ℕ → Option Step
step_at l v = slice_index_or l.steps v None

-- the least distance to a node that was found so far
abbrev pub label_at : Lists → ℕ → Option ℤ
label_at l v = label_of (settled_at l v) (waiting_at l v)

-- how many nodes are settled
abbrev pub count_settled : List (Option Settled) → ℕ
count_settled [] = 0
count_settled (None ∷ settled) = count_settled settled
count_settled (Some a ∷ settled) = count_settled settled + 1

-- a path was found that is no longer than this
pub record Covers (l : Lists) (v : ℕ) (bound : ℤ) : Type 0 where
  pub label : ℤ
  pub has : label_at l v ≡ Some label
  pub no_more : label ≤ℤ bound

-- the nodes in the order are those that are settled, each once
pub record AreListed (nodes : ℕ) (l : Lists) : Type 0 where
  pub settled : length l.settled ≡ nodes
  pub waiting : length l.waiting ≡ nodes
  pub steps : length l.steps ≡ nodes
  pub count : length l.order ≡ count_settled l.settled
  pub listed : (i : ℕ) → i < length l.order
      → (a : Settled) × (settled_at l (slice_index l.order i) ≡ Some a) × (a.place ≡ i)
  pub placed : (v : ℕ) (a : Settled) → settled_at l v ≡ Some a
      → (a.place < length l.order) × (slice_index l.order a.place ≡ v)

-- where the search began
abbrev pub source_of : Lists → ℕ
source_of l = slice_index l.order 0

-- where node v waits, it has a greater key
abbrev pub IsBetter : Lists → ℕ → ℤ → Type 0
IsBetter l v label = IsBelow label (waiting_at l v)

-- once node v is given this label, along this step
abbrev pub lowered : Lists → ℕ → ℤ → Step → Lists
lowered l v label step = record {
  settled = l.settled;
  waiting = set l.waiting v (Some label);
  steps = set l.steps v (Some step);
  order = l.order;
}

-- once node v is settled at this distance
abbrev pub settle_in : Lists → ℕ → ℤ → Lists
settle_in l v distance = record {
  settled = set l.settled v (Some (record { distance = distance; place = length l.order }));
  waiting = set l.waiting v None;
  steps = l.steps;
  order = l.order ++ v ∷ [];
}

-- node v is settled at this distance
abbrev pub IsSettledAt : Lists → ℕ → ℤ → Type 0
IsSettledAt l v distance = (a : Settled) × (settled_at l v ≡ Some a) × (a.distance ≡ distance)

-- no node was settled at a greater distance
abbrev pub IsFarthest : Lists → ℤ → Type 0
IsFarthest l distance = (v : ℕ) (a : Settled) → settled_at l v ≡ Some a → a.distance ≤ℤ distance

-- nothing changes but that labels of nodes that aren't settled fall
pub record IsLowered (old new : Lists) : Type 0 where
  pub settled : new.settled ≡ old.settled
  pub order : new.order ≡ old.order
  pub covers : (v : ℕ) (bound : ℤ) → Covers old v bound → Covers new v bound

-- the numbers of a search that add up within 64 bits
pub record IsSmall (r : ResidualNet) (prices : List ℤ) : Type 0 where
  pub nodes : r.graph.nodes ≤ MAX_SEARCH_NODES
  pub cost : AllWithin (pos (most_step r.graph.nodes)) r.cost
  pub each_node : length prices ≡ r.graph.nodes
  pub each_price : AllWithin MAX_SEARCH_PRICE prices

-- without the prices, a path of so many steps in a net of so many nodes costs no more than they can
abbrev pub IsNear : ℕ → List ℤ → ℕ → ℕ → ℕ → ℤ → Type 0
IsNear nodes prices source count v label =
    IsWithin (pos (count * most_step nodes)) ((label +ℤ price_at prices v) -ℤ price_at prices source)

-- the path that was found to node v, of this length, ends with a step from a node that was settled before this place
pub record IsArrival (r : ResidualNet) (prices : List ℤ) (l : Lists) (place v : ℕ) (label : ℤ) : Type 0 where
  pub step : Step
  pub is : step_at l v ≡ Some step
  pub is_open : IsOpen r step
  pub to : to_of r step ≡ v
  pub from : Settled
  pub from_is : settled_at l (from_of r step) ≡ Some from
  pub before : from.place < place
  pub sum : label ≡ from.distance +ℤ reduced r prices step

-- what is known of the nodes that are settled, and of those that wait
pub record AreLabels (r : ResidualNet) (prices : List ℤ) (l : Lists) : Type 0 where
  pub are_listed : AreListed r.graph.nodes l
  pub some : 0 < length l.order
  pub source_is : IsSettledAt l (source_of l) (pos 0)
  pub arrived : (v : ℕ) (a : Settled) → settled_at l v ≡ Some a → v ≢ source_of l
      → IsArrival r prices l a.place v a.distance
  pub near : (v : ℕ) (a : Settled) → settled_at l v ≡ Some a
      → IsNear r.graph.nodes prices (source_of l) a.place v a.distance
  pub unsettled : (v : ℕ) (key : ℤ) → waiting_at l v ≡ Some key → settled_at l v ≡ None
  pub arrives : (v : ℕ) (key : ℤ) → waiting_at l v ≡ Some key → IsArrival r prices l (length l.order) v key
  pub near_too : (v : ℕ) (key : ℤ) → waiting_at l v ≡ Some key
      → IsNear r.graph.nodes prices (source_of l) (length l.order) v key
  pub ordered : (v w : ℕ) (a : Settled) (key : ℤ) → settled_at l v ≡ Some a → waiting_at l w ≡ Some key
      → a.distance ≤ℤ key

-- less comes into the node than goes out
abbrev pub Lacks : List ℤ → ℕ → Type 0
Lacks surplus v = slice_index_or surplus v (pos 0) <ℤ pos 0

-- a path no longer than this was found to the node, or to one that lacks a unit
pub record Serves (surplus : List ℤ) (l : Lists) (v : ℕ) (bound : ℤ) : Type 0 where
  pub node : ℕ
  pub which : (node ≡ v) ⊎ Lacks surplus node
  pub covers : Covers l node bound

-- no bound, or one within which a node that lacks a unit was found
abbrev pub IsBound : List ℤ → Lists → ℤ → Type 0
IsBound surplus l bound = bound <ℤ NO_BOUND → (w : ℕ) × Lacks surplus w × Covers l w bound

-- what the step reaches is labelled accordingly, from node u at this distance, or a node that lacks a unit is
abbrev pub IsRelaxed : ResidualNet → List ℤ → List ℤ → Lists → ℕ → ℤ → Step → Type 0
IsRelaxed r prices surplus l u distance s =
    IsOpen r s → from_of r s ≡ u → Serves surplus l (to_of r s) (distance +ℤ reduced r prices s)

-- so are all steps that go this way from node u, and all that leave it
pub record IsRelaxedAlong (r : ResidualNet) (prices surplus : List ℤ) (l : Lists) (u : ℕ) (distance : ℤ)
    (way : Way) : Type 0 where
  pub each : (k : ℕ) → IsRelaxed r prices surplus l u distance (step_along way k)

pub record IsRelaxedFrom (r : ResidualNet) (prices surplus : List ℤ) (l : Lists) (u : ℕ) (distance : ℤ)
    : Type 0 where
  pub each : (s : Step) → IsRelaxed r prices surplus l u distance s

-- the step is relaxed, from a node at this distance, and nothing is lost
pub record Relaxes (r : ResidualNet) (prices surplus : List ℤ) (step : Step) (distance : ℤ)
    (old new : Lists) : Type 0 where
  pub labels : AreLabels r prices new
  pub lowered : IsLowered old new
  pub relaxed : IsRelaxed r prices surplus new (from_of r step) distance step

-- so are all steps from settled nodes but this one
abbrev pub AreRelaxedBut : ResidualNet → List ℤ → List ℤ → Lists → ℕ → Type 0
AreRelaxedBut r prices surplus l but = (u : ℕ) (a : Settled) (s : Step) → settled_at l u ≡ Some a → u ≢ but
    → IsRelaxed r prices surplus l u a.distance s

-- so are all
abbrev pub AreRelaxed : ResidualNet → List ℤ → List ℤ → Lists → Type 0
AreRelaxed r prices surplus l = (u : ℕ) (a : Settled) (s : Step) → settled_at l u ≡ Some a
    → IsRelaxed r prices surplus l u a.distance s

-- what is there to settle, where nothing is settled yet
pub record AreFresh (nodes : ℕ) (l : Lists) : Type 0 where
  pub settled : l.settled ≡ replicate nodes None
  pub waiting : l.waiting ≡ replicate nodes None
  pub steps : length l.steps ≡ nodes
  pub order : l.order ≡ []

-- the search goes on: all that is settled is relaxed, and none of it lacks a unit
pub record IsUnderWay (r : ResidualNet) (prices surplus : List ℤ) (source : ℕ) (l : Lists) : Type 0 where
  pub labels : AreLabels r prices l
  pub relaxed : AreRelaxed r prices surplus l
  pub from : source_of l ≡ source
  pub no_lack : (v : ℕ) (a : Settled) → settled_at l v ≡ Some a → ¬ (Lacks surplus v)

-- the search has settled a node that lacks a unit, as the last
pub record IsReached (r : ResidualNet) (prices surplus : List ℤ) (source : ℕ) (l : Lists) (goal : ℕ) : Type 0 where
  pub labels : AreLabels r prices l
  pub relaxed : AreRelaxedBut r prices surplus l goal
  pub from : source_of l ≡ source
  pub lacks : Lacks surplus goal
  pub no_lack : (v : ℕ) (a : Settled) → settled_at l v ≡ Some a → v ≢ goal → ¬ (Lacks surplus v)
  pub goal_is : Settled
  pub settled : settled_at l goal ≡ Some goal_is
  pub farthest : IsFarthest l goal_is.distance

-- nothing is left to settle
pub record IsOver (r : ResidualNet) (prices surplus : List ℤ) (source : ℕ) (l : Lists) : Type 0 where
  pub under_way : IsUnderWay r prices surplus source l
  pub none_waits : IsEmpty l.waiting
