-- Units that suit the arcs of a net at prices of its nodes.
use Rattle.std.specs.Prelude.{ℕ, ◌<◌, ◌≤◌, List, length, slice_index, ℤ, pos, ◌+ℤ◌, ◌-ℤ◌, ◌≤ℤ◌, ◌<ℤ◌}
use Rattle.vs_layer.specs.Graph.{Graph, arc_of}
use Rattle.vs_instance.specs.declared.limits.TheConstants.{MAX_FLEET}
use Rattle.vs_path.specs.Residual.{price_at}

-- what a unit more on arc k costs by the prices of the nodes
abbrev pub worth_less : Graph → List ℤ → List ℤ → ℕ → ℤ
worth_less g cost prices k =
    (price_at cost k +ℤ price_at prices (arc_of g k).from) -ℤ price_at prices (arc_of g k).to

-- so many units suit an arc on which a unit more costs so much, and which has so much room: no unit more and no unit
-- less gains anything
pub record DoSuit (loss : ℤ) (room most n : ℕ) : Type 0 where
  pub in_room : n ≤ room
  pub few : n ≤ most
  pub more : n < room → pos 0 ≤ℤ loss
  pub less : 0 < n → loss ≤ℤ pos 0

-- the units of all arcs do
abbrev pub AllSuit : Graph → List ℤ → List ℕ → List ℤ → List ℕ → Type 0
AllSuit g cost room prices units = (k : ℕ) → k < length g.arcs
    → DoSuit (worth_less g cost prices k) (slice_index room k) (arc_of g k).room (slice_index units k)

-- no arc that takes more units than the net lets it costs less than nothing
abbrev pub HasNoGain : Graph → List ℤ → List ℕ → Type 0
HasNoGain g cost room = (k : ℕ) → k < length g.arcs → (arc_of g k).room < slice_index room k
    → pos 0 ≤ℤ price_at cost k

-- an arc that takes more units than the net lets it gains something by each
pub record HasGain (g : Graph) (cost : List ℤ) (room : List ℕ) (prices : List ℤ) : Type 0 where
  pub k : ℕ
  pub within : k < length g.arcs
  pub unlimited : (arc_of g k).room < slice_index room k
  pub gains : worth_less g cost prices k <ℤ pos 0

-- no arc of the net takes more units than a fleet has vehicles
abbrev pub HasFewUnits : Graph → Type 0
HasFewUnits g = (k : ℕ) → k < length g.arcs → (arc_of g k).room ≤ MAX_FLEET
