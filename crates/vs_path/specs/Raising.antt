-- Prices raised by the distances from a node.
use Rattle.std.specs.Prelude.{◌≡◌, ◌⊎◌, ℕ, ◌*◌, ◌<◌, List, length, Option, Some, None, IfSome, ℤ, pos, ◌+ℤ◌, ◌-ℤ◌, ◌≤ℤ◌, FitsSigned}
use mir.Syntax.{w64}
use Rattle.vs_path.specs.declared.search.TheConstants.{MOST_RAISED}
use Rattle.vs_queue.specs.declared.node_table.Settled.{Settled}
use Rattle.vs_path.specs.StepCosts.{most_step}
use Rattle.vs_path.specs.Residual.{ResidualNet, IsWithin, price_at}
use Rattle.vs_path.specs.Labels.{Lists, settled_at}
use Rattle.vs_path.specs.LeastPaths.{IsLeastCost}

-- no two prices lie further apart than this
abbrev pub HasSpan : ℤ → List ℤ → Type 0
HasSpan span prices = (u v : ℕ) → u < length prices → v < length prices
    → (price_at prices u -ℤ price_at prices v) ≤ℤ span

-- the most that a path costs that comes to no node twice
abbrev pub one_path : ResidualNet → ℤ
one_path r = pos (r.graph.nodes * most_step r.graph.nodes)

-- the raised price of a node: that of the source with what a least path from there costs; where there is no path, its
-- own with the rise
abbrev pub raised_price : Option ℤ → ℤ → ℤ → ℤ → ℤ
raised_price None from price rise = price +ℤ rise
raised_price (Some cost) from price rise = from +ℤ cost

pub record IsRaisedAt (r : ResidualNet) (source : ℕ) (rise : ℤ) (old new : List ℤ) (v : ℕ) : Type 0 where
  pub cost : Option ℤ
  pub least : IsLeastCost r source v cost
  pub few : IfSome cost (IsWithin (one_path r))
  pub price : price_at new v ≡ raised_price cost (price_at old source) (price_at old v) rise

-- The price of each node that can be reached is raised to what a least path to it costs. That of each other rose by
-- one and the same rise, which is no less than asked for, and no price rose more. The rise is what was asked for, or
-- no more than what a path costs and by how much the price of the source is above another.
pub record IsRaised (r : ResidualNet) (source : ℕ) (beyond : ℤ) (old new : List ℤ) : Type 0 where
  pub rise : ℤ
  pub each : (v : ℕ) → v < r.graph.nodes → IsRaisedAt r source rise old new v
  pub rose : (v : ℕ) → price_at old v ≤ℤ price_at new v
  pub no_further : (v : ℕ) → price_at new v ≤ℤ (price_at old v +ℤ rise)
  pub as_asked : beyond ≤ℤ rise
  pub not_far : (rise ≡ beyond)
      ⊎ ((u : ℕ) × (u < r.graph.nodes) × (rise ≤ℤ (one_path r +ℤ (price_at old source -ℤ price_at old u))))
  pub at_most : rise ≤ℤ MOST_RAISED

-- by how much the price of a node rises
abbrev pub rise_of : Option Settled → ℤ → ℤ
rise_of None rise = rise
rise_of (Some a) rise = a.distance

abbrev pub AreRaised : Lists → ℤ → List ℤ → List ℤ → Type 0
AreRaised l rise old new = (v : ℕ) → v < length old → price_at new v ≡ price_at old v +ℤ rise_of (settled_at l v) rise

-- it fits 64 bits
abbrev pub CanRaise : Lists → ℤ → List ℤ → Type 0
CanRaise l rise prices = (v : ℕ) → v < length prices
    → FitsSigned w64 (price_at prices v +ℤ rise_of (settled_at l v) rise)

-- the greatest distance at which a node is settled, or so much where that is more
pub record IsGreatest (l : Lists) (least greatest : ℤ) : Type 0 where
  pub no_less : least ≤ℤ greatest
  pub farthest : (v : ℕ) (a : Settled) → settled_at l v ≡ Some a → a.distance ≤ℤ greatest
  pub one : (greatest ≡ least) ⊎ ((v : ℕ) × (a : Settled) × (settled_at l v ≡ Some a) × (greatest ≡ a.distance))

-- the greater of a distance and that of a node, where it is settled
abbrev pub IsGreater : ℤ → Option Settled → ℤ → Type 0
IsGreater distance None greater = greater ≡ distance
IsGreater distance (Some a) greater =
    (distance ≤ℤ greater) × (a.distance ≤ℤ greater) × ((greater ≡ distance) ⊎ (greater ≡ a.distance))
