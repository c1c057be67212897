-- Prices of nodes in the middle of those at which a flow is settled.
use Rattle.std.specs.Prelude.{◌≡◌, ℕ, ◌<◌, List, length, ℤ, pos, ◌+ℤ◌, ◌≤ℤ◌}
use Rattle.vs_path.specs.Residual.{ResidualNet, HasSignRule, AllWithin, price_at}
use Rattle.vs_path.specs.Raising.{HasSpan}
use Rattle.vs_ship.specs.declared.centring.TheConstants.{MAX_RAISED_PRICE}
use Rattle.vs_ship.specs.declared.gaps.TheConstants.{MAX_NODE_PRICE}
use Rattle.vs_ship.specs.Mirror.{AreTurned}

-- half of the sum of two numbers, rounded down
pub record IsMean (a b mean : ℤ) : Type 0 where
  pub no_more : (mean +ℤ mean) ≤ℤ (a +ℤ b)
  pub no_less : (a +ℤ b) ≤ℤ ((mean +ℤ mean) +ℤ pos 1)

-- the mean of two prices at each node
pub record AreMeans (low high means : List ℤ) : Type 0 where
  pub size : length means ≡ length low
  pub each : (v : ℕ) → v < length low → IsMean (price_at low v) (price_at high v) (price_at means v)

-- prices that rose, and still settle the flow
pub record AreRaisedPrices (r : ResidualNet) (old new : List ℤ) : Type 0 where
  pub each_node : length new ≡ r.graph.nodes
  pub rose : (v : ℕ) → price_at old v ≤ℤ price_at new v
  pub within : AllWithin MAX_RAISED_PRICE new
  pub sign_rule : HasSignRule r new

-- prices of a net, of which those in the net turned round rose
pub record AreLoweredPrices (mirror : ResidualNet) (turned low : List ℤ) : Type 0 where
  pub risen : List ℤ
  pub raised : AreRaisedPrices mirror turned risen
  pub back : AreTurned risen low

-- prices that settle the flow, counted from the first node, none too great and no two too far apart
pub record AreSettled (r : ResidualNet) (prices : List ℤ) : Type 0 where
  pub each_node : length prices ≡ r.graph.nodes
  pub within : AllWithin MAX_NODE_PRICE prices
  pub span : HasSpan MAX_NODE_PRICE prices
  pub first : price_at prices 0 ≡ pos 0
  pub sign_rule : HasSignRule r prices
