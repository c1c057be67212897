-- When what is claimed of layers proves itself.
use Rattle.std.specs.Prelude.{◌≡◌, ℕ, ◌<◌, List, length, pos, MatchOption, IfSome, option_map, slice_index_or}
use Rattle.vs_instance.specs.Problem.{Problem}
use Rattle.vs_instance.specs.Plan.{IsPlan}
use Rattle.vs_instance.specs.Restriction.{permitted_sets}
use Rattle.vs_plan.specs.Blocks.{pairs_of}
use Rattle.vs_prices.specs.declared.bound.Bound.{Bound}
use Rattle.vs_prices.specs.Table.{HoldingTable}
use Rattle.vs_prices.specs.Worth.{IsWorth, Reaches}
use Rattle.vs_peakcheck.specs.Counting.{counting}
use Rattle.vs_peakcheck.specs.Peak.{HasNoPeak, IsPeak}
use Rattle.vs_peakcheck.specs.declared.claimed.Claimed.{Claimed}

-- Of a problem that counts vehicles: a count comes with blocks that are a plan and are so many; the table holds, and is
-- worth at least the count, or shows that there is no plan where there is none.
pub record HoldingClaim (q : Problem) (c : Claimed) : Type 0 where
  pub blocks : IfSome c.count (λ n. IsPlan q (pairs_of c.blocks.items) × (length (pairs_of c.blocks.items) ≡ n))
  pub table : HoldingTable q c.table
  pub reaches : (worth : Bound) × IsWorth q (permitted_sets q) c.table worth × Reaches worth (option_map pos c.count)

-- in each layer
abbrev pub HoldingClaims : Problem → List Claimed → Type 0
HoldingClaims p claimed = (l : ℕ) (d : Claimed) → l < length claimed
    → HoldingClaim (counting p l) (slice_index_or claimed l d)

-- each count is its layer's peak, and where there is none, no blocks run all that the layer may run
abbrev pub ProvePeaks : Problem → List Claimed → Type 0
ProvePeaks p claimed = (l : ℕ) (d : Claimed) → l < length claimed
    → MatchOption (slice_index_or claimed l d).count (HasNoPeak p (record { 0 = l })) (IsPeak p (record { 0 = l }))
