-- A table made better layer by layer.
use Rattle.std.specs.Prelude.{◌≡◌, ℕ, List, length, false, IfOk, Result}
use Rattle.vs_types.specs.declared.layer_set.LayerSet.{LayerSet}
use Rattle.vs_types.specs.declared.memory.Memory.{Memory}
use Rattle.vs_instance.specs.Problem.{Problem}
use Rattle.vs_prices.specs.declared.bound.Bound.{Bound}
use Rattle.vs_prices.specs.declared.table.Table.{Table}
use Rattle.vs_prices.specs.Bounds.{IsNoLess}
use Rattle.vs_prices.specs.Table.{Fits, HoldingTable}
use Rattle.vs_prices.specs.Worth.{IsWorth}
use Rattle.vs_multi.specs.declared.raising.Bids.{Bids}

-- an entry for each trip
pub record AreBids (trips : ℕ) (bids : Bids) : Type 0 where
  pub multipliers : length bids.multipliers.items ≡ trips
  pub offers : length bids.offers.items ≡ trips

-- a table that fits and holds and is no ray
pub record IsCostTable (p : Problem) (table : Table) : Type 0 where
  pub fits : Fits p table
  pub holds : HoldingTable p table
  pub costs : table.ray ≡ false

-- Such a table, which is worth no less than so much, and just what is given, if that is a worth.
pub record IsRaised (p : Problem) (sets : List LayerSet) (least : Bound) (table : Table)
    (given : Result Bound Memory) : Type 0 where
  pub lawful : IsCostTable p table
  pub no_less : (worth : Bound) → IsWorth p sets table worth → IsNoLess worth least
  pub worth : IfOk given (IsWorth p sets table)
