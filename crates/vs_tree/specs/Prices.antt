-- Prices as plain lists, which is all that tells two tables apart.
use Rattle.std.specs.Prelude.{◌≡◌, ◌*◌, Bool, false, List, [], length, replicate, ℤ, pos}
use Rattle.vs_types.specs.declared.layer_set.LayerSet.{LayerSet}
use Rattle.vs_instance.specs.Problem.{Problem}
use Rattle.vs_prices.specs.declared.bound.Bound.{Bound}
use Rattle.vs_prices.specs.declared.table.Table.{Table}
use Rattle.vs_prices.specs.Table.{Fits, HoldingTable}
use Rattle.vs_prices.specs.Worth.{IsWorth}

pub record Prices : Type 0 where
  pub into : List ℤ
  pub from : List ℤ
  pub fleet : List ℤ
  pub ray : Bool

-- the prices of a table
abbrev pub prices_of : Table → Prices
prices_of table =
    record { into = table.into.items; from = table.from.items; fleet = table.fleet.items; ray = table.ray }

-- what stands past the end of the tables
abbrev pub no_prices : Prices
no_prices = record { into = []; from = []; fleet = []; ray = false }

-- the cost table of zeros of an instance
abbrev pub zero_prices : Problem → Prices
zero_prices p = record {
  into = replicate (length p.layers * length p.trips) (pos 0);
  from = replicate (length p.layers * length p.trips) (pos 0);
  fleet = replicate (length p.layers) (pos 0);
  ray = false;
}

-- a table of these prices fits the instance and holds
pub record AreLawful (p : Problem) (prices : Prices) : Type 0 where
  pub table : Table
  pub listed : prices_of table ≡ prices
  pub fits : Fits p table
  pub holds : HoldingTable p table

-- a table of these prices is worth the bound within the sets
pub record AreWorth (p : Problem) (sets : List LayerSet) (prices : Prices) (bound : Bound) : Type 0 where
  pub table : Table
  pub listed : prices_of table ≡ prices
  pub worth : IsWorth p sets table bound
