-- The tables of a search of a part, widened to the instance.
use Rattle.std.specs.Prelude.{◌≡◌, ℕ, List, slice_index_or}
use Rattle.std.specs.List.{AllZip}
use Rattle.vs_types.specs.declared.layer_set.LayerSet.{LayerSet}
use Rattle.vs_instance.specs.Problem.{Problem}
use Rattle.vs_prices.specs.Table.{Fits}
use Rattle.vs_prices.specs.declared.table.Table.{Table}
use Rattle.vs_tree.specs.History.{State}
use Rattle.vs_tree.specs.Prices.{Prices, no_prices, prices_of}
use Rattle.vs_resume.specs.Widened.{IsWidened}

-- a table of these prices, widened
pub record IsWidenedFrom (p : Problem) (sets : List LayerSet) (prices : Prices) (table : Table) : Type 0 where
  pub own : Table
  pub listed : prices_of own ≡ prices
  pub widened : IsWidened p sets own table
  pub fits : Fits p table

-- the tables of these numbers in a state, one by one
abbrev pub AreWidenedTables : Problem → List LayerSet → State → List ℕ → List Table → Type 0
AreWidenedTables p sets s numbers tables =
    AllZip (λ n table. IsWidenedFrom p sets (slice_index_or s.tables n no_prices) table) numbers tables
