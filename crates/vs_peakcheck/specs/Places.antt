-- Which row comes next in a text that claims peaks.
use Rattle.std.specs.Prelude.{ℕ, ◌+◌, ◌≡◌, ◌==◌, ◌&&◌, if◌then◌else◌, Bool, true, List, [], ◌∷◌, length, Option, Some, None}
use Rattle.std.specs.Int.{bit_at}
use Rattle.std.specs.List.{list_all}
use Rattle.vs_instance.specs.Problem.{Problem}
use Rattle.vs_instance.specs.Plan.{LayerBlock}
use Rattle.vs_instance.specs.Ways.{trip_of}
use Rattle.vs_prices.specs.Table.{IsPrice}
use Rattle.vs_rows.specs.DocumentRows.{BlockRow, EndRow, FleetRow, PriceRow}
use Rattle.vs_peakcheck.specs.Counting.{permitted_trips}
use Rattle.vs_peakcheck.specs.PeakRows.{PeakRow, CountRow, PartRow}

-- a place between two rows
pub data Place : Type 0 where
  -- before layer l, and behind the last one before the end
  AtLayer : ℕ → Place
  -- in layer l behind its count, before a block or the price of its vehicles
  AtBlocks : ℕ → Option ℕ → Place
  -- in layer l, before the prices of this trip and then of these
  AtPrices : ℕ → ℕ → List ℕ → Place
  -- behind `end`
  AtEnd : Place

-- in layer l, of which the prices of these trips are still to come
abbrev pub in_prices : ℕ → List ℕ → Place
in_prices l [] = AtLayer (l + 1)
in_prices l (i ∷ trips) = AtPrices l i trips

-- the block is one of layer l, which may run all its trips
abbrev pub may_run : Problem → ℕ → LayerBlock → Bool
may_run p l b = (b.0.0 == l) && list_all (λ i. bit_at (trip_of p i.0).layers.0 l == 1) b.1

abbrev pub MayRun : Problem → ℕ → LayerBlock → Type 0
MayRun p l b = may_run p l b ≡ true

-- beside a count a block of the layer may come, and others behind it
abbrev pub behind_block : Problem → ℕ → Option ℕ → LayerBlock → Option Place
behind_block p l None b = None
behind_block p l (Some n) b = if may_run p l b then Some (AtBlocks l (Some n)) else None

-- the place behind a row that says this: before a layer or the end, behind a count, and before prices
abbrev pub behind_layer : Problem → ℕ → PeakRow → Option Place
behind_layer p l (CountRow layer n) = if layer == l then Some (AtBlocks l n) else None
behind_layer p l (PartRow EndRow) = if l == length p.layers then Some AtEnd else None
behind_layer p l _ = None

abbrev pub behind_count : Problem → ℕ → Option ℕ → PeakRow → Option Place
behind_count p l n (PartRow (BlockRow b)) = behind_block p l n b
behind_count p l n (PartRow (FleetRow layer price)) =
    if layer == l then Some (in_prices l (permitted_trips p l)) else None
behind_count p l n _ = None

abbrev pub behind_price : ℕ → ℕ → List ℕ → PeakRow → Option Place
behind_price l i trips (PartRow (PriceRow layer trip into from)) =
    if (layer == l) && (trip == i) then Some (in_prices l trips) else None
behind_price l i trips _ = None

abbrev pub behind : Problem → Place → PeakRow → Option Place
behind p (AtLayer l) said = behind_layer p l said
behind p (AtBlocks l n) said = behind_count p l n said
behind p (AtPrices l i trips) said = behind_price l i trips said
behind p AtEnd said = None

-- what is given for a price is one
abbrev pub HasPrices : PeakRow → Type 0
HasPrices (PartRow (FleetRow l price)) = IsPrice price
HasPrices (PartRow (PriceRow l i into from)) = IsPrice into × IsPrice from
HasPrices said = Unit {0}
