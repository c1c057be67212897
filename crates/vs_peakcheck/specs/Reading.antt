-- How far the rows of a text that claims peaks have been read.
use Rattle.std.specs.Prelude.{◌≡◌, ◌≢◌, ℕ, ◌+◌, ◌<◌, ◌≤◌, List, [], ◌∷◌, length, take, All, Option, IfNone, IsSome, slice_index_or}
use Rattle.vs_types.specs.declared.numbers.LayerNo.{LayerNo}
use Rattle.vs_instance.specs.Problem.{Problem}
use Rattle.vs_instance.specs.Plan.{LayerBlock, all_trips}
use Rattle.vs_plan.specs.Blocks.{IsOfInstance, pair_of}
use Rattle.vs_prices.specs.Table.{IsPrice}
use Rattle.vs_reader.specs.declared.input.Input.{Input}
use Rattle.vs_reader.specs.Rows.{all_fields}
use Rattle.vs_rows.specs.DocumentRows.{BlockRow, EndRow}
use Rattle.vs_rows.specs.PriceOrder.{priced_row}
use Rattle.vs_rows.specs.Standing.{IsNoBlock}
use Rattle.vs_peakcheck.specs.Counting.{counting, own_blocks, own_trips, permitted_trips}
use Rattle.vs_peakcheck.specs.declared.claimed.Claimed.{Claimed}
use Rattle.vs_peakcheck.specs.declared.reading.prices.Prices.{Prices}
use Rattle.vs_peakcheck.specs.declared.reading.said.Said.{Said}
use Rattle.vs_peakcheck.specs.declared.reading.said.Said.TheVariants as said
use Rattle.vs_peakcheck.specs.declared.refused.PeakError.{PeakError}
use Rattle.vs_peakcheck.specs.declared.refused.PeakError.TheVariants as error
use Rattle.vs_peakcheck.specs.Claims.{IsClaimed, IsShort, PeakText}
use Rattle.vs_peakcheck.specs.PeakRefusals.{IsRefusal, peaks}
use Rattle.vs_rows.specs.RowReading.{IsFirstRefused, ReadsTo}
use Rattle.vs_peakcheck.specs.PeakRows.{CountRow, IsCount, PartRow, PeakRow, SaysPeak, block_rows, layer_rows, layers_rows, price_rows}
use Rattle.vs_peakcheck.specs.Places.{AtBlocks, AtEnd, AtLayer, Place, in_prices}

-- what the row says
abbrev pub peak_said : Said → PeakRow
peak_said (said.Count layer count) = CountRow layer.0 count
peak_said (said.Block b) = PartRow (BlockRow (pair_of b))
peak_said (said.Prices prices) = PartRow (priced_row prices)
peak_said said.End = PartRow EndRow

-- of the rows from one on, which come at a place, the first that is refused is told and why
abbrev pub IsRefusedAt : Input → ℕ → Place → PeakError → Type 0
IsRefusedAt input at place (error.Refused row why) = IsFirstRefused peaks input at place row why
IsRefusedAt input at place error.Memory = Unit {0}

-- it is so wherever that row comes
abbrev pub IsRefusedAnywhere : Input → ℕ → PeakError → Type 0
IsRefusedAnywhere input at e = (place : Place) → place ≢ AtEnd → IsRefusedAt input at place e

-- the row tells the count of layer l
pub record ReadsCount (input : Input) (row l : ℕ) (count : Option ℕ) : Type 0 where
  pub few : IsCount count
  pub reads : ReadsTo peaks input row (AtLayer l) (CountRow l count ∷ []) (row + 1) (AtBlocks l count)

-- the block of the instance is this one in the numbers of layer l's trips
pub record IsCountedBlock (p : Problem) (l : LayerNo) (own counted : LayerBlock) : Type 0 where
  pub of_only : counted.0 ≡ record { 0 = 0 }
  pub of_layer : own.0 ≡ l
  pub trips : All (λ k. k.0 < length (permitted_trips p l.0)) counted.1
  pub own_is : own_trips p l.0 counted.1 ≡ own.1

-- the rows are those of these blocks of layer l, beside a count
pub record ReadsBlocks (input : Input) (at : ℕ) (l : LayerNo) (count : Option ℕ) (to : ℕ)
    (blocks : List LayerBlock) : Type 0 where
  pub of_instance : All (IsOfInstance (counting input.instance l.0)) blocks
  pub no_blocks : IfNone count (blocks ≡ [])
  pub few_trips : length (all_trips blocks) ≤ length (all_fields (take to input.rest))
  pub ends : IsSome count → IsNoBlock input to
  pub reads : ReadsTo peaks input at (AtBlocks l.0 count) (block_rows (own_blocks input.instance l blocks)) to
      (AtBlocks l.0 count)

-- the rows tell the prices of the trips that layer l may run
pub record ReadsPrices (input : Input) (at l : ℕ) (prices : Prices) : Type 0 where
  pub into_size : length prices.into.items ≡ length (permitted_trips input.instance l)
  pub from_size : length prices.from.items ≡ length (permitted_trips input.instance l)
  pub into_prices : All IsPrice prices.into.items
  pub from_prices : All IsPrice prices.from.items
  pub reads : ReadsTo peaks input at (in_prices l (permitted_trips input.instance l))
      (price_rows l (permitted_trips input.instance l) prices.into.items prices.from.items)
      (at + length (permitted_trips input.instance l)) (AtLayer (l + 1))

-- the rows are those of layer l
pub record ReadsLayer (input : Input) (at : ℕ) (l : LayerNo) (to : ℕ) (c : Claimed) : Type 0 where
  pub claim : IsClaimed (counting input.instance l.0) c
  pub short : IsShort c
  pub reads : ReadsTo peaks input at (AtLayer l.0) (layer_rows input.instance l.0 c) to (AtLayer (l.0 + 1))

-- the rows from the second on are those of the first layers
pub record ReadsLayers (input : Input) (layers to : ℕ) (claimed : List Claimed) : Type 0 where
  pub each_layer : length claimed ≡ layers
  pub each : (l : ℕ) (d : Claimed) → l < length claimed
      → IsClaimed (counting input.instance l) (slice_index_or claimed l d)
  pub short : All IsShort claimed
  pub reads : ReadsTo peaks input 1 (AtLayer 0) (layers_rows input.instance 0 claimed) to (AtLayer layers)

-- the row is `end`, and the last one
pub record IsLast (input : Input) (row : ℕ) : Type 0 where
  pub says : SaysPeak input row (PartRow EndRow)
  pub last : length input.rest ≡ row + 1

-- the rows stand for what is claimed, and are refused so
abbrev pub AreClaimsOf : Input → List Claimed → Type 0
AreClaimsOf input claimed = PeakText input.instance input.names input.rest claimed

abbrev pub IsRefusalOf : Input → PeakError → Type 0
IsRefusalOf input e = IsRefusal input.instance input.names input.before input.rest e
