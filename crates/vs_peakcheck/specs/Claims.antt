-- What is claimed of layers, and the rows that claim it.
use Rattle.std.specs.Prelude.{◌≡◌, ℕ, ◌<◌, ◌^◌, List, [], ◌∷◌, length, All, IfNone, is_none, slice_index_or}
use Rattle.vs_instance.specs.Problem.{Problem}
use Rattle.vs_instance.specs.Plan.{all_trips}
use Rattle.vs_plan.specs.Blocks.{IsOfInstance, pairs_of}
use Rattle.vs_prices.specs.Table.{Fits}
use Rattle.vs_reader.specs.Rows.{Row}
use Rattle.vs_reader.specs.Names.{NameLists}
use Rattle.vs_peakcheck.specs.Counting.{counting}
use Rattle.vs_peakcheck.specs.declared.claimed.Claimed.{Claimed}
use Rattle.vs_peakcheck.specs.PeakRows.{IsCount, SayAllSo, head_row, peak_rows}

-- a count and blocks, or neither, and a table of a problem that counts vehicles, a ray where there is no count
pub record IsClaimed (q : Problem) (c : Claimed) : Type 0 where
  pub few : IsCount c.count
  pub no_blocks : IfNone c.count (pairs_of c.blocks.items ≡ [])
  pub blocks : All (IsOfInstance q) (pairs_of c.blocks.items)
  pub fits : Fits q c.table
  pub ray : c.table.ray ≡ is_none c.count

-- 32 bits count the trips of its blocks
abbrev pub IsShort : Claimed → Type 0
IsShort c = length (all_trips (pairs_of c.blocks.items)) < 2 ^ 32

-- one for each layer
pub record AreClaimed (p : Problem) (claimed : List Claimed) : Type 0 where
  pub each_layer : length claimed ≡ length p.layers
  pub each : (l : ℕ) (d : Claimed) → l < length claimed → IsClaimed (counting p l) (slice_index_or claimed l d)

-- the same, and each with so few trips
pub record CanBeChecked (p : Problem) (claimed : List Claimed) : Type 0 where
  pub claims : AreClaimed p claimed
  pub short : All IsShort claimed

-- the rows stand for what is claimed
pub record PeakText (p : Problem) (names : NameLists) (rows : List Row) (claimed : List Claimed) : Type 0 where
  pub claims : AreClaimed p claimed
  pub behind_head : List Row
  pub rows_are : rows ≡ head_row ∷ behind_head
  pub say : SayAllSo names behind_head (peak_rows p claimed)
