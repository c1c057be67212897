-- Which vehicle runs which trips, all together.
use Rattle.std.specs.Prelude.{◌≡◌, ℕ, ◌<◌, ◌≤◌, ◌==◌, List, length, All, sum_by, count_by, flat_map}
use Rattle.vs_types.specs.declared.numbers.LayerNo.{LayerNo}
use Rattle.vs_types.specs.declared.numbers.TripNo.{TripNo}
use Rattle.vs_instance.specs.Problem.{Problem}
use Rattle.vs_instance.specs.Ways.{layer_of}
use Rattle.vs_instance.specs.Blocks.{IsBlock, block_cost}

-- a layer, and the trips of one of its vehicles in order
abbrev pub LayerBlock : Type 0
LayerBlock = LayerNo × List TripNo

-- the trips of all blocks, one block after another
abbrev pub all_trips : List LayerBlock → List TripNo
all_trips blocks = flat_map (λ b. b.1) blocks

-- how often trip i stands in the blocks
abbrev pub times_run : List LayerBlock → ℕ → ℕ
times_run blocks i = count_by (λ t. t.0 == i) (all_trips blocks)

-- how many blocks are layer l's
abbrev pub vehicles_used : List LayerBlock → ℕ → ℕ
vehicles_used blocks l = count_by (λ b. b.0.0 == l) blocks

-- blocks that run each trip exactly once, and no more of a layer than it has vehicles
pub record IsPlan (p : Problem) (blocks : List LayerBlock) : Type 0 where
  pub each_block : All (λ b. IsBlock p b.0 b.1) blocks
  pub once : (i : ℕ) → i < length p.trips → times_run blocks i ≡ 1
  pub fleet : (l : ℕ) → l < length p.layers → vehicles_used blocks l ≤ (layer_of p l).fleet

abbrev pub plan_cost : Problem → List LayerBlock → ℕ
plan_cost p blocks = sum_by (λ b. block_cost p b.0 b.1) blocks
