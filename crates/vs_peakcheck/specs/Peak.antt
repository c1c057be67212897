-- How few vehicles of a layer can run all that it may run, whatever its fleet.
use Rattle.std.specs.Prelude.{◌≡◌, ℕ, ◌<◌, ◌≤◌, List, length, All}
use Rattle.vs_types.specs.declared.numbers.LayerNo.{LayerNo}
use Rattle.vs_instance.specs.Problem.{Problem}
use Rattle.vs_instance.specs.Ways.{Permitted}
use Rattle.vs_instance.specs.Blocks.{IsBlock}
use Rattle.vs_instance.specs.Plan.{LayerBlock, times_run}

-- blocks of layer l in which each trip that it may run stands exactly once
pub record RunAll (p : Problem) (l : LayerNo) (blocks : List LayerBlock) : Type 0 where
  pub each_block : All (λ b. (b.0 ≡ l) × IsBlock p l b.1) blocks
  pub once : (i : ℕ) → i < length p.trips → Permitted p l.0 i → times_run blocks i ≡ 1

-- the least number of such blocks
pub record IsPeak (p : Problem) (l : LayerNo) (n : ℕ) : Type 0 where
  pub blocks : List LayerBlock
  pub run : RunAll p l blocks
  pub count : length blocks ≡ n
  pub least : (others : List LayerBlock) → RunAll p l others → n ≤ length others

-- there are no such blocks
abbrev pub HasNoPeak : Problem → LayerNo → Type 0
HasNoPeak p l = (blocks : List LayerBlock) → ¬ (RunAll p l blocks)
