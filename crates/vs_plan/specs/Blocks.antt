-- The blocks of a plan as pairs of a layer and its trips, and which of them can be judged.
use Rattle.std.specs.Prelude.{◌<◌, ◌^◌, List, map, length, All}
use Rattle.vs_instance.specs.Problem.{Problem}
use Rattle.vs_instance.specs.Plan.{LayerBlock, all_trips}
use Rattle.vs_plan.specs.declared.block.Block.{Block}
use Rattle.vs_plan.specs.declared.block.Plan.{Plan}

abbrev pub pair_of : Block → LayerBlock
pair_of b = (b.layer, b.trips.items)

abbrev pub pairs_of : List Block → List LayerBlock
pairs_of blocks = map pair_of blocks

abbrev pub blocks_of : Plan → List LayerBlock
blocks_of plan = pairs_of plan.blocks.items

-- some trips, each of which and whose layer is of the instance
pub record IsOfInstance (p : Problem) (b : LayerBlock) : Type 0 where
  pub layer : b.0.0 < length p.layers
  pub some_trip : 0 < length b.1
  pub trips : All (λ i. i.0 < length p.trips) b.1

-- blocks with numbers of the instance, and so few trips in them that 32 bits count them
pub record CanBeJudged (p : Problem) (blocks : List LayerBlock) : Type 0 where
  pub of_instance : All (IsOfInstance p) blocks
  pub few_trips : length (all_trips blocks) < 2 ^ 32
