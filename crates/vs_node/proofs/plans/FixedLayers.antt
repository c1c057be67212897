-- What the answer on one layer's net says of the layer.
use Rattle.std.proofs.Common.{List, ◌∙◌, ℤ}
use Rattle.vs_types.specs.declared.layer_set.LayerSet.{LayerSet}
use Rattle.vs_types.specs.declared.numbers.LayerNo.{LayerNo}
use Rattle.vs_layer.specs.declared.net.Flow.{Flow}
use Rattle.vs_instance.specs.Problem.{Problem}
use Rattle.vs_match.specs.LayerGraph.{LayerGraph}
use Rattle.vs_circ.specs.Circulations.{IsFixed}
use Rattle.vs_circ.specs.declared.circ.FixedFlow.TheVariants.{Covered}
use Rattle.vs_circ.specs.declared.circ.LayerPrices.{LayerPrices}
use Rattle.vs_node.specs.LayersDone.{IsLayerRun, must_in}

-- a circulation that covers the layer's trips is what the layer runs
pub layer_run : (p : Problem) (sets : List LayerSet) (l : LayerNo) (n : LayerGraph) (flow : Flow)
    (prices : LayerPrices) (cost : ℤ) → IsFixed p l n (must_in sets l.0) (Covered flow prices cost)
    → IsLayerRun p sets l n flow prices
layer_run p sets l n flow prices cost fixed = record {
  cover = fixed.0;
  holding = fixed.4;
  shown = fixed.5 ∙ fixed.1;
}
