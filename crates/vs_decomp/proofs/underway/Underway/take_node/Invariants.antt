use Rattle.std.proofs.Common.{[], take}
use Rattle.vs_types.specs.declared.numbers.LayerNo.{LayerNo}
use Rattle.vs_layer.specs.Graph.{leaving}
use Rattle.vs_decomp.specs.Stands.{IsAt, standing}
use Rattle.vs_decomp.proofs.underway.Underway.take_node.Given as goal

abbrev pub invariant-loop-k : goal.invariant-loop-k
invariant-loop-k l = (layer : LayerNo)
    → IsAt l.net layer l.flow.units.items l.v [] (standing l.initial.self.stands.items)
    → IsAt l.net layer l.flow.units.items l.v (take l.k-index (leaving l.net.graph l.v)) (standing l.self.stands.items)
