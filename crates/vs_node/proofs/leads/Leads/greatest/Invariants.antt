use Rattle.std.proofs.Common.{◌<◌}
use Rattle.vs_types.specs.LayerSet.{Has}
use Rattle.vs_types.specs.declared.numbers.TheConstants.{MAX_LAYERS}
use Rattle.vs_node.proofs.leads.Leads.greatest.Given as goal

-- a layer of the set
abbrev pub invariant-loop-k : goal.invariant-loop-k
invariant-loop-k l = record {
  among : Has l.set l.greatest.0;
  few : l.greatest.0 < MAX_LAYERS;
}
