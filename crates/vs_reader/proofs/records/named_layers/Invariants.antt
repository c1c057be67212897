use Rattle.std.proofs.Common.{◌-◌, ◌≤◌, [], take, drop}
use Rattle.csv.specs.Records.{fields_of}
use Rattle.vs_reader.specs.InstanceText.{NameLayers}
use Rattle.vs_reader.specs.Rules.{AreKept, layer_names}
use Rattle.vs_reader.proofs.records.named_layers.Given as goal

abbrev pub invariant-loop-k : goal.invariant-loop-k
invariant-loop-k l = record {
  from : 7 ≤ l.k;
  kept : AreKept (layer_names l.names.layers [] (take (l.k - 7) (drop 7 (fields_of l.row))));
  named : NameLayers l.names.layers (take (l.k - 7) (drop 7 (fields_of l.row))) l.set;
}
