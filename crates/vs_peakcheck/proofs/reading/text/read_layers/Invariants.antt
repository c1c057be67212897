use Rattle.vs_peakcheck.specs.Reading.{ReadsLayers}
use Rattle.vs_peakcheck.proofs.reading.text.read_layers.Given as goal

abbrev pub invariant-loop-l : goal.invariant-loop-l
invariant-loop-l l = ReadsLayers l.input l.l l.next l.claimed.items
