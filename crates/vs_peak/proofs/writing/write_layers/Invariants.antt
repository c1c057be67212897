use Rattle.std.proofs.Common.{take}
use Rattle.vs_peakcheck.specs.PeakRows.{layers_rows}
use Rattle.vs_peak.specs.Writing.{AddsPeakRows}
use Rattle.vs_peak.proofs.writing.write_layers.Given as goal

-- the layers so far are written
abbrev pub invariant-loop-l : goal.invariant-loop-l
invariant-loop-l l = AddsPeakRows l.names (layers_rows l.instance 0 (take l.l l.claimed)) l.initial.text l.text
