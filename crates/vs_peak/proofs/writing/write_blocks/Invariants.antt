use Rattle.std.proofs.Common.{take}
use Rattle.vs_peak.specs.Writing.{AddsPeakRows, own_rows}
use Rattle.vs_peak.proofs.writing.write_blocks.Given as goal

-- the blocks so far are written
abbrev pub invariant-loop-k : goal.invariant-loop-k
invariant-loop-k l = AddsPeakRows l.names (own_rows l.l l.trips (take l.k l.blocks)) l.initial.text l.text
