use Rattle.std.proofs.Common.{◌≡◌, ℕ, ◌<◌}
use Rattle.vs_reader.specs.Names.{name_of}
use Rattle.vs_peakcheck.proofs.reading.counts.layer_named.Given as goal

-- the field is the name of no layer below this one
abbrev pub invariant-loop-l : goal.invariant-loop-l
invariant-loop-l l = (k : ℕ) → k < l.l → ¬ (l.field ≡ name_of l.names.layers k)
