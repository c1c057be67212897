use Rattle.std.proofs.Common.{◌≡◌, ℕ, ◌<◌}
use Rattle.std.specs.Prelude.{decimal}
use Rattle.vs_peakcheck.proofs.reading.counts.number_of.Given as goal

-- the field writes no number below this one
abbrev pub invariant-loop-n : goal.invariant-loop-n
invariant-loop-n l = (k : ℕ) → k < l.n → ¬ (l.field ≡ decimal k)
