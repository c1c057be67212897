use Rattle.std.proofs.Common.{◌≡◌, ℕ, ◌<◌, get_or}
use Rattle.vs_peakcheck.proofs.reading.blocks.place_of.Given as goal

-- the trip stands at no place before this one
abbrev pub invariant-loop-k : goal.invariant-loop-k
invariant-loop-k l = (j : ℕ) → j < l.k → ¬ (get_or l.trips j l.i ≡ l.i)
