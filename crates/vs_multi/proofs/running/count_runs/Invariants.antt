use Rattle.std.proofs.Common.{◌≡◌, ◌<◌, ◌≤◌, ℕ, length, get_or}
use Rattle.vs_multi.specs.Rounds.{IsCounted}
use Rattle.vs_multi.proofs.running.count_runs.Given as goal

-- the trips so far are counted, and the others not yet
abbrev pub invariant-loop-i : goal.invariant-loop-i
invariant-loop-i l = record {
  each_trip : length l.covers ≡ length l.fn.covers;
  done : (j : ℕ) → j < l.i → IsCounted l.net l.units j (get_or l.fn.covers j 0) (get_or l.covers j 0);
  rest : (j : ℕ) → l.i ≤ j → get_or l.covers j 0 ≡ get_or l.fn.covers j 0;
}
