use Rattle.std.proofs.Common.{◌≡◌, ◌<◌, ℕ, get_or}
use Rattle.vs_multi.proofs.running.clear.Given as goal

-- those so far are 0
abbrev pub invariant-loop-count : goal.invariant-loop-count
invariant-loop-count l = (k : ℕ) → k < l.count-index → get_or l.covers k 0 ≡ 0
