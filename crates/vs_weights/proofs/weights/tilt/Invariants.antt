use Rattle.std.proofs.Common.{ℕ, ◌+◌, ◌≤◌, ◌<◌, length, slice_index_or}
use Rattle.vs_weights.specs.Steps.{ArePeaksOf, AreSlopes}
use Rattle.vs_cuts.specs.Numbers.{IsNear}
use Rattle.vs_weights.specs.declared.standing.Standing.{Standing}
use Rattle.vs_weights.proofs.weights.tilt.Given as goal

abbrev pub invariant-loop-place : goal.invariant-loop-place
invariant-loop-place l = record {
  all : AreSlopes (l.fn.reach.slopes + l.fn.reach.products) l.standings;
  rest : (k : ℕ) (d : Standing) → l.place ≤ k → k < length l.standings
      → IsNear l.fn.reach.slopes (slice_index_or l.standings k d).slope;
  peaks : ArePeaksOf (length l.standings) l.peaks;
}
