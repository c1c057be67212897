-- How much of each trip layers run.
use Rattle.std.specs.Prelude.{ℕ, List, slice_index, pos, ◌≤ℤ◌}
use Rattle.vs_cuts.specs.declared.whole.TheConstants.{WHOLE}

-- no share is more than a whole trip
abbrev pub AreParts : List ℕ → Type 0
AreParts shares = (k : ℕ) → pos (slice_index shares k) ≤ℤ WHOLE
