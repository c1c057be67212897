-- How far the numbers go that weighing adds up and multiplies.
use Rattle.std.specs.Prelude.{ℕ, ◌≤◌, List, slice_index_or, ℤ, pos, ◌≤ℤ◌}
use Rattle.std.specs.Int.RustNames.{unsigned_abs}
use Rattle.vs_cuts.specs.declared.cut.TheConstants.{MOST_ERROR}
use Rattle.vs_cuts.specs.declared.whole.TheConstants.{WHOLE}

-- no further from 0 than this
abbrev pub IsNear : ℕ → ℤ → Type 0
IsNear most number = unsigned_abs number ≤ most

-- no number of a list is
abbrev pub AreNear : ℕ → List ℤ → Type 0
AreNear most numbers = (k : ℕ) → IsNear most (slice_index_or numbers k (pos 0))

-- within a whole
abbrev pub IsPart : ℤ → Type 0
IsPart part = (pos 0 ≤ℤ part) × (part ≤ℤ WHOLE)

-- each number of a list is
abbrev pub AllParts : List ℤ → Type 0
AllParts parts = (k : ℕ) → IsPart (slice_index_or parts k (pos 0))

-- not below 0 or beyond what two cuts may run both
abbrev pub IsProduct : ℕ → ℤ → Type 0
IsProduct most product = (pos 0 ≤ℤ product) × (product ≤ℤ pos most)

-- no number of a list is
abbrev pub AreProducts : ℕ → List ℤ → Type 0
AreProducts most products = (k : ℕ) → IsProduct most (slice_index_or products k (pos 0))

-- not below 0 or beyond the limit of errors
abbrev pub IsError : ℤ → Type 0
IsError error = (pos 0 ≤ℤ error) × (error ≤ℤ MOST_ERROR)
