-- What a single move or trip can cost, and which of two costs is the lesser.
use Rattle.std.specs.Prelude.{Option, Some, None, ℤ, pos, ◌≤ℤ◌}
use Rattle.std.specs.Int.{int_min}
use Rattle.vs_connect.specs.declared.pieces.TheConstants.{MAX_PIECE}

abbrev pub IsCost : ℤ → Type 0
IsCost cost = (pos 0 ≤ℤ cost) × (cost ≤ℤ MAX_PIECE)

-- the lesser of two costs, where there are both, else the one that there is
abbrev pub lesser_of : Option ℤ → Option ℤ → Option ℤ
lesser_of None b = b
lesser_of (Some a) None = Some a
lesser_of (Some a) (Some b) = Some (int_min a b)
