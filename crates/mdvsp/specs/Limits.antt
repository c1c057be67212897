-- How far a search has come that is made part by part, and when its gap is small enough.
use Rattle.std.specs.Prelude.{ℕ, ◌+◌, ◌-◌, ◌^◌, min, ℤ, pos, ◌-ℤ◌, ◌*ℤ◌, ◌≤ℤ◌, Option, Some, None, IsSomeAnd}
use Rattle.vs_connect.specs.Cost.{lesser_of}
use Rattle.vs_tree.specs.declared.calls.Stand.{Stand}
use Rattle.vs_words.specs.declared.command.Effort.{Effort}

-- how far the whole search has come, where it had come so far before, and the search of one of its leaves so far
abbrev pub whole_of : Stand → Stand → Stand
whole_of before part = record {
  finished = min (before.finished + part.finished) (2 ^ 32 - 1);
  «open» = min (before.open - 1 + part.open) (2 ^ 32 - 1);
  cost = lesser_of before.cost part.cost;
  bound = lesser_of before.bound (lesser_of before.cost part.cost);
}

-- the same of a search that may be made part by part
abbrev pub stand_with : Option Stand → Stand → Stand
stand_with None stand = stand
stand_with (Some before) stand = whole_of before stand

-- the cost is no more than so many parts per million of it above the bound, where there are both
abbrev pub IsCostWithin : ℕ → Option ℤ → Option ℤ → Type 0
IsCostWithin gap (Some cost) (Some bound) = ((cost -ℤ bound) *ℤ pos 1000000) ≤ℤ (pos gap *ℤ cost)
IsCostWithin gap (Some cost) None = ⊥
IsCostWithin gap None bound = ⊥

-- a gap is given, and the plan's cost is within it of the bound
abbrev pub IsNear : Effort → Stand → Type 0
IsNear effort stand = IsSomeAnd effort.gap (λ gap. IsCostWithin gap stand.cost stand.bound)
