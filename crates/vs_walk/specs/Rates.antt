-- How a rate rises.
use Rattle.std.specs.Prelude.{ℕ, ◌+◌, ◌/◌}

-- by so small a part of it and one more
abbrev pub raised : ℕ → ℕ → ℕ
raised growth rate = rate + rate / growth + 1
