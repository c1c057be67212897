-- Names with a number, and times, as they are written.
use Rattle.std.specs.Prelude.{ℕ, ◌+◌, ◌/◌, ◌%◌, List, [], ◌∷◌, ◌++◌, decimal}
use Rattle.vs_reader.specs.Rows.{Field}

-- a letter and a number, counted from 1
abbrev pub numbered : Field → ℕ → Field
numbered letter k = letter ++ decimal (k + 1)

-- a number below 100 as two digits
abbrev pub two_digits : ℕ → List ℕ
two_digits n = (48 + n / 10) ∷ (48 + n % 10) ∷ []

-- minute t from 0:00 of the first day: its hour, a colon, and its minute
abbrev pub time_field : ℕ → Field
time_field t = two_digits (t / 60) ++ 58 ∷ two_digits (t % 60)
