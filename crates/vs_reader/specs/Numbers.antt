-- Numbers and times of an instance text.
use Rattle.std.specs.Prelude.{◌≡◌, ℕ, ◌+◌, ◌*◌, ◌<◌, ◌≤◌, ◌∷◌, ◌++◌, length, All}
use Rattle.std.specs.Char.{IsAsciiDigit}
use Rattle.std.specs.Str.Parse.{digits_value}
use Rattle.vs_reader.specs.Rows.{Field}

-- some digits, at most so many
pub record AreDigits (field : Field) (most : ℕ) : Type 0 where
  pub some : 1 ≤ length field
  pub few : length field ≤ most
  pub digits : All IsAsciiDigit field

-- 1 to 10 digits, with leading zeros or without, that write n
pub record IsNumber (field : Field) (n : ℕ) : Type 0 where
  pub digits : AreDigits field 10
  pub value : n ≡ digits_value 10 field

-- an hour of one or two digits up to 47, a colon, and a minute of two digits up to 59, t minutes from 0:00 of the first
-- day
abbrev pub IsTime : Field → ℕ → Type 0
IsTime field t = (hours minutes : Field) × (field ≡ hours ++ 58 ∷ minutes)
    × AreDigits hours 2 × AreDigits minutes 2 × (length minutes ≡ 2)
    × (digits_value 10 hours < 48) × (digits_value 10 minutes < 60)
    × (t ≡ 60 * digits_value 10 hours + digits_value 10 minutes)
