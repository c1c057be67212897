-- The greatest of some numbers.
use Rattle.std.specs.Prelude.{ℕ, ◌*◌, Option, Some, None, IfSome, ℤ, pos, neg_ℤ, ◌≤ℤ◌}
use Rattle.std.specs.Int.{int_max}

-- the greatest of the numbers that are such ones: None exactly where there is none
abbrev pub IsGreatest : (ℤ → Type 0) → Option ℤ → Type 0
IsGreatest Such None = (x : ℤ) → ¬ (Such x)
IsGreatest Such (Some c) = Such c × ((x : ℤ) → Such x → x ≤ℤ c)

-- the greater of two numbers, as far as they are there
abbrev pub greater_of : Option ℤ → Option ℤ → Option ℤ
greater_of None b = b
greater_of (Some x) None = Some x
greater_of (Some x) (Some y) = Some (int_max x y)

-- at most so many times the greatest distance of an i64 from 0
pub record IsWide (m : ℕ) (x : ℤ) : Type 0 where
  pub low : neg_ℤ (pos (9223372036854775808 * m)) ≤ℤ x
  pub high : x ≤ℤ pos (9223372036854775808 * m)

abbrev pub IfWide : ℕ → Option ℤ → Type 0
IfWide m found = IfSome found (IsWide m)
