-- Numbers by the places at which they first came.
use Rattle.std.specs.Prelude.{◌≡◌, ℕ, ◌==◌, if◌then◌else◌, List, [], ◌∷◌, ◌++◌, length, count_by, slice_get, slice_index_or, Option, Some, None}
use Rattle.std.specs.List.{list_any}
use Rattle.std.specs.Option.{is_some}

-- the numbers that came, which are below a limit, each where it first came
pub record Numbered : Type 0 where
  pub limit : ℕ
  pub numbers : List ℕ

-- one more number comes
abbrev pub with_number : List ℕ → ℕ → List ℕ
with_number numbers n = if list_any (λ m. m == n) numbers then numbers else numbers ++ n ∷ []

-- the place of a number, none where it didn't come
abbrev pub place_in : List (Option ℕ) → ℕ → Option ℕ
place_in places n = slice_index_or places n None

-- these are the places of the numbers
pub record ArePlacesOf (places : List (Option ℕ)) (numbers : List ℕ) : Type 0 where
  pub count : count_by is_some places ≡ length numbers
  pub stands : (n k : ℕ) → place_in places n ≡ Some k → slice_get numbers k ≡ Some n
  pub found : (n k : ℕ) → slice_get numbers k ≡ Some n → place_in places n ≡ Some k
