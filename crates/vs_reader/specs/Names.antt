-- Names, and the numbers that they stand for.
use Rattle.std.specs.Prelude.{◌≡◌, ℕ, ◌≤◌, List, [], length, All, Some, slice_get, slice_index_or, ◌⊎◌}
use Rattle.vs_instance.specs.Problem.{Problem}
use Rattle.vs_reader.specs.Rows.{Field}

-- a letter or a digit, or one of the signs _ . : -
abbrev pub IsNameByte : ℕ → Type 0
IsNameByte b =
    ((65 ≤ b) × (b ≤ 90))
    ⊎ (((97 ≤ b) × (b ≤ 122)) ⊎ (((48 ≤ b) × (b ≤ 57)) ⊎ ((b ≡ 95) ⊎ ((b ≡ 46) ⊎ ((b ≡ 58) ⊎ (b ≡ 45))))))

pub record IsName (field : Field) : Type 0 where
  pub some : 1 ≤ length field
  pub few : length field ≤ 32
  pub bytes : All IsNameByte field

-- the names of stops, layers and trips, each kind apart, in the order of their numbers
pub record NameLists : Type 0 where
  pub stops : List Field
  pub layers : List Field
  pub trips : List Field

-- the name of number k
abbrev pub Names : List Field → Field → ℕ → Type 0
Names names field k = slice_get names k ≡ Some field

abbrev pub name_of : List Field → ℕ → Field
name_of names k = slice_index_or names k []

-- the names' lists have the instance's counts
pub record HaveCounts (p : Problem) (names : NameLists) : Type 0 where
  pub stops : length names.stops ≡ p.stops
  pub layers : length names.layers ≡ length p.layers
  pub trips : length names.trips ≡ length p.trips
