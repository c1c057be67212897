-- What a list of declared names keeps.
use Rattle.std.specs.Prelude.{◌≡◌, ◌<◌, ◌^◌, List, length, All, AllPairs}
use Rattle.vs_reader.specs.Rows.{Field}
use Rattle.vs_reader.specs.Names.{IsName}

-- each is a name, no two are the same, and 32 bits number them
pub record AreNames (names : List Field) : Type 0 where
  pub each : All IsName names
  pub apart : AllPairs (λ f g. ¬ (f ≡ g)) names
  pub few : length names < 2 ^ 32
