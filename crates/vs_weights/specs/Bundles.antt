-- How many trips and layers bundles have cuts of.
use Rattle.std.specs.Prelude.{◌≡◌, ℕ, All, List, length, vec_len}
use Rattle.vs_cuts.specs.Cuts.{trips_of_found}
use Rattle.vs_weights.specs.declared.bundle.Bundle.{Bundle}
use Rattle.vs_cuts.specs.declared.found.Found.{Found}

abbrev pub trips_of_all : Bundle → ℕ
trips_of_all bundle = bundle.lacking.free.trips

abbrev pub layers_of : Bundle → ℕ
layers_of bundle = vec_len bundle.layers

-- it has so many trips and layers
pub record HasSizes (trips layers : ℕ) (bundle : Bundle) : Type 0 where
  pub each_trip : trips_of_all bundle ≡ trips
  pub each_layer : layers_of bundle ≡ layers

-- a circulation of each of so many layers, among so many trips
pub record AreFound (trips layers : ℕ) (found : List Found) : Type 0 where
  pub each_layer : length found ≡ layers
  pub each_trip : All (λ one. trips_of_found one ≡ trips) found
