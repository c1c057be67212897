-- What a walker works with.
use Rattle.std.specs.Prelude.{◌≡◌, ℕ, length}
use Rattle.vs_instance.specs.Problem.{Problem}
use Rattle.vs_multi.specs.Multipliers.{AreMultipliers}
use Rattle.vs_walk.specs.Choices.{IsDraftOf}
use Rattle.vs_walk.specs.Penalties.{ArePenalties}
use Rattle.vs_walk.specs.declared.nearby.Nearby.{Nearby}
use Rattle.vs_walk.specs.declared.walker.Walker.{Walker}

-- vehicles with an entry for each of so many trips
pub record AreVehiclesOf (trips : ℕ) (nearby : Nearby) : Type 0 where
  pub vehicles : length nearby.vehicles.items ≡ trips
  pub drawn : length nearby.drawn.items ≡ trips

-- it has multipliers of the instance, penalties, choices, and space, with an entry for each trip
pub record IsWalkerFor (p : Problem) (walker : Walker) : Type 0 where
  pub best : AreMultipliers p walker.best.items
  pub penalties : ArePenalties p walker.penalties
  pub pool : walker.pool.trips ≡ length p.trips
  pub draft : IsDraftOf (length p.trips) (length p.layers) walker.draft
  pub next : IsDraftOf (length p.trips) (length p.layers) walker.next
  pub sets : length walker.sets.items ≡ length p.trips
  pub nearby : AreVehiclesOf (length p.trips) walker.nearby
  pub offered : AreMultipliers p walker.offered.items
