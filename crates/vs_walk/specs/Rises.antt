-- What a rate becomes that rises.
use Rattle.std.specs.Prelude.{◌≡◌, ◌<◌, ◌≤◌}
use Rattle.vs_walk.specs.Rates.{raised}
use Rattle.vs_walk.specs.declared.rate.Rate.{Rate}

-- it is raised, or what it becomes where it would rise past the greatest one; all else stays
pub record HasRisen (old new : Rate) : Type 0 where
  pub within : raised old.growth old.now ≤ old.most → new.now ≡ raised old.growth old.now
  pub beyond : old.most < raised old.growth old.now → new.now ≡ old.past
  pub least : new.least ≡ old.least
  pub most : new.most ≡ old.most
  pub growth : new.growth ≡ old.growth
  pub past : new.past ≡ old.past
