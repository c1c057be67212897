-- Which instances are large.
use Rattle.std.specs.Prelude.{◌<◌, length}
use Rattle.vs_instance.specs.Problem.{Problem}
use Rattle.vs_instance.specs.declared.limits.TheConstants.{USUAL_TRIPS}

-- there are more trips than a text of version 1 or 2 may have
abbrev pub IsLarge : Problem → Type 0
IsLarge p = USUAL_TRIPS < length p.trips
