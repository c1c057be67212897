-- Where a climb is slow.
use Rattle.std.specs.Prelude.{◌*◌, ◌<◌, ◌⊎◌, length}
use Rattle.vs_instance.specs.Problem.{Problem}
use Rattle.vs_walk.specs.Large.{IsLarge}
use Rattle.vs_penalty.specs.declared.effort.TheConstants.{FEW_LAYERS, SMALL}

-- it is large, or has more than a few layers, and more offers of trips to layers than a small instance
abbrev pub IsSlow : Problem → Type 0
IsSlow p = IsLarge p ⊎ ((FEW_LAYERS < length p.layers) × (SMALL < length p.trips * length p.layers))
