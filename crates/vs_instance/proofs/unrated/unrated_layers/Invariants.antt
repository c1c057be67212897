use Rattle.std.proofs.Common.{◌≡◌, map, take}
use Rattle.vs_instance.specs.Unrated.{unrated}
use Rattle.vs_instance.proofs.unrated.unrated_layers.Given as goal

-- the layers so far
abbrev pub invariant-loop-l : goal.invariant-loop-l
invariant-loop-l l = l.free.items ≡ map unrated (take l.l l.layers)
