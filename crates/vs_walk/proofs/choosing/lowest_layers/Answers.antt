use Rattle.std.proofs.Common.{rules}
use Rattle.vs_walk.specs.Penalties.{AreGiven}
use Rattle.vs_walk.proofs.GivenLayers.{given-restrict, given-single}
use Rattle.vs_walk.proofs.choosing.lowest_layers.Goals as goal

-- each trip is given to a layer
all_given : (c : goal.After-loop-i) → AreGiven c.args.instance.now c.args.runs.now c.loop-i.chosen
all_given c = search rules

pub returns-clause-restriction : goal.returns-clause-restriction
returns-clause-restriction c = given-restrict _ _ _ (all_given c)

pub returns-clause-single : goal.returns-clause-single
returns-clause-single c = given-single _ _ _ (all_given c)
