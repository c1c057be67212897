use Rattle.std.proofs.Common.{arith}
use Rattle.vs_messages.proofs.ray.may_run_some.Goals as goal

pub has-requires : goal.has-requires
has-requires c = omega (arith, c.requires.layer, c.layers.ensures.instance.few_layers)
