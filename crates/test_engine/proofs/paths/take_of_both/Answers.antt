use Rattle.std.proofs.Common.{◌∙◌, ap, length, length-set}
use Rattle.test_engine.proofs.paths.take_of_both.Goals as goal

pub returns-clause-size : goal.returns-clause-size
returns-clause-size c = ap length c.in-Some.ensures.left ∙ length-set c.args.heap.now.waiting _ _ ∙ c.requires
