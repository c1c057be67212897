use Rattle.std.proofs.Common.{◌+◌, ◌*◌}
use Rattle.test_turn.proofs.turns.+add_at_once+fn-add_at_once-join+arg2.Given as goal

abbrev pub decreases-add_at_once : goal.decreases-add_at_once
decreases-add_at_once g l = 2 * l.seats

abbrev pub decreases-join+arg2 : goal.decreases-join+arg2
decreases-join+arg2 g l = 2 * l.maker + 1
