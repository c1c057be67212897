use Rattle.vs_path.proofs.correcting.SignRule.{no-negative-cycle}
use Rattle.vs_path.proofs.reach.sign_rule_leaves_no_negative_cycle.Goals as goal

pub returns : goal.returns
returns c = no-negative-cycle
