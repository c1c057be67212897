use Rattle.vs_node.specs.SplitRule.{HasChoice, HoldsOfNone}
use Rattle.vs_node.proofs.splitting.first_with_choice.Given as goal

-- no trip so far has a choice
abbrev pub invariant-loop-i : goal.invariant-loop-i
invariant-loop-i l = HoldsOfNone (HasChoice l.sets) l.i
