use Rattle.std.proofs.Common.{◌*◌}
use Rattle.vs_cuts.specs.Numbers.{IsNear}
use Rattle.vs_cuts.specs.declared.whole.TheConstants.{MOST_LACK}
use Rattle.vs_cuts.proofs.share_list.ShareList.lack.Given as goal

abbrev pub invariant-loop-i : goal.invariant-loop-i
invariant-loop-i l = IsNear (l.i * MOST_LACK) l.lack
