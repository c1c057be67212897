use Rattle.std.proofs.Common.{◌≡◌, length}
use Rattle.vs_cuts.specs.Numbers.{AreNear}
use Rattle.vs_cuts.specs.declared.whole.TheConstants.{MOST_LACK}
use Rattle.vs_cuts.proofs.share_list.ShareList.lower.Given as goal

abbrev pub invariant-loop-i : goal.invariant-loop-i
invariant-loop-i l = record {
  near : AreNear MOST_LACK l.lacks;
  each : length l.lacks ≡ length l.fn.lacks;
}
