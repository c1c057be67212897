use Rattle.vs_peak.proofs.ClaimedPeaks.{PeaksSoFar}
use Rattle.vs_peak.proofs.claiming.peaks.Given as goal

-- the peaks so far are claimed
abbrev pub invariant-loop-l : goal.invariant-loop-l
invariant-loop-l l = PeaksSoFar l.instance l.all.items l.l
