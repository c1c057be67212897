use Rattle.vs_peakcheck.proofs.alike.JudgedAlike.{judged_alike}
use Rattle.vs_peakcheck.proofs.laws.alike_claims_are_judged_alike.Goals as goal

pub returns : goal.returns
returns c = judged_alike
