use Rattle.vs_peakcheck.proofs.alike.JudgedAlike.{rows_judged_alike}
use Rattle.vs_peakcheck.proofs.laws.claims_of_rows_are_judged_alike.Goals as goal

pub returns : goal.returns
returns c = rows_judged_alike
