use Rattle.vs_peakcheck.proofs.alike.AlikeClaims.{claims_alike}
use Rattle.vs_peakcheck.proofs.laws.claims_of_rows_are_alike.Goals as goal

pub returns : goal.returns
returns c = claims_alike
