use Rattle.vs_peakcheck.proofs.rows.RefusedOnce.{not_refused_claims}
use Rattle.vs_peakcheck.proofs.laws.claims_are_not_refused.Goals as goal

pub returns : goal.returns
returns c = not_refused_claims
