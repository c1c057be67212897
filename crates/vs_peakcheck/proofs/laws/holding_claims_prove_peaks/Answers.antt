use Rattle.vs_peakcheck.proofs.ProvenPeaks.{prove_peaks}
use Rattle.vs_peakcheck.proofs.laws.holding_claims_prove_peaks.Goals as goal

pub returns : goal.returns
returns c = prove_peaks
