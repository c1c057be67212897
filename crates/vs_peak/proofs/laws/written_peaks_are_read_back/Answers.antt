use Rattle.vs_peak.proofs.ReadBack.{read_back}
use Rattle.vs_peak.proofs.laws.written_peaks_are_read_back.Goals as goal

pub returns : goal.returns
returns c = read_back
