use Rattle.vs_peak.proofs.PeaksOwed.{peaks_hold}
use Rattle.vs_peak.proofs.answer_laws.written_peaks_hold.Goals as goal

pub returns : goal.returns
returns c = peaks_hold
