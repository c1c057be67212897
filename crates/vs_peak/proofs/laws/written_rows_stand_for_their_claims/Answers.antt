use Rattle.vs_peak.proofs.WrittenSays.{text_says}
use Rattle.vs_peak.proofs.laws.written_rows_stand_for_their_claims.Goals as goal

pub returns : goal.returns
returns c = λ p names claimed counts are. text_says p names counts claimed are
