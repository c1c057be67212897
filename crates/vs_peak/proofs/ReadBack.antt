-- Behind the records of its instance the text of claims is read as those claims.
use Rattle.std.proofs.Common.{map, refl}
use Rattle.std.proofs.lemmas.List.Elements.{All-cons}
use Rattle.vs_reader.specs.Rows.{IsPlainRow}
use Rattle.vs_reader.proofs.CallerLemmas.{stands_behind, stands_counts}
use Rattle.vs_peakcheck.specs.PeakRows.{head_row, peak_rows, peak_text, written_peak}
use Rattle.vs_peak.specs.Laws.{WrittenPeaksAreReadBack}
use Rattle.vs_peak.proofs.PlainRows.{plain_head, plain_rows}
use Rattle.vs_peak.proofs.WrittenSays.{text_form, text_says}

pub read_back : WrittenPeaksAreReadBack
read_back bytes read p names before rest claimed text has ends layers trips are =
    let written = peak_text p names claimed in
    let counts = stands_counts bytes p names before rest text in
    let plain = All-cons IsPlainRow head_row (map (written_peak names) (peak_rows p claimed)) plain_head
    (plain_rows names layers trips (peak_rows p claimed) (text_form p names counts claimed are)) in
    record {
      rest = written;
      instance = stands_behind bytes read p names before rest written text has ends plain refl;
      claims = text_says p names counts claimed are;
    }
