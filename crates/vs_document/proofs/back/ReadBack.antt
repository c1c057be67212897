-- Behind the records of its instance the text of a document is read as that document.
use Rattle.std.proofs.Common.{refl}
use Rattle.vs_reader.proofs.CallerLemmas.{stands_behind, stands_counts}
use Rattle.vs_rows.specs.DocumentRows.{document_rows}
use Rattle.vs_document.specs.Laws.{WrittenDocumentsAreReadBack}
use Rattle.vs_document.proofs.back.InstanceNames.{instance_names}
use Rattle.vs_rows.proofs.CallerLemmas.{stands as stands_for}
use Rattle.vs_rows.proofs.CallerLemmas.{plain_document}

pub read_back : WrittenDocumentsAreReadBack
read_back bytes read p names before rest d text has ends has_text =
    let written = document_rows p names d in
    let instance = text.text.makes.instance in
    let counts = stands_counts bytes p names before rest text in
    let have = instance_names bytes p names before rest text in
    let plain = plain_document names have.layers have.trips p d instance counts has_text in
    record {
      rest = written;
      instance = stands_behind bytes read p names before rest written text has ends plain refl;
      document = stands_for p names instance counts d has_text;
    }
