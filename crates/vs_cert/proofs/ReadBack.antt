-- Behind the records of its instance the text of a search is read as its document.
use Rattle.std.proofs.Common.{List, ℕ, ◌++◌, sym, subst}
use Rattle.vs_document.specs.ReadingBack.{ReadsAs}
use Rattle.vs_document.proofs.CallerLemmas.{read_back}
use Rattle.vs_cert.specs.Laws.{WrittenSearchesAreReadBack}

pub search_read_back : WrittenSearchesAreReadBack
search_read_back bytes read written o s names before rest text has ends is = (
  is.document,
  is.of_state,
  subst (λ (others : List ℕ). ReadsAs (read ++ others) o.problem names before is.document) (sym is.bytes_are)
      (read_back bytes read o.problem names before rest is.document text has ends is.has_text),
)
