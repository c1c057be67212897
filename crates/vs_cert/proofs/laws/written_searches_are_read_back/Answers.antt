use Rattle.vs_cert.proofs.ReadBack.{search_read_back}
use Rattle.vs_cert.proofs.laws.written_searches_are_read_back.Goals as goal

pub returns : goal.returns
returns c = search_read_back
