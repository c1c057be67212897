use Rattle.vs_check.proofs.Claims.{prove_their_claims}
use Rattle.vs_check.proofs.laws.holding_documents_prove_their_claims.Goals as goal

pub returns : goal.returns
returns c = prove_their_claims
