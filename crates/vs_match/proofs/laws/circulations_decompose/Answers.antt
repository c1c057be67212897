use Rattle.vs_match.proofs.decomposition.Dividing.{circulation_decomposes}
use Rattle.vs_match.proofs.laws.circulations_decompose.Goals as goal

pub returns : goal.returns
returns c = λ p l n units is lawful circulates. circulation_decomposes p is l n lawful units circulates
