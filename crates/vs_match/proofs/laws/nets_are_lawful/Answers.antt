use Rattle.vs_match.proofs.walks.Lawful.{is_lawful}
use Rattle.vs_match.proofs.laws.nets_are_lawful.Goals as goal

pub returns : goal.returns
returns c = λ p l matching n is within net graph. is_lawful p is l within matching n net graph
