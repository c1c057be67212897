use Rattle.vs_match.proofs.walks.WalkLaws.{walk_law}
use Rattle.vs_match.proofs.laws.nets_have_the_walk_law.Goals as goal

pub returns : goal.returns
returns c = λ p l matching n is net. walk_law p is l matching n net
