use Rattle.mdvsp.proofs.once.SearchesAgree.{searches_agree}
use Rattle.mdvsp.proofs.laws.searches_agree.Goals as goal

pub returns : goal.returns
returns c = searches_agree
