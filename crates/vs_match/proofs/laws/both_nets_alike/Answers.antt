use Rattle.vs_match.specs.declared.matching.Matching.TheVariants.{First, Latest}
use Rattle.vs_match.proofs.walks.Lawful.{is_lawful}
use Rattle.vs_match.proofs.composition.Aggregating.{nets_alike}
use Rattle.vs_match.proofs.laws.both_nets_alike.Goals as goal

pub returns : goal.returns
returns c = λ p l n m chosen cost inst known net right net' right'.
    nets_alike p inst l chosen n m (is_lawful p inst l.0 known First n net right)
    (is_lawful p inst l.0 known Latest m net' right') cost
