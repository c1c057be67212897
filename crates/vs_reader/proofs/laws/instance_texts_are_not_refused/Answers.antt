use Rattle.vs_reader.proofs.texts.TextLemmas.{refused_none}
use Rattle.vs_reader.proofs.laws.instance_texts_are_not_refused.Goals as goal

pub returns : goal.returns
returns c = λ bytes p names before rest refused stands is. refused_none bytes refused p names before rest is stands
