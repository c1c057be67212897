use Rattle.vs_make.proofs.MadeText.{made_text}
use Rattle.vs_make.proofs.laws.made_texts_are_instances.Goals as goal

pub returns : goal.returns
returns c = made_text
