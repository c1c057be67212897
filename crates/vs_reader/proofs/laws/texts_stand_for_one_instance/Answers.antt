use Rattle.vs_reader.proofs.texts.TextLemmas.{one_reading}
use Rattle.vs_reader.proofs.laws.texts_stand_for_one_instance.Goals as goal

pub returns : goal.returns
returns c = λ bytes p q names others before until rest more stands also.
    one_reading bytes p q names others before until rest more stands also
