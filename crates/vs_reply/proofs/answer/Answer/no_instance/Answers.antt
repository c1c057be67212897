use Rattle.std.proofs.Common.{subst}
use Rattle.vs_reader.specs.ReadErrors.{RefusesAs}
use Rattle.vs_reader.specs.Texts.{IsRefused}
use Rattle.vs_reply.proofs.owing.OwedAnswers.{refuses_text}
use Rattle.vs_reply.proofs.answer.Answer.no_instance.Goals as goal

pub returns-in-Refused : goal.returns-in-Refused
returns-in-Refused c = λ bytes is.
    refuses_text bytes c.in-Refused.refused c.refused.result
    (subst (RefusesAs (IsRefused bytes)) c.in-Refused.is is) c.refused.ensures
