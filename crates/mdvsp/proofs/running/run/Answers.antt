use Rattle.std.proofs.Common.{ℕ, List, IfOk, refl, subst}
use Rattle.mdvsp.specs.Answered.{IsOwedFor}
use Rattle.mdvsp.proofs.AskedLimits.{asked_within}
use Rattle.mdvsp.proofs.owing.RunEnds.{command_ends, unread_ends, wrong_words_end}
use Rattle.mdvsp.proofs.running.run.Goals as goal

pub answer_to-requires-clause-limits : goal.answer_to-requires-clause-limits
answer_to-requires-clause-limits g c κs within = asked_within _ c.in-Ok.command c.in-Ok.ensures

pub returns-in-Ok-input_of-clause-ends : goal.returns-in-Ok-input_of-clause-ends
returns-in-Ok-input_of-clause-ends g c =
    command_ends _ c.in-Ok.command c.in-Ok-input_of.bytes.items c.answer_to.result c.say.result c.in-Ok.ensures
    c.in-Ok-input_of.ensures.read
    (subst (λ (bytes : List ℕ). IfOk c.answer_to.result (IsOwedFor c.in-Ok.command bytes)) c.deref.ensures.value
    c.answer_to.ensures)
    c.say.ensures.said

pub returns-in-Ok-input_of-clause-untouched : goal.returns-in-Ok-input_of-clause-untouched
returns-in-Ok-input_of-clause-untouched g c =
    λ never. c.in-Ok-input_of.ensures.untouched (λ reads. never (c.in-Ok.command, c.in-Ok.ensures, reads))

pub returns-in-Err-input_of-clause-ends : goal.returns-in-Err-input_of-clause-ends
returns-in-Err-input_of-clause-ends g c =
    unread_ends _ c.in-Ok.command c.in-Err-input_of.error c.unread.result c.unread.ensures c.in-Ok.ensures refl
    c.in-Err-input_of.ensures.failed

pub returns-in-Err-input_of-clause-untouched : goal.returns-in-Err-input_of-clause-untouched
returns-in-Err-input_of-clause-untouched g c =
    λ never. c.in-Err-input_of.ensures.untouched (λ reads. never (c.in-Ok.command, c.in-Ok.ensures, reads))

pub returns-in-Err-clause-ends : goal.returns-in-Err-clause-ends
returns-in-Err-clause-ends g c =
    wrong_words_end _ c.in-Err.bad.0 c.bad_word.result c.say-in-Err.result refl c.in-Err.ensures c.bad_word.ensures
    c.say-in-Err.ensures.said
