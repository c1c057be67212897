use Rattle.std.proofs.Common.{ap}
use Rattle.vs_words.proofs.ShortNumbers.{parses_number}
use Rattle.std.specs.Result.{result_ok}
use Rattle.vs_words.proofs.words.number_up_to.Goals as goal

pub returns-in_err-n : goal.returns-in_err-n
returns-in_err-n c = rw c.from_residual.ensures (λ n is.
    let parsed = parses_number c.args.digits c.args.word.now c.parse.result c.requires is.digits
    c.parse.ensures.value.0 in
    let none = c.in_err-n.was in
    let value = c.ok.ensures.value in
    let ok = ap result_ok parsed in cc)
