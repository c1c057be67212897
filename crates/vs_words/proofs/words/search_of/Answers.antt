use Rattle.std.proofs.Common.{subst, sym, arith}
use Rattle.std.proofs.lemmas.Result.{err_from_is_err_and}
use Rattle.vs_words.specs.declared.command.Effort.{Effort}
use Rattle.vs_words.specs.Words.{AskFor, searched, words_of}
use Rattle.vs_words.proofs.CommandWords.{length-words}
use Rattle.vs_words.proofs.OptionWords.{taken_all, taken_none}
use Rattle.vs_words.proofs.words.search_of.Goals as goal

pub loop-place-init : goal.loop-place-init
loop-place-init c = taken_none c.args.kind _ c.requires

pub loop-place-preserved : goal.loop-place-preserved
loop-place-preserved c = c.in_ok-given.ensures c.args.kind c.loop-place.invariant

pub returns-in_err-given : goal.returns-in_err-given
returns-in_err-given c =
    let p = err_from_is_err_and c.from_residual.result c.from_residual.ensures.1 in
    rw (p.1, p.2) (c.in_err-given.ensures c.args.kind c.loop-place.invariant)

pub returns : goal.returns
returns c =
    let words = words_of c.args.words.now in
    subst (AskFor words) (sym c.command.ensures)
    (subst (λ (e : Effort). AskFor words (searched c.args.kind e)) (sym c.effort.ensures)
    (taken_all c.args.kind words c.loop-place.place c.loop-place.given c.loop-place.invariant
    (λ within. let size = length-words c.args.words.now in
    omega (arith, within, size, c.loop-place-test.false))))
