use Rattle.std.proofs.lemmas.Bool.{ltb-true}
use Rattle.std.proofs.Common.{sym}
use Rattle.vs_words.proofs.CommandWords.{is_word_by}
use Rattle.vs_words.proofs.words.is_word.Goals as goal

pub returns-in-Some : goal.returns-in-Some
returns-in-Some c =
    let found = c.in-Some.ensures.lookup in
    is_word_by c.args.words.now c.args.place c.in-Some.word.now c.args.wanted.now c.as_str.result.now c.eq.result
    (ltb-true _ _ (sym found.0)) found.1 c.as_str.ensures.value c.eq.ensures
