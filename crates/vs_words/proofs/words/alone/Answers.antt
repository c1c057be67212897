use Rattle.std.proofs.Common.{◌∙◌, sym}
use Rattle.vs_words.proofs.CommandWords.{alone_bad_second, length-words}
use Rattle.vs_words.proofs.words.alone.Goals as goal

pub returns-else-words-eq1 : goal.returns-else-words-eq1
returns-else-words-eq1 c =
    alone_bad_second c.args.plain _ c.requires.alone c.requires.first
    (λ one. c.if-words-eq1.false (sym (length-words c.args.words.now) ∙ one))
