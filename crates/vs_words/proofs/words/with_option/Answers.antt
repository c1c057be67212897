use Rattle.std.proofs.Common.{ℕ, ◌+◌, ◌<◌, subst, sym}
use Rattle.vs_words.specs.declared.words.Given.{Given}
use Rattle.vs_words.specs.Words.{AreOptionsTaken, words_of}
use Rattle.vs_words.proofs.CommandWords.{length-words}
use Rattle.vs_words.proofs.OptionWords.{bad_again, bad_name, bad_number, taken_more}
use Rattle.vs_words.proofs.words.with_option.Goals as goal

pub returns-in_default : goal.returns-in_default
returns-in_default c kind taken =
    bad_name kind _ c.args.place c.args.given taken
    (subst (λ (n : ℕ). c.args.place < n) (sym (length-words c.args.words.now)) c.requires) c.in_default.ensures

pub returns-then-has : goal.returns-then-has
returns-then-has c kind taken =
    bad_again kind _ c.args.place c.args.given taken
    (subst (λ (n : ℕ). c.args.place < n) (sym (length-words c.args.words.now)) c.requires) c.in-Some.setting
    c.in-Some.ensures (c.has.ensures.0 c.if-has.true)

pub returns-in-None : goal.returns-in-None
returns-in-None c kind taken =
    bad_number kind _ c.args.place c.args.given taken
    (subst (λ (n : ℕ). c.args.place < n) (sym (length-words c.args.words.now)) c.requires) c.in-Some.setting
    c.in-Some.ensures (λ some. let is = c.has.ensures.1 some in let no = c.if-has.false in cc) c.in-None.ensures

pub returns-in-Some-number_at : goal.returns-in-Some-number_at
returns-in-Some-number_at c kind taken =
    let words = words_of c.args.words.now in
    subst (λ (g : Given). AreOptionsTaken kind words (c.args.place + 2) g) (sym c.with.ensures)
    (taken_more kind words c.args.place c.args.given taken
    (subst (λ (n : ℕ). c.args.place < n) (sym (length-words c.args.words.now)) c.requires) c.in-Some.setting
    c.in-Some.ensures (λ some. let is = c.has.ensures.1 some in let no = c.if-has.false in cc)
    c.in-Some-number_at.n c.in-Some-number_at.ensures)
