use Rattle.std.proofs.Common.{ℕ, ◌∙◌, sym, arith, subst}
use Rattle.std.proofs.lemmas.Bool.{ltb-true, ltb-false}
use Rattle.vs_words.specs.Words.{IsNumberUpTo, Word, most_trips}
use Rattle.vs_words.proofs.CommandWords.{count_accepted, count_bad_second, count_bad_third, length-words, word_read}
use Rattle.vs_words.proofs.words.count_of.Goals as goal

pub returns-in_default : goal.returns-in_default
returns-in_default c =
    count_bad_second c.args.kind _ c.requires (λ count second.
    let none = c.in_default.ensures.lookup in
    let short = ltb-false _ _ (sym none.0) in
    let within = second.within in
    absurd (omega (arith, length-words c.args.words.now)))

pub returns-in-None : goal.returns-in-None
returns-in-None c =
    let found = c.in-Some.ensures.lookup in
    let read = word_read c.args.words.now 1 c.in-Some.count.now (ltb-true _ _ (sym found.0)) found.1 in
    count_bad_second c.args.kind _ c.requires (λ count second n is. c.in-None.ensures n
    (subst (λ (m : ℕ). IsNumberUpTo 6 m c.as_str.result.now n) (sym c.most.ensures)
    (subst (λ (x : Word). IsNumberUpTo 6 (most_trips c.args.kind) x n)
    (sym second.word_is ∙ read.word_is ∙ sym c.as_str.ensures.value) is)))

pub returns-in_default-number_up_to : goal.returns-in_default-number_up_to
returns-in_default-number_up_to c =
    let found = c.in-Some.ensures.lookup in
    let read = word_read c.args.words.now 1 c.in-Some.count.now (ltb-true _ _ (sym found.0)) found.1 in
    count_bad_third c.args.kind _ _ c.in-Some-number_up_to.n c.requires read
    (subst (λ (x : Word). IsNumberUpTo 6 (most_trips c.args.kind) x c.in-Some-number_up_to.n) c.as_str.ensures.value
    (subst (λ (m : ℕ). IsNumberUpTo 6 m c.as_str.result.now c.in-Some-number_up_to.n) c.most.ensures
    c.in-Some-number_up_to.ensures))
    (λ two. c.if-words-eq2.false (sym (length-words c.args.words.now) ∙ two))

pub returns-in-Some-number_up_to : goal.returns-in-Some-number_up_to
returns-in-Some-number_up_to c =
    let found = c.in-Some.ensures.lookup in
    let read = word_read c.args.words.now 1 c.in-Some.count.now (ltb-true _ _ (sym found.0)) found.1 in
    count_accepted c.args.kind _ _ c.in-Some-number_up_to.n c.command.result c.requires read
    (subst (λ (x : Word). IsNumberUpTo 6 (most_trips c.args.kind) x c.in-Some-number_up_to.n) c.as_str.ensures.value
    (subst (λ (m : ℕ). IsNumberUpTo 6 m c.as_str.result.now c.in-Some-number_up_to.n) c.most.ensures
    c.in-Some-number_up_to.ensures))
    (length-words c.args.words.now ∙ c.if-words-eq2.true) c.command.ensures
