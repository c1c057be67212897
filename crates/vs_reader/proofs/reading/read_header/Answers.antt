use Rattle.std.proofs.Common.{subst, Bool}
use Rattle.vs_reader.specs.Left.{GivesNext}
use Rattle.vs_reader.proofs.texts.HeaderLemmas.{header_read, no_header}
use Rattle.vs_reader.proofs.reading.read_header.Goals as goal

pub returns-then-not-branch : goal.returns-then-not-branch
returns-then-not-branch c = λ rows left.
    no_header rows
    (subst (λ (b : Bool). GivesNext c.next.new.self rows b) c.if-not-branch.true (c.in_ok-next.ensures rows left))

pub returns : goal.returns
returns c = λ rows left.
    header_read c.next.new.self rows c.of.result
    (subst (λ (b : Bool). GivesNext c.next.new.self rows b) c.if-not-branch.false (c.in_ok-next.ensures rows left))
    c.of.ensures
