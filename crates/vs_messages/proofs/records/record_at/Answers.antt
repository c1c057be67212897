use Rattle.std.proofs.Common.{◌≡◌, ℕ, Bool, subst, arith}
use Rattle.vs_reader.specs.Left.{GivesNext}
use Rattle.vs_messages.specs.Given.{WasGiven}
use Rattle.vs_messages.proofs.GivenLemmas.{is_at, no_more, none_given, one_more}
use Rattle.vs_messages.proofs.records.record_at.Goals as goal

pub loop-count-init : goal.loop-count-init
loop-count-init c = record {
  given = λ rows has. none_given rows c.new-records.result (c.new-records.ensures.left rows has);
}

pub returns-then-not-branch : goal.returns-then-not-branch
returns-then-not-branch c = λ rows has.
    let was = c.loop-count.invariant.given rows has in
    no_more rows c.loop-count._count c.args.number c.loop-count.records c.next.new.self was
    c.loop-count-test.true
    (subst (λ (b : Bool). GivesNext c.next.new.self was.left b) c.if-not-branch.true
    (c.in_ok-next.ensures was.left was.are_left))

pub loop-count-preserved : goal.loop-count-preserved
loop-count-preserved c = record {
  given = λ rows has.
      let was = c.loop-count.invariant.given rows has in
      one_more rows c.loop-count._count c.loop-count.records c.next.new.self was
      (subst (λ (b : Bool). GivesNext c.next.new.self was.left b) c.if-not-branch.false
      (c.in_ok-next.ensures was.left was.are_left));
}

pub returns : goal.returns
returns c = λ rows has.
    let was = c.loop-count.invariant.given rows has in
    let all : c.loop-count._count ≡ c.args.number =
    omega (arith, c.loop-count-test.false, c.loop-count.auto._count-end) in
    is_at rows c.args.number c.loop-count.records
    (subst (λ (n : ℕ). WasGiven rows n c.loop-count.records) all was) c.requires
