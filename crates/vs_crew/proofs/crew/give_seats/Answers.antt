use Rattle.std.proofs.Common.{ℕ, List, length, sym, subst, ap, ◌∙◌, arith}
use Rattle.vs_turn.proofs.CallerLemmas.{length-tickets_from}
use Rattle.vs_crew.specs.Workers.{IsFresh}
use Rattle.vs_crew.proofs.others.FirstSeats.{given_all, given_one}
use Rattle.vs_crew.proofs.crew.give_seats.Goals as goal

pub split-first-requires-clause-two : goal.split-first-requires-clause-two
split-first-requires-clause-two g c =
    let count = ap (λ (l : List ℕ). length l) c.loop-k.invariant.first.tickets ∙ length-tickets_from 0 c.loop-k.k in
    let two = c.loop-k-test.true in
    omega (arith, count, two)

pub loop-k-preserved-in-loop-k : goal.loop-k-preserved-in-loop-k
loop-k-preserved-in-loop-k g c =
    let start = c.args.site.now.start.now.value in
    given_one c.args.site.now.turn.now.name start c.args.site.now.instance.now c.loop-k.crew
    (subst (λ (n : ℕ). IsFresh n start) (sym c.loop-k.auto.crew) c.requires.fresh) c.requires.problem c.loop-k.seat
    c.index-crew-k.result c.loop-k.k c.split-first.result.0 c.split-first.result.1 c.loop-k.invariant
    c.loop-k-test.true (let few = c.loop-k.auto.k in let size = c.loop-k.auto.crew in omega (arith, few, size))
    c.split-first.ensures.first c.split-first.ensures.second c.split-first.ensures.knows

pub loop-k-preserved : goal.loop-k-preserved
loop-k-preserved g c =
    let start = c.args.site.now.start.now.value in
    given_one c.args.site.now.turn.now.name start c.args.site.now.instance.now c.loop-k.crew
    (subst (λ (n : ℕ). IsFresh n start) (sym c.loop-k.auto.crew) c.requires.fresh) c.requires.problem c.loop-k.seat
    c.index-crew-k.result c.loop-k.k c.split-first.result.0 c.split-first.result.1 c.loop-k.invariant
    c.loop-k-test.true (let few = c.loop-k.auto.k in let size = c.loop-k.auto.crew in omega (arith, few, size))
    c.split-first.ensures.first c.split-first.ensures.second c.split-first.ensures.knows

pub returns-clause-each : goal.returns-clause-each
returns-clause-each g c =
    let start = c.args.site.now.start.now.value in
    let size = c.loop-k.auto.crew in
    let some = c.requires.some in
    given_all c.args.site.now.turn.now.name start c.args.site.now.instance.now c.loop-k.crew
    (subst (λ (n : ℕ). IsFresh n start) (sym c.loop-k.auto.crew) c.requires.fresh) c.requires.problem c.loop-k.seat
    c.index-crew-foremost.result c.loop-k.k c.loop-k.invariant
    (let one = c.loop-k-test.false in omega (arith, one)) (omega (arith, some, size))
