use Rattle.std.proofs.Common.{ℕ, inl, inr, subst, true}
use Rattle.vs_crew.specs.Sharing.{IsEnd, Knows}
use Rattle.vs_crew.specs.Workers.{IsAfter}
use Rattle.vs_crew.specs.declared.worker.After.{After}
use Rattle.vs_crew.specs.declared.worker.After.TheVariants.{Over, Stopped}
use Rattle.vs_crew.proofs.others.Turns.{knows_more}
use Rattle.vs_crew.proofs.worker.go_on.Goals as goal

pub returns-in-Over-clause-ended : goal.returns-in-Over-clause-ended
returns-in-Over-clause-ended g c =
    let stops = g.G.Gate.may_stop c.args.site.now.gate.now in
    let turn = c.args.site.now.turn.now.name in
    let start = c.args.site.now.start.now.value in
    let number = c.args.worker.now.number in
    let asked = subst (λ (a : After). Knows turn start c.loop.worker.number (IsAfter stops c.loop.worker.number a)
    c.ask_once-next.result.0) c.in-Over.is c.ask_once-next.ensures.after in
    knows_more turn start number (IsAfter stops number Over) (IsEnd stops true number) c.ask_once-next.result.0
    (subst (λ (n : ℕ). Knows turn start n (IsAfter stops n Over) c.ask_once-next.result.0) c.loop.invariant.number
    asked) (λ s over. inl over)

pub returns-in-Stopped-clause-ended : goal.returns-in-Stopped-clause-ended
returns-in-Stopped-clause-ended g c =
    let stops = g.G.Gate.may_stop c.args.site.now.gate.now in
    let turn = c.args.site.now.turn.now.name in
    let start = c.args.site.now.start.now.value in
    let number = c.args.worker.now.number in
    let asked = subst (λ (a : After). Knows turn start c.loop.worker.number (IsAfter stops c.loop.worker.number a)
    c.ask_once-next.result.0) c.in-Stopped.is c.ask_once-next.ensures.after in
    knows_more turn start number (IsAfter stops number Stopped) (IsEnd stops true number) c.ask_once-next.result.0
    (subst (λ (n : ℕ). Knows turn start n (IsAfter stops n Stopped) c.ask_once-next.result.0) c.loop.invariant.number
    asked) (λ s stopped. inr stopped)
