use Rattle.std.proofs.Common.{inl, subst, None, Option}
use Rattle.vs_tree.specs.declared.calls.Take.{Take}
use Rattle.vs_crew.specs.Leaves.{IsAsked}
use Rattle.vs_crew.specs.Sharing.{Knows}
use Rattle.vs_crew.specs.Workers.{IsAfter}
use Rattle.vs_crew.specs.declared.worker.After.TheVariants.{Stopped}
use Rattle.vs_crew.proofs.others.Turns.{knows_more}
use Rattle.vs_crew.proofs.worker.ask_once.Goals as goal

-- a worker that the gate stopped before its take is idle
pub returns-in-None-clause-after : goal.returns-in-None-clause-after
returns-in-None-clause-after g c =
    let stops = g.G.Gate.may_stop c.args.site.now.gate.now in
    let turn = c.args.site.now.turn.now.name in
    let start = c.args.site.now.start.now.value in
    let number = c.args.worker.now.number in
    let asked = subst (λ (take : Option Take).
    Knows turn start number (IsAsked stops number c.ask-seat.new.task take) c.ask-seat.result.0) c.in-None.is
    c.ask-seat.ensures.told in
    knows_more turn start number (IsAsked stops number c.ask-seat.new.task None) (IsAfter stops number Stopped)
    c.ask-seat.result.0 asked (λ s stopped. (stopped.0, inl stopped.1))
