use Rattle.std.proofs.Common.{inr, sym, subst, Option, IfSome}
use Rattle.vs_instance.specs.Problem.{Problem}
use Rattle.vs_crew.specs.Found.{IsFinding}
use Rattle.vs_crew.specs.Leaves.{HasFound, HoldsLeaf}
use Rattle.vs_crew.specs.Sharing.{HasLeft}
use Rattle.vs_crew.specs.Workers.{IsAfter}
use Rattle.vs_crew.specs.declared.finding.Finding.{Finding}
use Rattle.vs_crew.specs.declared.worker.After.TheVariants.{Stopped}
use Rattle.vs_crew.proofs.others.Turns.{knows_more}
use Rattle.vs_crew.proofs.worker.work_on.Goals as goal

pub hand_in-requires : goal.hand_in-requires
hand_in-requires g c =
    let worker = c.args.worker.now in
    record {
      found = knows_more c.args.site.now.turn.now.name c.args.site.now.start.now.value worker.number
          (HoldsLeaf worker.number c.args.leaf worker.task) (HasFound worker.number c.args.leaf c.in-Ok-Some.finding)
          c.args.seat c.requires.holds
          (λ s holds. record {
            task = worker.task;
            has = holds;
            found = subst (λ (p : Problem). IsFinding p worker.task c.in-Ok-Some.finding) (sym c.requires.site.problem)
                (subst (λ (found : Option Finding). IfSome found (IsFinding c.args.site.now.instance.now worker.task))
                c.in-Ok-Some.field-0-is c.in-Ok-Some.ensures.found);
          });
    }

-- a worker that gave its leaf back where the gate ended the first round has left
pub returns-in-Ok-None-clause-after : goal.returns-in-Ok-None-clause-after
returns-in-Ok-None-clause-after g c =
    let stops = g.G.Gate.may_stop c.args.site.now.gate.now in
    let number = c.args.worker.now.number in
    let may = c.in-Ok-None.ensures.ended c.in-Ok-None.field-0-is in
    knows_more c.args.site.now.turn.now.name c.args.site.now.start.now.value number (HasLeft number)
    (IsAfter stops number Stopped) c.give_up.result c.give_up.ensures.left (λ s left. (may, inr left))
