use Rattle.std.proofs.Common.{◌≡◌}
use Rattle.vs_crew.specs.Sharing.{IsIdle, Knows}
use Rattle.vs_crew.specs.Workers.{HasRoom}
use Rattle.vs_crew.proofs.worker.go_on.Given as goal

-- the worker is idle, and has its number and its room
abbrev pub invariant-loop : goal.invariant-loop
invariant-loop g l = record {
  number : l.worker.number ≡ l.fn.worker.number;
  room : HasRoom l.site.instance.now l.worker;
  idle : Knows l.site.turn.now.name l.site.start.now.value l.fn.worker.number (IsIdle l.fn.worker.number) l.seat;
}
