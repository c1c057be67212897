use Rattle.std.proofs.Common.{◌-◌, ◌≤◌, length}
use Rattle.vs_crew.specs.Sharing.{KnowsEnds}
use Rattle.vs_crew.specs.Workers.{AreDone}
use Rattle.vs_crew.proofs.crew.joined.Given as goal

-- the seat is that of the workers that were taken from the end, and the others have ended too
abbrev pub invariant-loop-worker : goal.invariant-loop-worker
invariant-loop-worker g l = record {
  done : AreDone (g.G.Gate.may_stop l.site.gate.now) l.site.turn.now.name l.site.start.now.value l.crew.items;
  fewer : length l.crew.items ≤ length l.fn.crew.items;
  ends : KnowsEnds (g.G.Gate.may_stop l.site.gate.now) l.site.turn.now.name l.site.start.now.value (length l.crew.items)
      (length l.fn.crew.items - length l.crew.items) l.over l.seat;
}

abbrev pub decreases-loop-worker : goal.decreases-loop-worker
decreases-loop-worker g l = length l.crew.items
