use Rattle.std.proofs.Common.{take}
use Rattle.vs_ship.specs.Shipments.{IsSentAlong, GainAlong}
use Rattle.vs_ship.proofs.draining.carry.Given as goal

-- the steps so far are taken
abbrev pub invariant-loop-step : goal.invariant-loop-step
invariant-loop-step l = record {
  sent : IsSentAlong l.fn.units l.units l.path l.step-index;
  gain : GainAlong l.fn.units l.units (take l.step-index l.path);
}
