use Rattle.std.proofs.Common.{◌≡◌, length}
use Rattle.vs_crew.specs.Workers.{AreEnlisted}
use Rattle.vs_crew.proofs.crew.enlisted.Given as goal

-- those that have come have the numbers from 0 on
abbrev pub invariant-loop-number : goal.invariant-loop-number
invariant-loop-number l = record {
  count : length l.crew.items ≡ l.number;
  each : AreEnlisted l.instance l.crew.items;
}
