use Rattle.std.proofs.Common.{length, ◌-◌, ◌≤◌, take}
use Rattle.vs_io.specs.Bytes.{Appends}
use Rattle.vs_io.proofs.emitting.emit.Given as goal

abbrev pub invariant-loop-done : goal.invariant-loop-done
invariant-loop-done g l = record {
  within : l.done ≤ length l.bytes;
  appended : Appends (g.O.Sink.taken l.initial.sink) (g.O.Sink.taken l.sink) (take l.done l.bytes);
  kept : g.O.Sink.faults l.initial.sink ≤ g.O.Sink.faults l.sink;
}

abbrev pub decreases-loop-done : goal.decreases-loop-done
decreases-loop-done g l = length l.bytes - l.done
