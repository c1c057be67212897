use Rattle.std.proofs.Common.{arith}
use Rattle.vs_io.proofs.Bytes.{Appends-append, take-further}
use Rattle.vs_io.proofs.emitting.emit.Goals as goal

pub loop-done-preserved : goal.loop-done-preserved
loop-done-preserved g c = record {
  within = omega (arith, c.in_ok-count.ensures.within);
  appended = rw (← take-further c.args.bytes.now c.loop-done.done c.in_ok-count.count)
      (Appends-append _ _ _ _ _ c.loop-done.invariant.appended c.in_ok-count.ensures.appended);
  kept = omega arith;
}
