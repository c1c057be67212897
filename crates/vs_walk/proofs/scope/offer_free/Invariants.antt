use Rattle.std.proofs.Common.{◌≡◌, length}
use Rattle.vs_multi.specs.Multipliers.{AreWithin}
use Rattle.vs_walk.proofs.scope.offer_free.Given as goal

abbrev pub invariant-loop-i : goal.invariant-loop-i
invariant-loop-i l = record {
  each : length l.offered ≡ length l.initial.offered;
  within : AreWithin l.offered;
}
