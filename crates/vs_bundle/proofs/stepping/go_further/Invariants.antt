use Rattle.std.proofs.Common.{◌≡◌, length}
use Rattle.vs_multi.specs.Multipliers.{AreWithin}
use Rattle.vs_bundle.proofs.stepping.go_further.Given as goal

-- none of the multipliers is beyond the limits, neither those that have moved nor the others
abbrev pub invariant-loop-i : goal.invariant-loop-i
invariant-loop-i l = record { within : AreWithin l.further; each : length l.further ≡ length l.initial.further }
