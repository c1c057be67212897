use Rattle.std.proofs.Common.{◌≡◌, length}
use Rattle.vs_penalty.proofs.choices.number_trips.Given as goal

abbrev pub invariant-loop-trip : goal.invariant-loop-trip
invariant-loop-trip l = length l.vehicles ≡ length l.initial.vehicles
