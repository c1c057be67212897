use Rattle.std.proofs.Common.{◌≡◌, length}
use Rattle.vs_penalty.proofs.choices.number_vehicles.Given as goal

abbrev pub invariant-loop-block : goal.invariant-loop-block
invariant-loop-block l = length l.vehicles ≡ length l.initial.vehicles
