use Rattle.std.proofs.Common.{◌≡◌, length}
use Rattle.vs_path.proofs.loads.Loads.new.Given as goal

abbrev pub invariant-loop : goal.invariant-loop
invariant-loop l = length l.lists.items ≡ l.counter
