use Rattle.std.proofs.Common.{◌≡◌, [], replicate}
use Rattle.vs_decomp.specs.Stands.{standing}
use Rattle.vs_decomp.proofs.underway.empty_stands.Given as goal

abbrev pub invariant-loop : goal.invariant-loop
invariant-loop l = standing l.stands.items ≡ replicate l.counter []
