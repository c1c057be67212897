use Rattle.std.proofs.Common.{◌≡◌, [], replicate}
use Rattle.vs_plan.specs.Blocks.{pairs_of}
use Rattle.vs_decomp.proofs.stand.fresh.Given as goal

abbrev pub invariant-loop : goal.invariant-loop
invariant-loop l = pairs_of l.stand.vehicles.items ≡ replicate l.counter (l.l, [])
