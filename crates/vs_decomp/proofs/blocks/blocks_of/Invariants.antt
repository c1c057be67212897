use Rattle.std.proofs.Common.{[]}
use Rattle.vs_decomp.specs.Stands.{IsAt, standing}
use Rattle.vs_decomp.proofs.blocks.blocks_of.Given as goal

abbrev pub invariant-loop-v : goal.invariant-loop-v
invariant-loop-v l = IsAt l.net l.fn.l l.flow.units.items l.v [] (standing l.underway.stands.items)
