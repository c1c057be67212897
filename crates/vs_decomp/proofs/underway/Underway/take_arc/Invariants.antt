use Rattle.vs_decomp.specs.Stands.{HaveTaken, standing}
use Rattle.vs_decomp.proofs.underway.Underway.take_arc.Given as goal

abbrev pub invariant-loop : goal.invariant-loop
invariant-loop l =
    HaveTaken l.net l.flow.units.items l.k l.counter (standing l.initial.self.stands.items)
    (standing l.self.stands.items)
