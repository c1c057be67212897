use Rattle.vs_circ.specs.shipping.Refitted.{AreRefitted}
use Rattle.vs_circ.proofs.refitting.refit.Given as goal

-- the arcs of the trips so far are fitted
abbrev pub invariant-loop-i : goal.invariant-loop-i
invariant-loop-i l = AreRefitted l.net l.offers l.i l.shipment
