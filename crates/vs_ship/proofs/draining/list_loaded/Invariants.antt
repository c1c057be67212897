use Rattle.vs_ship.specs.Shipments.{AreListedToo}
use Rattle.vs_ship.proofs.draining.list_loaded.Given as goal

-- the arcs of the steps so far are listed
abbrev pub invariant-loop-step : goal.invariant-loop-step
invariant-loop-step l = AreListedToo l.net l.fn.loads l.loads l.path l.step-index
