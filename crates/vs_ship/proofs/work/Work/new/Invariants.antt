use Rattle.vs_ship.proofs.shipping.Keeping.{AreKeptSoFar}
use Rattle.vs_ship.proofs.work.Work.new.Given as goal

-- something is kept for the nets so far
abbrev pub invariant-loop-net : goal.invariant-loop-net
invariant-loop-net l = AreKeptSoFar l.nets l.kept.items l.net-index
