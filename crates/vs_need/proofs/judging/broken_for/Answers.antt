use Rattle.std.proofs.Common.{length, subst}
use Rattle.vs_instance.specs.Problem.{Problem}
use Rattle.vs_need.specs.Room.{HasRoom}
use Rattle.vs_need.proofs.Cuts.{kept_room}
use Rattle.vs_need.proofs.judging.broken_for.Goals as goal

pub returns-clause-room : goal.returns-clause-room
returns-clause-room g c =
    let given = c.requires.1 in
    let P : Problem → Type 0 =
    λ q. HasRoom (length q.trips) (g.N.ArcReader.nets c.broken_fast.new.nets) c.broken_fast.new.scratch in
    subst P given.0 (kept_room (length g.p.trips) (g.N.ArcReader.nets c.args.nets.now)
    (g.N.ArcReader.nets c.broken_fast.new.nets) c.args.scratch.now
    c.broken_fast.new.scratch c.broken_fast.ensures.nets given.1.room c.broken_fast.ensures.kept)
