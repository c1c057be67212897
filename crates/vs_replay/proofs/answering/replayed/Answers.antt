use Rattle.vs_replay.proofs.ReplayOwed.{tells_document}
use Rattle.vs_replay.proofs.answering.replayed.Goals as goal

pub returns-in-Tree : goal.returns-in-Tree
returns-in-Tree c =
    tells_document c.args.instance.now c.args.names.now c.args.trace c.in-Tree.tree c.document_of.result
    (c.has_room.ensures.0 c.if-not-has_room.false) (rw c.in-Tree.is at c.in_ok-tree.ensures) c.document_of.ensures
