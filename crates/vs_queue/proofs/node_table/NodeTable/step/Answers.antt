use Rattle.std.proofs.Common.{arith}
use Rattle.vs_queue.proofs.heap.Records.{count-steps, read-step}
use Rattle.vs_queue.proofs.node_table.NodeTable.step.Goals as goal

pub index-requires : goal.index-requires
index-requires c =
    omega (arith, c.requires, count-steps c.self.inside.records.items c.args.self.now c.self.view_is)

pub returns : goal.returns
returns c =
    let ns = c.self.inside.records.items in
    let l = c.args.self.now in
    read-step ns l c.self.view_is c.args.node c.index.result.now
    (omega (arith, c.requires, count-steps ns l c.self.view_is)) c.index.ensures
