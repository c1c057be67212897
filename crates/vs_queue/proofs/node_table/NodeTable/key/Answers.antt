use Rattle.std.proofs.Common.{◌∙◌, sym, arith}
use Rattle.vs_queue.proofs.heap.Records.{count-waiting, read-key}
use Rattle.vs_queue.proofs.node_table.NodeTable.key.Goals as goal

pub index-requires : goal.index-requires
index-requires c =
    omega (arith, c.requires, count-waiting c.self.inside.records.items c.args.self.now c.self.view_is)

pub returns : goal.returns
returns c =
    let ns = c.self.inside.records.items in
    let l = c.args.self.now in
    c.key.ensures
    ∙ sym (read-key ns l c.self.view_is c.args.node c.index.result.now
    (omega (arith, c.requires, count-waiting ns l c.self.view_is)) c.index.ensures)
