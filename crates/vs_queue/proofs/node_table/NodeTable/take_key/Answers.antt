use Rattle.std.proofs.Common.{ap, arith}
use Rattle.vs_queue.specs.NodeLists.{NodeLists}
use Rattle.vs_queue.proofs.heap.Records.{count-waiting, lists-without_key}
use Rattle.vs_queue.proofs.node_table.NodeTable.take_key.Goals as goal

pub index-known-requires : goal.index-known-requires
index-known-requires c =
    omega (arith, c.requires, count-waiting c.self.inside.records.items c.args.self.now c.self.view_is)

pub index_mut-requires : goal.index_mut-requires
index_mut-requires c =
    omega (arith, c.requires, count-waiting c.self.inside.records.items c.args.self.now c.self.view_is)

pub returns-clause-settled : goal.returns-clause-settled
returns-clause-settled c =
    let left = c.without_key-left in
    ap (λ (k : NodeLists). k.settled)
    (lists-without_key c.self.inside.records.items c.args.self.now c.self.view_is c.args.node c.index-known.result.now
    c.requires c.index-known.ensures left.result left.ensures.key left.ensures.settled left.ensures.step)

pub returns-clause-waiting : goal.returns-clause-waiting
returns-clause-waiting c =
    let left = c.without_key-left in
    ap (λ (k : NodeLists). k.waiting)
    (lists-without_key c.self.inside.records.items c.args.self.now c.self.view_is c.args.node c.index-known.result.now
    c.requires c.index-known.ensures left.result left.ensures.key left.ensures.settled left.ensures.step)

pub returns-clause-steps : goal.returns-clause-steps
returns-clause-steps c =
    let left = c.without_key-left in
    ap (λ (k : NodeLists). k.steps)
    (lists-without_key c.self.inside.records.items c.args.self.now c.self.view_is c.args.node c.index-known.result.now
    c.requires c.index-known.ensures left.result left.ensures.key left.ensures.settled left.ensures.step)
