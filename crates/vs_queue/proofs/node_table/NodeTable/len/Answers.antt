use Rattle.std.proofs.Common.{arith}
use Rattle.vs_queue.proofs.heap.Records.{count-settled, count-waiting}
use Rattle.vs_queue.proofs.node_table.NodeTable.len.Goals as goal

pub returns-clause-settled : goal.returns-clause-settled
returns-clause-settled c =
    omega (arith, c.len.ensures, count-settled c.self.inside.records.items c.args.self.now c.self.view_is)

pub returns-clause-waiting : goal.returns-clause-waiting
returns-clause-waiting c =
    omega (arith, c.len.ensures, count-waiting c.self.inside.records.items c.args.self.now c.self.view_is)
