use Rattle.std.proofs.Common.{ap, arith, rules, SFits, w64}
use Rattle.std.proofs.lemmas.Int.{to_z-of_z}
use Rattle.vs_queue.specs.NodeLists.{NodeLists}
use Rattle.vs_queue.proofs.heap.Records.{count-waiting, lists-waiting}
use Rattle.vs_queue.proofs.node_table.NodeTable.wait.Goals as goal

pub index_mut-requires : goal.index_mut-requires
index_mut-requires c =
    omega (arith, c.requires.node, count-waiting c.self.inside.records.items c.args.self.now c.self.view_is)

pub returns-clause-settled : goal.returns-clause-settled
returns-clause-settled c =
    let fits : SFits w64 c.args.key = search rules in
    let is = lists-waiting c.self.inside.records.items c.args.self.now c.self.view_is c.args.node c.args.key c.args.step
    c.requires.unsettled in
    rw to_z-of_z (ap (λ (k : NodeLists). k.settled) is)

pub returns-clause-waiting : goal.returns-clause-waiting
returns-clause-waiting c =
    let fits : SFits w64 c.args.key = search rules in
    let is = lists-waiting c.self.inside.records.items c.args.self.now c.self.view_is c.args.node c.args.key c.args.step
    c.requires.unsettled in
    rw to_z-of_z (ap (λ (k : NodeLists). k.waiting) is)

pub returns-clause-steps : goal.returns-clause-steps
returns-clause-steps c =
    let fits : SFits w64 c.args.key = search rules in
    let is = lists-waiting c.self.inside.records.items c.args.self.now c.self.view_is c.args.node c.args.key c.args.step
    c.requires.unsettled in
    rw to_z-of_z (ap (λ (k : NodeLists). k.steps) is)
