use Rattle.std.proofs.Common.{◌∙◌, refl, rules, SFits, w64}
use Rattle.std.proofs.lemmas.Int.{to_z-of_z}
use Rattle.vs_queue.proofs.heap.Queuing.{moved-queue}
use Rattle.vs_queue.proofs.queue.Queue.unstack.Goals as goal

pub loop-node-preserved : goal.loop-node-preserved
loop-node-preserved c =
    let now = c.loop-node.self in
    let fits : SFits w64 now.floor = search rules in
    let put = simp to_z-of_z at c.put.ensures.put in
    record {
      queue = moved-queue c.args.table.now.waiting now _ c.put.new.self c.in-Some.node c.loop-node.invariant.queue
          c.in-Some.ensures.items refl refl refl put;
      floor = put.floor ∙ c.loop-node.invariant.floor;
    }
