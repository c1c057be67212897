use Rattle.std.proofs.Common.{◌∙◌, length, ap, arith, None, length-set}
use Rattle.vs_queue.specs.Keys.{Keys, key_at}
use Rattle.vs_path.specs.Labels.{lists_of}
use Rattle.vs_queue.proofs.CallerLemmas.{emptied-here}
use Rattle.vs_path.proofs.labelling.Settling.{room-left}
use Rattle.vs_path.proofs.labels.Labels.settle_next.Goals as goal

pub settle-requires-clause-node : goal.settle-requires-clause-node
settle-requires-clause-node c =
    let keys = c.args.self.now.nodes.waiting in
    let node = c.in_ok-node.node in
    let same = ap length c.in_ok-node.ensures.left in
    omega (arith, same, length-set keys node None, c.in_ok-node.ensures.node)

pub settle-requires-clause-taken : goal.settle-requires-clause-taken
settle-requires-clause-taken c =
    let node = c.in_ok-node.node in
    ap (λ (k : Keys). key_at k node) c.in_ok-node.ensures.left ∙ emptied-here c.args.self.now.nodes.waiting node

pub settle-requires-clause-few : goal.settle-requires-clause-few
settle-requires-clause-few c =
    let less =
    room-left (length c.args.self.now.nodes.waiting) (lists_of c.args.self.now) c.requires.listed c.in_ok-node.node
    (c.requires.unsettled c.in_ok-node.node c.in_ok-node.distance c.in_ok-node.ensures.taken.has)
    c.in_ok-node.ensures.node in
    omega (arith, less, c.requires.few)

pub settle-requires-clause-space : goal.settle-requires-clause-space
settle-requires-clause-space c =
    let less =
    room-left (length c.args.self.now.nodes.waiting) (lists_of c.args.self.now) c.requires.listed c.in_ok-node.node
    (c.requires.unsettled c.in_ok-node.node c.in_ok-node.distance c.in_ok-node.ensures.taken.has)
    c.in_ok-node.ensures.node in
    omega (arith, less, c.requires.space)
