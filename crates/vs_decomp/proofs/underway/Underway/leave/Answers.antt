use Rattle.vs_decomp.proofs.Standing.{leaves_node}
use Rattle.vs_decomp.proofs.underway.Underway.leave.Goals as goal

pub returns : goal.returns
returns c =
    leaves_node c.args.self.now.stands.items c.args.node c.index_mut.result.now c.leave.new.self c.leave.result
    c.requires.of_net c.index_mut.ensures.value c.leave.ensures
