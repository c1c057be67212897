use Rattle.vs_decomp.proofs.Standing.{comes_to_node, on_ok}
use Rattle.vs_decomp.proofs.underway.Underway.come.Goals as goal

pub returns : goal.returns
returns c =
    on_ok c.come.result
    (comes_to_node c.args.self.now.stands.items c.args.node c.index_mut.result.now c.come.new.self c.args.vehicle
    c.requires.of_net c.index_mut.ensures.value)
    c.come.ensures
