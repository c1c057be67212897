use Rattle.std.proofs.lemmas.List.Elements.{All-set}
use Rattle.vs_walk.specs.Walkers.{IsWalkerFor}
use Rattle.vs_penalty.proofs.walkers.tell_vehicles.Goals as goal

pub loop-k-preserved : goal.loop-k-preserved
loop-k-preserved c =
    All-set (λ walk. IsWalkerFor c.args.case.now.instance.now walk.walker) c.loop-k.walks c.loop-k.k
    c.take_vehicles.new.self c.take_vehicles.ensures c.loop-k.invariant
