use Rattle.std.proofs.lemmas.List.Elements.{All-set}
use Rattle.vs_walk.specs.Walkers.{IsWalkerFor}
use Rattle.vs_penalty.proofs.walkers.walk_sharing.Goals as goal

pub loop-k-preserved : goal.loop-k-preserved
loop-k-preserved g c =
    All-set (λ walk. IsWalkerFor c.args.case.now.instance.now walk.walker) c.loop-k.walks c.loop-k.k
    c.go_with.new.self c.go_with.ensures c.loop-k.invariant
