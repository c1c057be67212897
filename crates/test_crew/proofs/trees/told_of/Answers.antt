use Rattle.std.proofs.Common.{ap}
use Rattle.vs_tree.specs.Search.{Search, state}
use Rattle.test_crew.proofs.trees.told_of.Goals as goal

pub both_told-requires : goal.both_told-requires
both_told-requires c =
    record {
      workers = ap (λ (s : Search). s.opening.workers) c.in_ok-tree.ensures.1;
      none_gone = ap (λ (s : Search). (state s).gone) c.in_ok-tree.ensures.1;
    }
