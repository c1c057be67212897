use Rattle.std.proofs.Common.{◌≡◌, take}
use Rattle.vs_match.specs.Sizes.{counts_from, stop_points, line_points}
use Rattle.vs_match.proofs.sizes.counts.Given as goal

-- the arcs so far are counted
abbrev pub invariant-loop-k : goal.invariant-loop-k
invariant-loop-k l =
    l.counts ≡ counts_from (stop_points l.net.points) (line_points l.net.points) (take l.k l.net.kinds)
