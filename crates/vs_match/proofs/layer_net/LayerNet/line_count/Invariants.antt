use Rattle.std.proofs.Common.{◌≡◌, take}
use Rattle.vs_match.specs.Sizes.{line_points}
use Rattle.vs_match.proofs.layer_net.LayerNet.line_count.Given as goal

-- the points so far are counted
abbrev pub invariant-loop-point : goal.invariant-loop-point
invariant-loop-point l = l.count ≡ line_points (take l.point-index l.self.points)
