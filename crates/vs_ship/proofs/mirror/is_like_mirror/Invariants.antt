use Rattle.std.proofs.Common.{◌-◌, length}
use Rattle.vs_ship.proofs.mirror.is_like_mirror.Given as goal

abbrev pub decreases-loop-k : goal.decreases-loop-k
decreases-loop-k l = length l.net.arcs - l.k
