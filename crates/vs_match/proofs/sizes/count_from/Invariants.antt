use Rattle.std.proofs.Common.{◌≡◌}
use Rattle.std.specs.Prelude.{count_by}
use Rattle.std.specs.List.{range_with_len}
use Rattle.vs_match.specs.Sizes.{is_connection}
use Rattle.vs_match.proofs.sizes.count_from.Given as goal

-- the trips so far are counted
abbrev pub invariant-loop-j : goal.invariant-loop-j
invariant-loop-j l = l.count ≡ count_by (is_connection l.instance l.l.0 l.i.0) (range_with_len 0 l.j)
