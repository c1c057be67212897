use Rattle.std.proofs.Common.{◌≡◌}
use Rattle.std.specs.Prelude.{count_by, sum_by}
use Rattle.std.specs.List.{range_with_len}
use Rattle.vs_match.specs.Sizes.{is_connection, numbers}
use Rattle.vs_match.proofs.sizes.full_count.Given as goal

-- the trips so far are counted
abbrev pub invariant-loop-i : goal.invariant-loop-i
invariant-loop-i l =
    l.total ≡ sum_by (λ i. count_by (is_connection l.instance l.l.0 i) (numbers l.instance)) (range_with_len 0 l.i)
