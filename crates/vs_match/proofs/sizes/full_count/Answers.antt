use Rattle.std.proofs.Common.{ℕ, ◌≤◌, length, arith}
use Rattle.std.specs.Prelude.{count_by}
use Rattle.std.proofs.lemmas.List.Sums.{count_by-le-length}
use Rattle.std.proofs.lemmas.List.FromFn.{length-range_with_len}
use Rattle.vs_match.specs.Sizes.{is_connection, numbers}
use Rattle.vs_match.proofs.matches.Counting.{sum_by-next, sum_by-≤}
use Rattle.vs_match.proofs.sizes.full_count.Goals as goal

pub overflow_add-total : goal.overflow_add-total
overflow_add-total c =
    let p = c.args.instance.now in
    let each : (i : ℕ) → count_by (is_connection p c.args.l.0 i) (numbers p) ≤ 10000 = λ i.
    omega (
      arith,
      count_by-le-length (is_connection p c.args.l.0 i) (numbers p),
      length-range_with_len 0 (length p.trips),
      c.trips-i-end.ensures.instance.few_trips,
    ) in
    omega (
      arith,
      c.loop-i.invariant,
      c.from-total.ensures,
      c.count_from.ensures,
      each c.loop-i.i,
      c.loop-i-test.true,
      c.trips-i-end.ensures.count,
      c.trips-i-end.ensures.instance.few_trips,
      sum_by-≤ (λ i. count_by (is_connection p c.args.l.0 i) (numbers p)) 10000 c.loop-i.i each,
    )

pub loop-i-preserved : goal.loop-i-preserved
loop-i-preserved c =
    let p = c.args.instance.now in
    let l = c.args.l.0 in
    omega (
      arith,
      c.loop-i.invariant,
      c.from-total.ensures,
      c.count_from.ensures,
      sum_by-next (λ i. count_by (is_connection p l i) (numbers p)) c.loop-i.i,
    )
