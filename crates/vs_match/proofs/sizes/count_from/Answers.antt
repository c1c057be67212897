use Rattle.std.proofs.Common.{◌≡◌, ℕ, ◌∙◌, Bool, true, false, cond, ap, sym, arith}
use Rattle.std.specs.List.{range_with_len}
use Rattle.std.proofs.lemmas.List.Sums.{count_by-le-length}
use Rattle.std.proofs.lemmas.List.FromFn.{length-range_with_len}
use Rattle.vs_match.specs.Sizes.{is_connection}
use Rattle.vs_match.proofs.matches.Counting.{count_by-next}
use Rattle.vs_match.proofs.sizes.count_from.Goals as goal
use Rattle.vs_match.proofs.sizes.count_from.Goals.{then-connects, else-connects}

pub overflow_add-count : goal.overflow_add-count
overflow_add-count c =
    let p = is_connection c.args.instance.now c.args.l.0 c.args.i.0 in
    omega (
      arith,
      c.loop-j.invariant,
      count_by-le-length p (range_with_len 0 c.loop-j.j),
      length-range_with_len 0 c.loop-j.j,
      c.loop-j-test.true,
      c.trips-j-end.ensures.count,
      c.trips-j-end.ensures.instance.few_trips,
    )

pub loop-j-preserved : goal.loop-j-preserved
loop-j-preserved c =
    let p = is_connection c.args.instance.now c.args.l.0 c.args.i.0 in
    let j = c.loop-j.j in
    let next = count_by-next p j in
    elim c.if-connects.branch [
      | then-connects w ↦
          let one : p j ≡ true = sym c.connects.ensures ∙ w.if-connects.true in
          omega (arith, w.count-is, c.loop-j.invariant, next, ap {B = ℕ} (λ (b : Bool). cond b 1 0) one)
      | else-connects w ↦
          let none : p j ≡ false = sym c.connects.ensures ∙ w.if-connects.false in
          omega (arith, w.count-is, c.loop-j.invariant, next, ap {B = ℕ} (λ (b : Bool). cond b 1 0) none)
    ]
