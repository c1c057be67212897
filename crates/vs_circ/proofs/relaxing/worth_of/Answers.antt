use Rattle.std.proofs.Common.{pos, get_or, arith}
use Rattle.std.proofs.lemmas.Int.{ints}
use Rattle.vs_instance.proofs.CallerLemmas.{total-range_next}
use Rattle.vs_circ.specs.shipping.Values.{worth_on}
use Rattle.vs_circ.proofs.low.Worth.{worth-word}
use Rattle.vs_circ.proofs.relaxing.worth_of.Goals as goal

pub overflow_add-worth : goal.overflow_add-worth
overflow_add-worth c =
    let k = c.loop-k.k in
    let here = worth-word (get_or c.args.cost.now k (pos 0)) c.worth_on-worth.result (get_or c.args.units.now k 0)
    c.worth_on-worth.ensures (c.requires.small k) (omega (arith, c.type_inv.units k)) in
    let now = c.loop-k.invariant.within in
    omega (arith, ints, now.low, now.high, here.1.low, here.1.high, c.loop-k-test.true, c.requires.few)

pub loop-k-preserved : goal.loop-k-preserved
loop-k-preserved c =
    let k = c.loop-k.k in
    let here = worth-word (get_or c.args.cost.now k (pos 0)) c.worth_on-worth.result (get_or c.args.units.now k 0)
    c.worth_on-worth.ensures (c.requires.small k) (omega (arith, c.type_inv.units k)) in
    let now = c.loop-k.invariant.within in
    let before = c.loop-k.invariant.worth in
    let more = total-range_next (worth_on c.args.cost.now c.args.units.now) k in
    let is = here.0 in
    record {
      worth = omega (
        arith,
        ints,
        now.low,
        now.high,
        here.1.low,
        here.1.high,
        c.loop-k-test.true,
        c.requires.few,
        before,
        more,
        is,
      );
      within = record {
        low = omega (arith, ints, now.low, now.high, here.1.low, here.1.high, c.loop-k-test.true, c.requires.few);
        high = omega (arith, ints, now.low, now.high, here.1.low, here.1.high, c.loop-k-test.true, c.requires.few);
      };
    }
