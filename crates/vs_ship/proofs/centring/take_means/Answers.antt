use Rattle.std.proofs.Common.{ℕ, ℤ, pos, arith}
use Rattle.std.proofs.lemmas.Int.{ints}
use Rattle.vs_path.specs.Residual.{price_at}
use Rattle.vs_ship.specs.Centring.{IsMean}
use Rattle.vs_ship.proofs.prices.Overwritten.{written-more}
use Rattle.vs_ship.proofs.centring.take_means.Goals as goal

pub loop-v-preserved : goal.loop-v-preserved
loop-v-preserved c =
    let low = c.requires.low c.loop-v.v in
    let high = c.requires.high c.loop-v.v in
    let below = c.requires.below c.loop-v.v c.loop-v-test.true in
    let kept = c.loop-v.invariant.kept c.loop-v.v (omega arith) in
    written-more (pos 0) (λ (v : ℕ) (z : ℤ). IsMean (price_at c.args.low.now v) (price_at c.args.prices.now v) z)
    c.args.prices.now c.loop-v.prices c.loop-v.v _ (omega (arith, c.requires.size)) c.loop-v.invariant
    (record {
      no_more = omega (arith, ints, low.low, low.high, high.low, high.high, below, kept);
      no_less = omega (arith, ints, low.low, low.high, high.low, high.high, below, kept);
    })

pub overflow_sub-apart : goal.overflow_sub-apart
overflow_sub-apart c =
    let low = c.requires.low c.loop-v.v in
    let high = c.requires.high c.loop-v.v in
    let below = c.requires.below c.loop-v.v c.loop-v-test.true in
    let kept = c.loop-v.invariant.kept c.loop-v.v (omega arith) in
    omega (arith, ints, low.low, low.high, high.low, high.high, below, kept)

pub overflow_cast-apart : goal.overflow_cast-apart
overflow_cast-apart c =
    let low = c.requires.low c.loop-v.v in
    let high = c.requires.high c.loop-v.v in
    let below = c.requires.below c.loop-v.v c.loop-v-test.true in
    let kept = c.loop-v.invariant.kept c.loop-v.v (omega arith) in (
      omega (arith, ints, low.low, low.high, high.low, high.high, below, kept),
      omega (arith, ints, low.low, low.high, high.low, high.high, below, kept),
    )

pub returns : goal.returns
returns c = record {
  size = omega (arith, c.requires.size);
  each = λ v below. c.loop-v.invariant.done v (omega (arith, c.requires.size));
}
