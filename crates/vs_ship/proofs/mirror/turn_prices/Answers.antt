use Rattle.std.proofs.Common.{◌≡◌, ◌-◌, ℕ, ℤ, pos, neg_ℤ, length, arith}
use Rattle.std.proofs.lemmas.Int.{ints}
use Rattle.vs_path.specs.Residual.{price_at}
use Rattle.vs_ship.specs.Mirror.{across}
use Rattle.vs_ship.proofs.prices.Overwritten.{written-more}
use Rattle.vs_ship.proofs.mirror.turn_prices.Goals as goal

pub loop-v-preserved : goal.loop-v-preserved
loop-v-preserved c =
    let prices = c.args.prices.now in
    let here = c.requires.within ((length prices - 1) - c.loop-v.v) in
    written-more (pos 0) (λ (v : ℕ) (z : ℤ). z ≡ neg_ℤ (price_at prices (across (length prices) v)))
    c.args.turned.now c.loop-v.turned c.loop-v.v _ (omega arith) c.loop-v.invariant
    (omega (arith, ints, here.low, here.high))

pub returns : goal.returns
returns c = record {
  size = omega (arith, c.requires.size);
  each = λ v below. c.loop-v.invariant.done v (omega (arith, c.requires.size));
}
