use Rattle.std.proofs.Common.{◌≡◌, ◌∙◌, ◌+ℤ◌, ℤ, get_or, pos, ap, arith, rules, SFits, w64}
use Rattle.std.proofs.lemmas.Int.{ints, to_z-of_z}
use Rattle.vs_path.specs.Labels.{lists_of, settled_at}
use Rattle.vs_path.specs.Raising.{rise_of}
use Rattle.vs_path.proofs.raised.RaisingUpTo.{raised-more}
use Rattle.vs_path.proofs.labels.Labels.raise_prices.Goals as goal

pub overflow_add-price : goal.overflow_add-price
overflow_add-price c =
    let l = lists_of c.args.self.now in
    let v = c.loop-v.v in
    let fits : SFits w64 (get_or c.loop-v.prices v (pos 0)) = search rules in
    let fits_too : SFits w64 c.rise_of.result = search rules in
    let fits_rise : SFits w64 c.args.rise = search rules in
    let rise = simp to_z-of_z at c.rise_of.ensures in
    let is : c.rise_of.result ≡ rise_of (settled_at l v) c.args.rise =
    rise ∙ ap (λ s. rise_of s c.args.rise) c.settled.ensures in
    let kept = c.loop-v.invariant.kept v (omega arith) in
    let space = c.requires.space v c.loop-v-test.true in
    simp to_z-of_z (omega (arith, ints, kept, is, space))

pub loop-v-preserved : goal.loop-v-preserved
loop-v-preserved c =
    let l = lists_of c.args.self.now in
    let v = c.loop-v.v in
    let price = get_or c.loop-v.prices v (pos 0) in
    let fits : SFits w64 price = search rules in
    let fits_too : SFits w64 c.rise_of.result = search rules in
    let fits_rise : SFits w64 c.args.rise = search rules in
    let rise = simp to_z-of_z at c.rise_of.ensures in
    let is : c.rise_of.result ≡ rise_of (settled_at l v) c.args.rise =
    rise ∙ ap (λ s. rise_of s c.args.rise) c.settled.ensures in
    let kept = c.loop-v.invariant.kept v (omega arith) in
    let space = c.requires.space v c.loop-v-test.true in
    let fits_sum : SFits w64 (price +ℤ c.rise_of.result) = omega (arith, ints, kept, is, space) in
    let upto = simp to_z-of_z at c.loop-v.invariant in
    simp to_z-of_z
    (raised-more l c.args.rise v c.args.prices.now c.loop-v.prices (price +ℤ c.rise_of.result) upto
    (omega (arith, c.loop-v.auto.prices, c.loop-v-test.true)) (ap (λ (z : ℤ). price +ℤ z) is))
