use Rattle.std.proofs.Common.{◌≡◌, ◌∙◌, ℕ, ℤ, List, pos, arith, ap, set, sym, subst, ◌+ℤ◌, ◌-ℤ◌}
use Rattle.std.proofs.lemmas.Int.{ints}
use Rattle.std.proofs.lemmas.List.{set-get_or}
use Rattle.vs_layer.specs.declared.arc.Arc.{Arc}
use Rattle.vs_path.specs.Residual.{price_at}
use Rattle.vs_ship.specs.declared.shipment.TheConstants.{MAX_FIRST_PRICE}
use Rattle.vs_ship.specs.Leaving.{passed_along}
use Rattle.vs_ship.proofs.balance.Leaving.{near_at, passed-as}
use Rattle.vs_ship.proofs.leaving.pass.Goals as goal

-- nothing goes along an arc
passed-none : (s : List ℤ) (a : Arc) → s ≡ passed_along s a 0
passed-none s a =
    let less : (z : ℤ) → z -ℤ pos 0 ≡ z = λ z. omega (arith, ints) in
    let more : (z : ℤ) → z +ℤ pos 0 ≡ z = λ z. omega (arith, ints) in
    let left : set s a.from (price_at s a.from -ℤ pos 0) ≡ s =
    ap (set s a.from) (less (price_at s a.from)) ∙ set-get_or s a.from (pos 0) in
    sym
    (ap (λ (xs : List ℤ). set xs a.to (price_at xs a.to +ℤ pos 0)) left
    ∙ ap (set s a.to) (more (price_at s a.to)) ∙ set-get_or s a.to (pos 0))

pub returns-then-n-eq0 : goal.returns-then-n-eq0
returns-then-n-eq0 c =
    let s = c.args.surplus.now in
    let P : ℕ → Type 0 = λ n. s ≡ passed_along s c.args.arc n in
    subst P (sym c.if-n-eq0.true) (passed-none s c.args.arc)

pub returns : goal.returns
returns c =
    let s = c.args.surplus.now in
    let a = c.args.arc in
    let from = c.requires.within a.from in
    let to = near_at s a c.args.n c.requires.from c.requires.to a.to MAX_FIRST_PRICE (c.requires.within a.to) in
    let first : _ ≡ price_at s a.from -ℤ pos c.args.n = omega (arith, ints, from.low, from.high, c.from-n.ensures) in
    passed-as s a c.args.n _ _ first
    (let at = ap (λ (z : ℤ). price_at (set s a.from z) a.to) first in
    omega (arith, ints, at, to.low, to.high, c.from-n.ensures))
