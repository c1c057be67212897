use Rattle.std.proofs.Common.{◌≡◌, ℕ, ◌+◌, ◌∙◌, ap, sym, subst, arith}
use Rattle.vs_instance.specs.declared.layer.Layer.{Layer}
use Rattle.vs_instance.specs.declared.way.Way.{Way}
use Rattle.vs_instance.specs.Ways.{way}
use Rattle.vs_match.specs.Sweep.{IsFirstFrom}
use Rattle.vs_match.proofs.walks.ClosedWays.{some-same}
use Rattle.vs_match.proofs.rests.rest_in.Goals as goal

pub returns-in_err-until : goal.returns-in_err-until
returns-in_err-until c =
    let p = c.args.instance.now in
    let s = c.args.since.now in
    let depot = ap (λ (x : Layer). x.depot.0) c.layer-layer.ensures in
    let found = sym (ap (λ (n : ℕ). way p s.stop.0 n) depot) ∙ sym c.way.ensures ∙ c.in_ok-way.was in
    let stay_is = sym (ap (λ (x : Layer). x.stay) c.layer-layer.ensures) ∙ c.in_ok-stay.was in
    rw c.from_residual-in_err-until.ensures
    (λ x of.
    let by = some-same of.by c.in_ok-way.way (sym of.way_is ∙ found) in
    let stay = some-same of.stay c.in_ok-stay.stay (sym of.stay_is ∙ stay_is) in
    let ready : s.minute + of.by.minutes + of.stay ≡ s.minute + c.in_ok-way.way.minutes + c.in_ok-stay.stay =
    omega (arith, stay, ap (λ (w : Way). w.minutes) by) in
    let P : ℕ → Type 0 = λ m. IsFirstFrom c.args.line.now m of.until in
    c.in_err-until.ensures of.until (subst P ready of.first))
