use Rattle.std.proofs.Common.{◌≡◌, ℕ, ◌+◌, ◌*◌, ◌/◌, ◌%◌, ◌<◌, sym, ap, ◌∙◌, subst, arith, inl, inr}
use Rattle.std.proofs.lemmas.Bool.{cases_lt}
use Rattle.std.proofs.lemmas.Nat.{div-add-mod', div_below, mod_below}
use Rattle.vs_peakcheck.specs.Listed.{AreDeadheadsBelow}
use Rattle.vs_peakcheck.proofs.problem.ListedDeadheads.{none_listed, pair_listed}
use Rattle.vs_peakcheck.proofs.deadheads.all_deadheads.Goals as goal

some_from_square : (n place : ℕ) → place < n * n → 0 < n
some_from_square n place within =
    elim (cases_lt 0 n) [
      | inl some ↦ some
      | inr none ↦
          let zero : n ≡ 0 = omega arith in
          absurd (omega (arith, within, ap (λ (m : ℕ). m * m) zero))
    ]

pub loop-place-init : goal.loop-place-init
loop-place-init c =
    subst (AreDeadheadsBelow c.args.instance.now 0) (sym c.new-deadheads.ensures.items)
    (none_listed c.args.instance.now)

pub loop-place-preserved : goal.loop-place-preserved
loop-place-preserved c =
    let p = c.args.instance.now in
    let place = c.loop-place.place in
    let n = c.stops-stops.result in
    let stops : n ≡ p.stops = c.stops-stops.ensures.count in
    let within : place < n * n = omega (arith, c.loop-place-test.true) in
    let some = some_from_square n place within in
    let of_from = div_below place n n some within in
    let of_to = mod_below place n some in
    pair_listed p place (place / n) (place % n) c.loop-place.deadheads.items _ c.deadhead_between-given.result
    (omega (arith, of_from, stops)) (omega (arith, of_to, stops))
    (subst (λ (m : ℕ). place / n * m + place % n ≡ place) stops (div-add-mod' place n)) c.loop-place.invariant
    c.deadhead_between-given.ensures c.in_ok-add.ensures

pub returns : goal.returns
returns c =
    let p = c.args.instance.now in
    let n = c.stops-stops.result in
    let stops : n ≡ p.stops = c.stops-stops.ensures.count in
    let all : c.loop-place.place ≡ n * n = omega arith in
    subst (λ (m : ℕ). AreDeadheadsBelow p m c.loop-place.deadheads.items)
    (all ∙ ap (λ (m : ℕ). m * m) stops) c.loop-place.invariant
