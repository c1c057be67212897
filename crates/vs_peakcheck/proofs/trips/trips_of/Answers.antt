use Rattle.std.proofs.Common.{◌≡◌, ◌<◌, true, false, [], ◌∷◌, ◌++◌, length, refl, sym, ap, ◌∙◌, subst, arith}
use Rattle.std.specs.List.{All}
use Rattle.std.proofs.lemmas.List.{append-nil}
use Rattle.vs_peakcheck.specs.Counting.{numbered}
use Rattle.vs_peakcheck.proofs.problem.Gathering.{numbers_within, same_test, trips_below, trips_more}
use Rattle.vs_peakcheck.proofs.trips.trips_of.Goals as goal
use Rattle.vs_peakcheck.proofs.trips.trips_of.Goals.{then-has+in_ok-push, else-has}

pub loop-i-preserved : goal.loop-i-preserved
loop-i-preserved c =
    let p = c.args.instance.now in
    let l = c.args.l.0 in
    let i = c.loop-i.i in
    let before = c.loop-i.trips.items in
    let after = c.if-has.trips.items in
    let test = same_test p l i c.trip.result.now c.has.result c.trip.ensures c.has.ensures in
    elim c.if-has.branch [
      | then-has+in_ok-push w ↦
          let is : after ≡ before ++ numbered i ∷ [] = rw w.trips-is w.in_ok-push.ensures.items in
          trips_more p l i before after true c.loop-i.invariant (test ∙ w.if-has.true) is
      | else-has w ↦
          let is : after ≡ before = rw w.trips-is refl in
          trips_more p l i before after false c.loop-i.invariant (test ∙ w.if-has.false)
          (is ∙ sym (append-nil before))
    ]

pub returns-clause-trips : goal.returns-clause-trips
returns-clause-trips c =
    let all : c.loop-i.i ≡ length c.args.instance.now.trips = omega (arith, c.trips-i-end.ensures.count) in
    c.loop-i.invariant ∙ ap (trips_below c.args.instance.now c.args.l.0) all

pub returns-clause-within : goal.returns-clause-within
returns-clause-within c =
    subst (All (λ i. i.0 < length c.args.instance.now.trips)) (sym (returns-clause-trips c))
    (numbers_within c.args.instance.now c.args.l.0)
