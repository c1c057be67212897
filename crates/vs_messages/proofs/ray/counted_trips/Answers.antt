use Rattle.std.proofs.Common.{◌≡◌, ◌<◌, true, false, [], ◌∷◌, ◌++◌, length, refl, sym, ◌∙◌, subst, arith}
use Rattle.std.proofs.lemmas.List.{append-nil}
use Rattle.vs_messages.specs.Reasons.{AreTripsOf, numbered}
use Rattle.vs_messages.proofs.Counting.{counted_more, trips_more}
use Rattle.vs_messages.proofs.ray.counted_trips.Goals as goal
use Rattle.vs_messages.proofs.ray.counted_trips.Goals.{then-counts+in_ok-push, else-counts}

pub loop-i-preserved : goal.loop-i-preserved
loop-i-preserved c =
    let p = c.args.instance.now in
    let table = c.args.table.now in
    let i = c.loop-i.i in
    let inv = c.loop-i.invariant in
    let before = c.loop-i.trips.items in
    let after = c.if-counts.trips.items in
    let inside : i < length p.trips = omega (arith, c.trips-i-end.ensures.count) in
    elim c.if-counts.branch [
      | then-counts+in_ok-push w ↦
          let is : after ≡ before ++ numbered i ∷ [] = rw w.trips-is w.in_ok-push.ensures.items in
          record {
            counted =
                counted_more p table i before after true inv.counted (sym c.counts.ensures ∙ w.if-counts.true) is;
            trips = trips_more p i before after inv.trips inside is;
          }
      | else-counts w ↦
          let is : after ≡ before = rw w.trips-is refl in
          record {
            counted =
                counted_more p table i before after false inv.counted (sym c.counts.ensures ∙ w.if-counts.false)
                (is ∙ sym (append-nil before));
            trips = subst (AreTripsOf p) (sym is) inv.trips;
          }
    ]
