use Rattle.std.proofs.Common.{◌<◌, ◌++◌, List, [], ◌∷◌, length, map, take, get_or, arith, sym, ap, ◌∙◌}
use Rattle.std.proofs.lemmas.List.{map_push, take_more, take_all}
use Rattle.vs_types.specs.declared.numbers.TripNo.{TripNo}
use Rattle.vs_instance.specs.declared.trip.Trip.{Trip}
use Rattle.vs_instance.specs.Ways.{trip_of}
use Rattle.vs_peakcheck.specs.Counting.{counted_trip, numbered}
use Rattle.vs_peakcheck.proofs.trips.counted_trips.Goals as goal

pub loop-k-preserved : goal.loop-k-preserved
loop-k-preserved c =
    let p = c.args.instance.now in
    let trips : List TripNo = c.args.trips.now in
    let k = c.loop-k.k in
    let inside : k < length trips = omega (arith, c.loop-k-test.true) in
    let counted : TripNo → Trip = λ i. counted_trip (trip_of p i.0) in
    c.in_ok-push.ensures.items
    ∙ ap (λ (ts : List Trip). ts ++ c.counted_trip.result ∷ []) c.loop-k.invariant
    ∙ ap (λ (t : Trip). map counted (take k trips) ++ t ∷ []) (c.counted_trip.ensures ∙ ap counted_trip c.trip.ensures)
    ∙ sym (ap (map counted) (take_more trips k (numbered 0) inside)
    ∙ map_push counted (take k trips) (get_or trips k (numbered 0)))

pub returns : goal.returns
returns c =
    c.loop-k.invariant
    ∙ ap (map (λ (i : TripNo). counted_trip (trip_of c.args.instance.now i.0)))
    (take_all c.loop-k.k c.args.trips.now (omega arith))
