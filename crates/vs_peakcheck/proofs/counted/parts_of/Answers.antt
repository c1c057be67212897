use Rattle.std.proofs.Common.{◌≡◌, ℕ, List, map, ap, ◌∙◌, [], ◌∷◌, ◌++◌, refl, arith}
use Rattle.vs_types.specs.declared.numbers.TripNo.{TripNo}
use Rattle.vs_instance.specs.declared.layer.Layer.{Layer}
use Rattle.vs_instance.specs.declared.trip.Trip.{Trip}
use Rattle.vs_instance.specs.Ways.{layer_of, trip_of}
use Rattle.vs_peakcheck.specs.Counting.{counted_fleet, counted_layer, counted_trip, permitted_trips}
use Rattle.vs_peakcheck.proofs.problem.CountedParts.{counting_parts}
use Rattle.vs_peakcheck.proofs.problem.Gathering.{made_of_numbers}
use Rattle.vs_peakcheck.proofs.counted.parts_of.Goals as goal

pub returns : goal.returns
returns c =
    let p = c.args.instance.now in
    let l = c.args.l.0 in
    let fleet : c.from-fleet.result ≡ counted_fleet p =
    omega (arith, c.from-fleet.ensures, c.max.ensures, c.trips.ensures.count) in
    let counted : TripNo → Trip = λ i. counted_trip (trip_of p i.0) in
    counting_parts p l c.stops.ensures.instance c.requires _ c.stops.ensures.count c.in_ok-deadheads.ensures
    (c.in_ok-push.ensures.items ∙ ap (λ (xs : List Layer). xs ++ c.counted_layer.result ∷ []) c.new-layers.ensures.items
    ∙ ap (λ (x : Layer). x ∷ []) (c.counted_layer.ensures ∙ ap (counted_layer c.from-fleet.result) c.layer.ensures
    ∙ ap (λ (n : ℕ). counted_layer n (layer_of p l)) fleet))
    (c.in_ok-trips.ensures ∙ ap (map counted) (c.as_slice.ensures.value ∙ c.in_ok-own_trips.ensures.trips)
    ∙ made_of_numbers counted (permitted_trips p l)) refl
