use Rattle.std.proofs.Common.{◌<◌, ◌++◌, List, [], ◌∷◌, length, map, take, get_or, arith, sym, ap, ◌∙◌, subst}
use Rattle.std.proofs.lemmas.List.{map_push, take_more, take_all}
use Rattle.vs_types.specs.declared.layer_set.LayerSet.{LayerSet}
use Rattle.vs_instance.specs.declared.trip.Trip.{Trip}
use Rattle.vs_instance.specs.Restriction.{IsRestriction}
use Rattle.vs_instance.specs.Ways.{no_trip}
use Rattle.vs_instance.proofs.CallerLemmas.{permitted_sets-IsRestriction}
use Rattle.vs_prices.proofs.table_worth.permitted_sets.Goals as goal

pub loop-i-preserved : goal.loop-i-preserved
loop-i-preserved c =
    let trips : List Trip = c.args.instance.now.trips in
    let i = c.loop-i.i in
    let inside : i < length trips = omega (arith, c.trips-i-end.ensures.count) in
    let pushed = c.in_ok-push.ensures.items in
    pushed ∙ ap (λ (sets : List LayerSet). sets ++ c.trip.result.now.layers ∷ []) c.loop-i.invariant
    ∙ ap (λ (t : Trip). map (λ t. t.layers) (take i trips) ++ t.layers ∷ []) c.trip.ensures
    ∙ sym (ap (map (λ (t : Trip). t.layers)) (take_more trips i no_trip inside)
    ∙ map_push (λ (t : Trip). t.layers) (take i trips) (get_or trips i no_trip))

pub returns-clause-sets : goal.returns-clause-sets
returns-clause-sets c =
    c.loop-i.invariant
    ∙ ap (map (λ (t : Trip). t.layers))
    (take_all c.loop-i.i c.args.instance.now.trips (omega (arith, c.trips-i-end.ensures.count)))

pub returns-clause-restriction : goal.returns-clause-restriction
returns-clause-restriction c =
    subst (IsRestriction c.args.instance.now) (sym (returns-clause-sets c))
    (permitted_sets-IsRestriction c.args.instance.now c.trips-i-end.ensures.instance)
