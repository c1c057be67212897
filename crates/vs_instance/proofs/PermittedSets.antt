-- The permitted sets of an instance are a restriction.
use Rattle.std.proofs.Common.{◌≡◌, ◌≢◌, ℕ, ◌<◌, List, [], length, get_or, sym, subst}
use Rattle.std.proofs.lemmas.List.{get_or-map, length-map}
use Rattle.vs_types.specs.LayerSet.{Has, members}
use Rattle.vs_types.specs.declared.layer_set.LayerSet.{LayerSet}
use Rattle.vs_instance.specs.declared.trip.Trip.{Trip}
use Rattle.vs_instance.specs.Problem.{Problem}
use Rattle.vs_instance.specs.Instance.{IsInstance}
use Rattle.vs_instance.specs.Ways.{trip_of, no_trip}
use Rattle.vs_instance.specs.Plan.{LayerBlock, IsPlan}
use Rattle.vs_instance.specs.Restriction.{IsRestriction, IsWithin, permitted_sets, set_of}

-- the set of a trip in them
pub set_of-permitted_sets : (p : Problem) (i : ℕ) → i < length p.trips
    → set_of (permitted_sets p) i ≡ (trip_of p i).layers
set_of-permitted_sets p i inside = get_or-map (λ (t : Trip). t.layers) p.trips i no_trip (record { 0 = 0 }) inside

pub permitted_sets-IsRestriction : (p : Problem) → IsInstance p → IsRestriction p (permitted_sets p)
permitted_sets-IsRestriction p instance = record {
  each_trip = length-map p.trips (λ (t : Trip). t.layers);
  some_layer =
      λ i inside. subst (λ (s : LayerSet). members s ≢ []) (sym (set_of-permitted_sets p i inside))
      (instance.trips i no_trip inside).some_layer;
  permitted = λ i l inside has. subst (λ (s : LayerSet). Has s l) (set_of-permitted_sets p i inside) has;
}

-- every plan lies within them
pub plans_lie_within : (p : Problem) (blocks : List LayerBlock) → IsPlan p blocks → IsWithin (permitted_sets p) blocks
plans_lie_within p blocks plan k d inside j e at =
    let block = plan.each_block k d inside in
    let trip = block.of_instance j e at in
    subst (λ (s : LayerSet). Has s (get_or blocks k d).0.0)
    (sym (set_of-permitted_sets p (get_or (get_or blocks k d).1 j e).0 trip)) (block.permitted j e at)
