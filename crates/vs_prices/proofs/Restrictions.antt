-- The leaves of a good tree have restrictions.
use Rattle.std.proofs.Common.{arith, ◌≡◌, ◌≢◌, ℕ, ◌<◌, List, [], length, subst, ap, ◌∙◌, inl, inr}
use Rattle.std.specs.List.{All}
use Rattle.std.proofs.lemmas.Bool.{cases_eq}
use Rattle.std.proofs.lemmas.List.{length-set}
use Rattle.std.proofs.lemmas.List.Elements.{All-nil, All-cons, All-append}
use Rattle.vs_types.specs.LayerSet.{Has, members}
use Rattle.vs_types.specs.declared.layer_set.LayerSet.{LayerSet}
use Rattle.vs_types.specs.declared.numbers.TripNo.{TripNo}
use Rattle.vs_instance.specs.Problem.{Problem}
use Rattle.vs_instance.specs.Instance.{IsInstance}
use Rattle.vs_instance.specs.Ways.{no_trip}
use Rattle.vs_instance.specs.Restriction.{IsRestriction, set_of}
use Rattle.vs_prices.specs.Tree.{Tree, Leaf, Split, IsGoodTree, LeafPlace, leaves, right_of, with_set}
use Rattle.vs_types.specs.Parts.{IsProperPart}
use Rattle.vs_types.proofs.CallerLemmas.{rest-within}
use Rattle.vs_prices.proofs.RunIn.{set_of-same, set_of-other}

-- a restriction in which a trip has fewer layers, but some
restriction-narrower : (p : Problem) (sets : List LayerSet) (trip : TripNo) (layers : LayerSet) → trip.0 < length sets
    → members layers ≢ [] → ((l : ℕ) → Has layers l → Has (set_of sets trip.0) l) → IsRestriction p sets
    → IsRestriction p (with_set sets trip layers)
restriction-narrower p sets trip layers inside some part restriction = record {
  each_trip = length-set sets trip.0 layers ∙ restriction.each_trip;
  some_layer = λ i of_instance. elim (cases_eq i trip.0) [
    | inl same ↦ rw (same, set_of-same sets trip layers inside) some
    | inr other ↦ rw (set_of-other sets trip layers i other) (restriction.some_layer i of_instance)
  ];
  permitted = λ i l of_instance has. elim (cases_eq i trip.0) [
    | inl same ↦
        let is : set_of (with_set sets trip layers) i ≡ layers =
        ap (set_of (with_set sets trip layers)) same ∙ set_of-same sets trip layers inside in
        let before : Has (set_of sets i) l =
        rw same (part l (subst (λ (s : LayerSet). Has s l) is has)) in
        restriction.permitted i l of_instance before
    | inr other ↦
        restriction.permitted i l of_instance
        (subst (λ (s : LayerSet). Has s l) (set_of-other sets trip layers i other) has)
  ];
}

-- a layer that a restriction leaves a trip has a number below 16
pub restriction-layers : (p : Problem) (sets : List LayerSet) → IsInstance p → IsRestriction p sets → (i l : ℕ)
    → i < length sets → Has (set_of sets i) l → l < 16
restriction-layers p sets instance restriction i l inside has =
    let of_instance : i < length p.trips = omega (arith, inside, restriction.each_trip) in
    let trip = instance.trips i no_trip of_instance in
    let layer = trip.layers l (restriction.permitted i l of_instance has) in
    omega (arith, layer, instance.few_layers)

-- the restrictions of the two parts of a split
pub left-restricts : (p : Problem) (sets : List LayerSet) (trip : TripNo) (left : LayerSet) → trip.0 < length sets
    → IsProperPart left (set_of sets trip.0) → IsRestriction p sets → IsRestriction p (with_set sets trip left)
left-restricts p sets trip left inside proper restriction =
    restriction-narrower p sets trip left inside proper.some proper.within restriction

pub right-restricts : (p : Problem) (sets : List LayerSet) (trip : TripNo) (left : LayerSet) → trip.0 < length sets
    → IsProperPart left (set_of sets trip.0) → IsRestriction p sets
    → IsRestriction p (with_set sets trip (right_of sets trip left))
right-restricts p sets trip left inside proper restriction =
    restriction-narrower p sets trip (right_of sets trip left) inside proper.others
    (rest-within (set_of sets trip.0) left) restriction

-- each leaf's sets are a restriction
pub leaves_restrict : (p : Problem) (sets : List LayerSet) (tree : Tree) → IsRestriction p sets → IsGoodTree sets tree
    → All (λ place. IsRestriction p place.sets) (leaves sets tree)
leaves_restrict p sets (Leaf table) restriction good =
    All-cons (λ (place : LeafPlace). IsRestriction p place.sets) _ [] restriction
    (All-nil (λ (place : LeafPlace). IsRestriction p place.sets))
leaves_restrict p sets (Split trip left lower upper) restriction good =
    All-append (λ (place : LeafPlace). IsRestriction p place.sets) (leaves (with_set sets trip left) lower) _
    (leaves_restrict p (with_set sets trip left) lower
    (left-restricts p sets trip left good.0 good.1 restriction) good.2)
    (leaves_restrict p (with_set sets trip (right_of sets trip left)) upper
    (right-restricts p sets trip left good.0 good.1 restriction) good.3)
