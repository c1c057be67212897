-- Trips that have one layer each.
use Rattle.std.proofs.Common.{◌≡◌, ℕ, ◌<◌, ◌≤◌, ◌↔◌, false, List, length, sym, ◌∙◌, subst, arith, inl, inr}
use Rattle.std.proofs.lemmas.Bool.{cases_lt, eqb-true, eq-eqb, false≢true}
use Rattle.std.proofs.lemmas.List.{get_or-map, get_or_past, length-map}
use Rattle.vs_types.specs.LayerSet.{Has}
use Rattle.vs_types.specs.declared.layer_set.LayerSet.{LayerSet}
use Rattle.vs_instance.specs.Problem.{Problem}
use Rattle.vs_instance.specs.Instance.{IsInstance}
use Rattle.vs_instance.specs.Ways.{no_trip}
use Rattle.vs_instance.specs.Restriction.{IsRestriction, set_of}
use Rattle.vs_types.specs.Parts.{has}
use Rattle.vs_circ.specs.Offers.{AreMust, MustRun}
use Rattle.vs_node.specs.ChosenLayers.{AreSingle}
use Rattle.vs_node.specs.LayersDone.{must_in}
use Rattle.vs_node.specs.SplitRule.{HasChoice, HoldsOfNone}
use Rattle.vs_node.proofs.sets.SetMembers.{one_member, other_member, some_member}

-- a trip that has to run in a layer has it in its set
pub must_has : (sets : List LayerSet) (l i : ℕ) → MustRun (must_in sets l) i → Has (set_of sets i) l
must_has sets l i must =
    elim (cases_lt i (length sets)) [
      | inl inside ↦
          eqb-true _ 1 (sym (get_or-map (λ set. has set l) sets i (record { 0 = 0 }) false inside) ∙ must)
      | inr past ↦
          let none = get_or_past (must_in sets l) i false (subst (λ (n : ℕ). n ≤ i)
          (sym (length-map sets (λ set. has set l))) past) in
          absurd (false≢true (sym none ∙ must))
    ]

-- and the other way round
pub has_must : (sets : List LayerSet) (l i : ℕ) → i < length sets → Has (set_of sets i) l → MustRun (must_in sets l) i
has_must sets l i inside is =
    get_or-map (λ set. has set l) sets i (record { 0 = 0 }) false inside ∙ eq-eqb _ _ is

module _ (p : Problem) (sets : List LayerSet) (instance : IsInstance p) (restriction : IsRestriction p sets) where
  -- a layer of a trip's set is one of the instance
  pub layer_inside : (i l : ℕ) → i < length p.trips → Has (set_of sets i) l → l < length p.layers
  layer_inside i l inside is = (instance.trips i no_trip inside).layers l (restriction.permitted i l inside is)

  -- the trips that have to run in a layer are ones that it may run
  pub are_must : (l : ℕ) → AreMust p l (must_in sets l)
  are_must l = record {
    each_trip = length-map sets (λ set. has set l) ∙ restriction.each_trip;
    permitted = λ i must. elim (cases_lt i (length sets)) [
      | inl inside ↦
          restriction.permitted i l (subst (λ (n : ℕ). i < n) restriction.each_trip inside) (must_has sets l i must)
      | inr past ↦
          let none = get_or_past (must_in sets l) i false (subst (λ (n : ℕ). n ≤ i)
          (sym (length-map sets (λ set. has set l))) past) in
          absurd (false≢true (sym none ∙ must))
    ];
  }

  module _ (single : AreSingle sets) where
    -- each trip has its one layer
    pub only_layer : (i : ℕ) → i < length p.trips
        → (l : ℕ) × (l < length p.layers) × ((k : ℕ) → Has (set_of sets i) k ↔ (k ≡ l))
    only_layer i inside =
        let some = some_member (set_of sets i) (restriction.some_layer i inside) in
        let stands : i < length sets = subst (λ (n : ℕ). i < n) (sym restriction.each_trip) inside in (
          some.0,
          layer_inside i some.0 inside some.1,
          λ k. (
            (λ is. single i k some.0 stands is some.1),
            (λ same. subst (Has (set_of sets i)) (sym same) some.1),
          ),
        )

  -- where no trip has a choice, each has one layer
  pub no_choice : HoldsOfNone (HasChoice sets) (length sets) → AreSingle sets
  no_choice none i k m inside has_k has_m =
      let trip : i < length p.trips = subst (λ (n : ℕ). i < n) restriction.each_trip inside in
      let few = instance.few_layers in
      let k_inside = layer_inside i k trip has_k in
      let m_inside = layer_inside i m trip has_m in
      one_member (set_of sets i) k m (none i inside) (omega (arith, k_inside, few)) (omega (arith, m_inside, few)) has_k
      has_m

-- and where some trip has one, it has more
pub choice_of_some : (sets : List LayerSet) (i : ℕ) → i < length sets → HasChoice sets i → ¬ (AreSingle sets)
choice_of_some sets i inside choice single =
    let one = other_member (set_of sets i) 16 choice in
    let other = other_member (set_of sets i) one.0 choice in
    other.3 (single i other.0 one.0 inside other.1 one.1)
