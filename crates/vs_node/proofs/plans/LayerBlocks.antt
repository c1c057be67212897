-- The blocks of one layer after another.
use Rattle.std.proofs.Common.{◌≡◌, ◌≢◌, ℕ, ◌+◌, ◌<◌, ◌≤◌, Bool, cond, eqb, List, [], ◌∷◌, ◌++◌, length, get_or, refl, sym, ap, ◌∙◌, subst, arith, inl, inr}
use Rattle.std.specs.List.{All}
use Rattle.std.proofs.lemmas.Bool.{cases_eq, ne_eqb}
use Rattle.std.proofs.lemmas.List.{get_or-append-add, get_or_append_left, length-append}
use Rattle.std.proofs.lemmas.List.Elements.{All-append, All-cons, All-head, All-nil, All-tail}
use Rattle.std.proofs.lemmas.List.Sums.{count_by-le-length, sum_by-append, sum_by-cons}
use Rattle.vs_types.specs.LayerSet.{Has}
use Rattle.vs_types.specs.declared.layer_set.LayerSet.{LayerSet}
use Rattle.vs_types.specs.declared.numbers.LayerNo.{LayerNo}
use Rattle.vs_types.specs.declared.numbers.TripNo.{TripNo}
use Rattle.vs_instance.specs.Problem.{Problem}
use Rattle.vs_instance.specs.Instance.{IsInstance}
use Rattle.vs_instance.specs.Ways.{layer_of}
use Rattle.vs_instance.specs.Blocks.{IsBlock}
use Rattle.vs_instance.specs.Plan.{LayerBlock, IsPlan, all_trips, times_run, vehicles_used}
use Rattle.vs_instance.specs.Restriction.{IsRestriction, IsWithin, set_of}
use Rattle.vs_instance.proofs.CallerLemmas.{All-all_trips}
use Rattle.vs_circ.specs.Circulations.{RunExactly}
use Rattle.vs_circ.specs.Offers.{MustRun}
use Rattle.vs_circ.proofs.CallerLemmas.{not_run}
use Rattle.vs_node.specs.ChosenLayers.{AreSingle}
use Rattle.vs_node.specs.LayersDone.{AreBlocksOfFirst, must_in}
use Rattle.vs_node.proofs.sets.OneLayer.{has_must, must_has, only_layer}

All-left : {A : Type 0} (P : A → Type 0) (xs ys : List A) → All P (xs ++ ys) → All P xs
All-left P xs ys all k d inside =
    subst P (get_or_append_left xs ys d k inside) (all k d (omega (arith, inside, length-append xs ys)))

All-right : {A : Type 0} (P : A → Type 0) (xs ys : List A) → All P (xs ++ ys) → All P ys
All-right P xs ys all k d inside =
    subst P (get_or-append-add xs ys k d) (all (length xs + k) d (omega (arith, inside, length-append xs ys)))

-- what holds of all trips holds of those of each block
in_each_block : (P : TripNo → Type 0) (blocks : List LayerBlock) → All P (all_trips blocks)
    → All (λ b. All P b.1) blocks
in_each_block P [] all = All-nil (λ (b : LayerBlock). All P b.1)
in_each_block P (b ∷ blocks) all =
    All-cons (λ (c : LayerBlock). All P c.1) b blocks (All-left P b.1 (all_trips blocks) all)
    (in_each_block P blocks (All-right P b.1 (all_trips blocks) all))

-- how often a trip stands in two lists of blocks
times_run-append : (xs ys : List LayerBlock) (i : ℕ) → times_run (xs ++ ys) i ≡ times_run xs i + times_run ys i
times_run-append [] ys i = omega arith
times_run-append (b ∷ xs) ys i =
    let rest = times_run-append xs ys i in
    let one = λ (t : TripNo). cond (eqb t.0 i) 1 0 in
    let whole = sum_by-append one b.1 (all_trips (xs ++ ys)) in
    let part = sum_by-append one b.1 (all_trips xs) in
    omega (arith, rest, whole, part)

-- a layer of which no block is uses no vehicle
none_used : (blocks : List LayerBlock) (l : ℕ) → All (λ b. b.0.0 ≢ l) blocks → vehicles_used blocks l ≡ 0
none_used [] l none = refl
none_used (b ∷ blocks) l none =
    let rest = none_used blocks l (All-tail (λ (c : LayerBlock). c.0.0 ≢ l) b blocks none) in
    let apart = All-head (λ (c : LayerBlock). c.0.0 ≢ l) b blocks none in
    let more = sum_by-cons (λ (c : LayerBlock). cond (eqb c.0.0 l) 1 0) b blocks in
    let here = ap {B = ℕ} (λ (t : Bool). cond t 1 0) (ne_eqb b.0.0 l apart) in
    omega (arith, rest, more, here)

module _ (p : Problem) (sets : List LayerSet) (restriction : IsRestriction p sets) (single : AreSingle sets)
    (l : LayerNo) (old new : List LayerBlock) (before : AreBlocksOfFirst p sets l.0 old)
    (run : RunExactly p l (must_in sets l.0) new) where
  stands : (i : ℕ) → i < length p.trips → i < length sets
  stands i inside = subst (λ (n : ℕ). i < n) (sym restriction.each_trip) inside

  -- the trips of the layer's blocks have it in their sets
  new_within : IsWithin sets new
  new_within k d inside =
      let b = get_or new k d in
      let of_layer = run.are_blocks.each_block k d inside in
      let trips = in_each_block (λ (i : TripNo). MustRun (must_in sets l.0) i.0) new run.are_blocks.within k d inside in
      subst (λ (m : LayerNo). All (λ i. Has (set_of sets i.0) m.0) b.1) (sym of_layer.0)
      (λ j e at. must_has sets l.0 (get_or b.1 j e).0 (trips j e at))

  -- the trips of the blocks before it have another layer
  abbrev Earlier : ℕ → Type 0
  Earlier i = (m : ℕ) × (m < l.0) × Has (set_of sets i) m

  old_earlier : All (λ i. Earlier i.0) (all_trips old)
  old_earlier =
      All-all_trips (λ (i : TripNo). Earlier i.0) old
      (λ k d inside j e at. ((get_or old k d).0.0, before.first k d inside, before.within k d inside j e at))

  run_once_each : (i m : ℕ) → i < length p.trips → Has (set_of sets i) m → m < l.0 + 1 → times_run (old ++ new) i ≡ 1
  run_once_each i m inside has below =
      let both = times_run-append old new i in
      elim (cases_eq m l.0) [
        | inl here ↦
            let of_layer = subst (Has (set_of sets i)) here has in
            let now = run.each i inside (has_must sets l.0 i (stands i inside) of_layer) in
            let never = not_run Earlier (all_trips old) i old_earlier
            (λ earlier. let same = single i earlier.0 l.0 (stands i inside) earlier.2 of_layer in
            let less = earlier.1 in omega arith) in
            omega (arith, both, now, never)
        | inr other ↦
            let already = before.once i m inside has (omega (arith, other)) in
            let never = not_run (MustRun (must_in sets l.0)) (all_trips new) i run.are_blocks.within
            (λ must. other (single i m l.0 (stands i inside) has (must_has sets l.0 i must))) in
            omega (arith, both, already, never)
      ]

  enough_vehicles : (m : ℕ) → m < length p.layers
      → vehicles_used (old ++ new) m ≤ (layer_of p m).fleet
  enough_vehicles m inside =
      let both = sum_by-append (λ (b : LayerBlock). cond (eqb b.0.0 m) 1 0) old new in
      elim (cases_eq m l.0) [
        | inl here ↦
            let none = none_used old m (λ k d at. λ is. let less = before.first k d at in omega arith) in
            let few = count_by-le-length (λ (b : LayerBlock). eqb b.0.0 m) new in
            let fleet = subst (λ (n : ℕ). length new ≤ (layer_of p n).fleet) (sym here)
            run.are_blocks.fleet in
            omega (arith, both, none, few, fleet)
        | inr other ↦
            let none = none_used new m (λ k d at. λ is.
            other (sym is ∙ ap (λ (n : LayerNo). n.0) (run.are_blocks.each_block k d at).0)) in
            let fleet = before.fleet m inside in
            omega (arith, both, none, fleet)
      ]

  -- with the next layer's blocks they are those of one layer more
  pub more_blocks : AreBlocksOfFirst p sets (l.0 + 1) (old ++ new)
  more_blocks = record {
    each_block =
        All-append (λ (b : LayerBlock). IsBlock p b.0 b.1) old new before.each_block
        (λ k d inside. let of_layer = run.are_blocks.each_block k d inside in
        subst (λ (m : LayerNo). IsBlock p m (get_or new k d).1) (sym of_layer.0) of_layer.1);
    first =
        All-append (λ (b : LayerBlock). b.0.0 < l.0 + 1) old new
        (λ k d inside. let less = before.first k d inside in omega arith)
        (λ k d inside. let of_layer = (run.are_blocks.each_block k d inside).0 in
        subst (λ (m : LayerNo). m.0 < l.0 + 1) (sym of_layer) (omega arith));
    within =
        All-append (λ (b : LayerBlock). All (λ i. Has (set_of sets i.0) b.0.0) b.1) old new before.within new_within;
    once = run_once_each;
    fleet = enough_vehicles;
  }

-- the blocks of all layers are a plan
pub all_layers-plan : (p : Problem) (sets : List LayerSet) (blocks : List LayerBlock) → IsInstance p
    → IsRestriction p sets → AreSingle sets → AreBlocksOfFirst p sets (length p.layers) blocks → IsPlan p blocks
all_layers-plan p sets blocks instance restriction single are = record {
  each_block = are.each_block;
  once = λ i inside.
      let only = only_layer p sets instance restriction single i inside in
      are.once i only.0 inside ((only.2 only.0).1 refl) only.1;
  fleet = are.fleet;
}
