-- Every state of a history is a tree.
use Rattle.std.proofs.Common.{◌≡◌, ◌≢◌, ℕ, zero, suc, ◌+◌, ◌*◌, ◌<◌, ◌≤◌, ◌==◌, Bool, false, cond, List, [], ◌∷◌, length, refl, sym, ap, ◌∙◌, arith}
use Rattle.std.proofs.lemmas.Bool.{eq-eqb, ne_eqb}
use Rattle.std.proofs.lemmas.List.{get_or_past}
use Rattle.vs_types.specs.declared.layer_set.LayerSet.{LayerSet}
use Rattle.vs_types.specs.declared.numbers.TripNo.{TripNo}
use Rattle.vs_instance.specs.Restriction.{permitted_sets, set_of}
use Rattle.vs_tree.specs.declared.spot.Spot.{Spot}
use Rattle.vs_tree.specs.declared.spot.Spot.TheVariants.{Inner, Free, Held, Closed as ClosedSpot}
use Rattle.vs_tree.specs.Prices.{Prices}
use Rattle.vs_tree.specs.Sound.{IsOpening, IsSound}
use Rattle.vs_tree.specs.Laws.{StatesAreTrees}
use Rattle.vs_prices.specs.Tree.{Tree, Leaf, IsGoodTree, right_of, splits, with_set}
use Rattle.vs_types.specs.Parts.{IsProperPart}
use Rattle.vs_tree.specs.History.{FullStep, Opening, Place, State, Took, Split, Closed, Offered, GaveBack, MayCome, MayFollow, MaySplit, after, count_spots, first_state, is_inner, no_place, place_at, spot_at, state_after, state_of, table_of, with_spot}
use Rattle.vs_tree.specs.StateTree.{IsTreeAt, one_if, times}
use Rattle.vs_tree.proofs.Spots.{count-with_spot, leaf_within}
use Rattle.vs_tree.proofs.sound.Grown.{split, other, lower, upper, nowhere, where_is, count-split, split-here, split-lower, split-nowhere, split-other, split-upper}
use Rattle.vs_tree.proofs.sound.Histories.{first_sound, step_sound}
use Rattle.vs_tree.proofs.trees.Relabelled.{kind_still, relabelled}
use Rattle.vs_tree.proofs.trees.Grown.{grown, new}
use Rattle.vs_tree.proofs.trees.Parts.{parted, times-cons, times-parted, times-split}
use Rattle.vs_tree.proofs.trees.Leaves.{leaves_at}

-- a tree of spots whose places are these
pub record IsTreeOn (places : List Place) (sets : List LayerSet) (tree : Tree) : Type 0 where
  pub spots : List ℕ
  pub is_tree : IsTreeAt places 0 sets tree spots
  pub good : IsGoodTree sets tree
  pub once : (k : ℕ) → times k spots + one_if (is_inner (place_at places k).spot) ≡ 1
  pub splits_are : splits tree ≡ count_spots is_inner places

pub record HasTreeOn (places : List Place) (sets : List LayerSet) : Type 0 where
  pub tree : Tree
  pub is : IsTreeOn places sets tree

-- a test of two numbers as a number
is_one : (a b : ℕ) → a ≡ b → one_if (a == b) ≡ 1
is_one a b same = ap one_if (eq-eqb a b same)

is_none : (a b : ℕ) → a ≢ b → one_if (a == b) ≡ 0
is_none a b apart = ap one_if (ne_eqb a b apart)

-- where a leaf becomes another kind of leaf
module _ (places : List Place) (k : ℕ) (spot : Spot) (within : k < length places)
    (was : is_inner (place_at places k).spot ≡ false) (leaf : is_inner spot ≡ false) where
  tree_relabelled : (sets : List LayerSet) → HasTreeOn places sets → HasTreeOn (with_spot places k spot) sets
  tree_relabelled sets has =
      let old = has.is in
      let from = relabelled places k spot within was leaf has.tree 0 sets old.spots old.is_tree old.good in
      let none = ap {B = ℕ} (λ (b : Bool). cond b 1 0) was in
      let still = ap {B = ℕ} (λ (b : Bool). cond b 1 0) leaf in
      record {
        tree = from.tree;
        is = record {
          spots = old.spots;
          is_tree = from.is_tree;
          good = from.good;
          once = λ j.
              let kind = ap {B = ℕ} one_if (kind_still places k spot within was leaf j) in
              omega (arith, old.once j, kind);
          splits_are = omega (
            arith,
            from.splits_are,
            old.splits_are,
            count-with_spot places k spot is_inner within,
            none,
            still,
          );
        };
      }

-- where a leaf is split
module _ (places : List Place) (k : ℕ) (within : k < length places) (was : is_inner (place_at places k).spot ≡ false)
    (trip : TripNo) (left : LayerSet) (table : ℕ) where
  abbrev n : ℕ
  n = length places

  abbrev lower_place : Place
  lower_place = record { spot = Free table; sets = with_set (place_at places k).sets trip left }

  abbrev upper_place : Place
  upper_place =
      record {
        spot = Free table;
        sets = with_set (place_at places k).sets trip
            (right_of (place_at places k).sets trip left);
      }

  abbrev spot : Spot
  spot = Inner trip left n (n + 1)

  -- how often a spot is one of the two new ones
  pair : (m : ℕ) → times m (n ∷ (n + 1) ∷ []) ≡ cond (n == m) 1 0 + cond (n + 1 == m) 1 0
  pair m = omega (arith, times-cons m n ((n + 1) ∷ []), times-cons m (n + 1) [])

  module _ (spots : List ℕ) (once : (j : ℕ) → times j spots + one_if (is_inner (place_at places j).spot) ≡ 1) where
    -- the leaf stood once
    stood : times k spots ≡ 1
    stood = let none = ap {B = ℕ} one_if was in omega (arith, once k, none)

    -- a spot past the end stood nowhere
    past : (j : ℕ) → n ≤ j → times j spots ≡ 0
    past j out =
        let is = ap {B = ℕ} (λ (q : Place). one_if (is_inner q.spot)) (get_or_past places j no_place out) in
        omega (arith, once j, is)

    -- a spot that isn't split, and stood so often, stands as often as that and once for each new spot that it is
    stands : (j : ℕ) (before : ℕ) → j ≢ k → times j spots ≡ before
        → times j (parted k n spots) ≡ before + cond (n == j) 1 0 + cond (n + 1 == j) 1 0
    stands j before apart is =
        let product = ap (λ (c : ℕ). c * times j (n ∷ (n + 1) ∷ [])) stood in
        omega (arith, times-parted j k n apart spots, product, pair j, is)

    abbrev grown_places : List Place
    grown_places = new places k within was trip left table

    -- whether the place that stands there was split
    kind_at : (j : ℕ) (place : Place) → place_at grown_places j ≡ place
        → one_if (is_inner (place_at grown_places j).spot) ≡ one_if (is_inner place.spot)
    kind_at j place is = ap {B = ℕ} (λ (q : Place). one_if (is_inner q.spot)) is

    once_grown : (j : ℕ) → times j (parted k n spots) + one_if (is_inner (place_at grown_places j).spot) ≡ 1
    once_grown j =
        elim (where_is n k j) [
          | split is ↦
              let gone = times-split k n (λ same. omega (arith, within, same))
              (λ same. omega (arith, within, same)) spots in
              let times-are = ap (λ (i : ℕ). times i (parted k n spots)) is in
              let here : place_at grown_places j ≡ record { spot = spot; sets = (place_at places k).sets } =
              ap (place_at grown_places) is ∙ split-here places k spot lower_place upper_place within in
              omega (arith, gone, times-are, kind_at j _ here)
          | other apart inside ↦
              let there = split-other places k spot lower_place upper_place within j apart inside in
              omega (
                arith,
                stands j (times j spots) apart refl,
                once j,
                kind_at j (place_at places j) there,
                is_none n j (λ same. omega (arith, inside, same)),
                is_none (n + 1) j (λ same. omega (arith, inside, same)),
              )
          | lower is ↦
              omega (
                arith,
                stands j 0 (λ same. omega (arith, within, same, is)) (past j (omega (arith, is))),
                kind_at j lower_place (split-lower places k spot lower_place upper_place within j is),
                is_one n j (sym is),
                is_none (n + 1) j (λ same. omega (arith, is, same)),
              )
          | upper is ↦
              omega (
                arith,
                stands j 0 (λ same. omega (arith, within, same, is)) (past j (omega (arith, is))),
                kind_at j upper_place (split-upper places k spot lower_place upper_place within j is),
                is_none n j (λ same. omega (arith, is, same)),
                is_one (n + 1) j (sym is),
              )
          | nowhere out ↦
              omega (
                arith,
                stands j 0 (λ same. omega (arith, within, same, out)) (past j (omega (arith, out))),
                kind_at j no_place (split-nowhere places k spot lower_place upper_place within j out),
                is_none n j (λ same. omega (arith, out, same)),
                is_none (n + 1) j (λ same. omega (arith, out, same)),
              )
        ]

  module _ (inside : trip.0 < length (place_at places k).sets)
      (part : IsProperPart left (set_of (place_at places k).sets trip.0)) where
    tree_grown : (sets : List LayerSet) → HasTreeOn places sets
        → HasTreeOn (new places k within was trip left table) sets
    tree_grown sets has =
        let old = has.is in
        let from = grown places k within was trip left table inside part has.tree 0 sets old.spots old.is_tree
        old.good in
        let none = ap {B = ℕ} (λ (b : Bool). cond b 1 0) was in
        record {
          tree = from.tree;
          is = record {
            spots = parted k n old.spots;
            is_tree = from.is_tree;
            good = from.good;
            once = once_grown old.spots old.once;
            splits_are = omega (
              arith,
              from.splits_are,
              old.splits_are,
              stood old.spots old.once,
              count-split places k spot lower_place upper_place within is_inner,
              none,
            );
          };
        }

module _ (o : Opening) (opening : IsOpening o) where
  abbrev sets : List LayerSet
  sets = permitted_sets o.problem

  once_first : (k : ℕ) → times k (0 ∷ []) + one_if (is_inner (place_at (first_state o).places k).spot) ≡ 1
  once_first zero = refl
  once_first (suc k) = omega (arith, times-cons (suc k) 0 [], is_none 0 (suc k) (λ is. cc))

  -- the root alone is a tree
  first_tree : HasTreeOn (first_state o).places sets
  first_tree = record {
    tree = Leaf 0;
    is = record {
      spots = 0 ∷ [];
      is_tree = record { leaf = refl; table_is = refl; sets_are = refl; spots_are = refl };
      good = tt;
      once = once_first;
      splits_are = refl;
    };
  }

  leaf_tree : (places : List Place) (leaf : ℕ) (spot : Spot) → is_inner (place_at places leaf).spot ≡ false
      → is_inner spot ≡ false → HasTreeOn places sets → HasTreeOn (with_spot places leaf spot) sets
  leaf_tree places leaf spot was is has = tree_relabelled places leaf spot (leaf_within places leaf was) was is sets has

  split_tree : (s : State) (worker leaf table : ℕ) (trip : TripNo) (left : LayerSet) (prices : Prices) → IsSound o s
      → MaySplit o s worker leaf table trip left prices → HasTreeOn s.places sets
      → HasTreeOn (after s (Split worker leaf table trip left prices)).places sets
  split_tree s worker leaf table trip left prices sound may has =
      let was : is_inner (place_at s.places leaf).spot ≡ false = ap is_inner may.holds.1 in
      let within = leaf_within s.places leaf was in
      let each = (sound.restrictions leaf within).each_trip in
      tree_grown s.places leaf within was trip left table (omega (arith, each, may.of_instance)) may.part sets has

  step_tree : (s : State) (step : FullStep) → IsSound o s → MayCome o s step → HasTreeOn s.places sets
      → HasTreeOn (after s step).places sets
  step_tree s (Took worker leaf) sound may has =
      leaf_tree s.places leaf (Held worker (table_of (spot_at s leaf))) (ap is_inner may.next.free.1) refl has
  step_tree s (Split worker leaf table trip left prices) sound may has =
      split_tree s worker leaf table trip left prices sound may has
  step_tree s (Closed worker leaf table prices) sound may has =
      leaf_tree s.places leaf (ClosedSpot table) (ap is_inner may.holds.1) refl has
  step_tree s (Offered worker cost number added) sound may has = has
  step_tree s (GaveBack worker leaf) sound may has =
      leaf_tree s.places leaf (Free (table_of (spot_at s leaf))) (ap is_inner may.1) refl has

  steps_tree : (s : State) (steps : List FullStep) → IsSound o s → MayFollow o s steps → HasTreeOn s.places sets
      → HasTreeOn (state_after s steps).places sets
  steps_tree s [] sound may has = has
  steps_tree s (step ∷ steps) sound may has =
      steps_tree (after s step) steps (step_sound o opening s step may.0 sound) may.1 (step_tree s step sound may.0 has)

-- the law
pub states_are_trees : StatesAreTrees
states_are_trees o steps opening history =
    let has = steps_tree o opening (first_state o) steps (first_sound o opening) history (first_tree o opening) in
    let s = state_of o steps in (
      has.tree,
      record {
        spots = has.is.spots;
        is_tree = has.is.is_tree;
        good = has.is.good;
        leaves_are = leaves_at s.places has.tree 0 (permitted_sets o.problem) has.is.spots has.is.is_tree;
        once = has.is.once;
        splits_are = has.is.splits_are;
      },
    )
