-- A state stays sound where a leaf is split.
use Rattle.std.proofs.Common.{◌≡◌, ◌≢◌, ℕ, ◌+◌, ◌<◌, ◌≤◌, Bool, true, false, List, [], ◌∷◌, length, get_or, refl, sym, ap, ◌∙◌, subst, arith, inl, inr, cond, pos}
use Rattle.std.proofs.lemmas.Bool.{cases_eq}
use Rattle.vs_types.specs.LayerSet.{Has}
use Rattle.vs_types.specs.declared.layer_set.LayerSet.{LayerSet}
use Rattle.vs_types.specs.declared.numbers.TripNo.{TripNo}
use Rattle.vs_instance.specs.Instance.{IsInstance}
use Rattle.vs_instance.specs.Plan.{LayerBlock, IsPlan}
use Rattle.vs_instance.specs.Restriction.{IsRestriction, IsWithin, set_of}
use Rattle.vs_prices.specs.declared.bound.Bound.{Bound}
use Rattle.vs_prices.specs.declared.bound.Bound.TheVariants.{AtLeast}
use Rattle.vs_prices.specs.Bounds.{IsBelow, IsNoLess}
use Rattle.vs_prices.specs.Worth.{IsWorth, worth_of}
use Rattle.vs_tree.specs.declared.spot.Spot.{Spot}
use Rattle.vs_tree.specs.declared.spot.Spot.TheVariants.{Inner, Free, Held, Closed as ClosedSpot}
use Rattle.vs_tree.specs.Prices.{AreWorth, Prices, no_prices}
use Rattle.vs_prices.specs.Tree.{right_of, with_set}
use Rattle.vs_tree.specs.History.{Opening, Place, State, Split, IsClosed, IsHeldBy, IsLeaf, IsLeafWorth, MaySplit, after, count_spots, is_closed, is_held, is_inner, known, left_part, no_place, place_at, prices_at, right_part, sets_at, spot_at, table_of}
use Rattle.vs_tree.specs.Sound.{IsIn, IsInOneLeaf, IsSound}
use Rattle.vs_tree.proofs.Spots.{leaf_within}
use Rattle.vs_prices.proofs.CallerLemmas.{no_less-trans, worth_of-IsWorth, left-restricts, restriction-layers, right-restricts, IsRunIn, run_once, narrower, runs_in, wider}
use Rattle.vs_types.proofs.CallerLemmas.{rest-within, shares_out, SharesOut}
use Rattle.vs_tree.proofs.NarrowerSets.{narrower-no_less, with_set-within}
use Rattle.vs_tree.proofs.sound.Worths.{new_worth}
use Rattle.vs_tree.proofs.sound.Closed.{all-more, last-prices, one-more}
use Rattle.vs_tree.proofs.sound.Grown.{split, other, lower, upper, nowhere, where_is, count-split, length-split, split-here, split-lower, split-nowhere, split-other, split-upper}
use Rattle.vs_tree.proofs.sound.Relabelled.{prices-kept, same-worth}

module _ (o : Opening) (s : State) (worker leaf table : ℕ) (trip : TripNo) (left : LayerSet) (prices : Prices)
    (may : MaySplit o s worker leaf table trip left prices) (instance : IsInstance o.problem) (sound : IsSound o s)
  where
    abbrev n : State
    n = after s (Split worker leaf table trip left prices)

    abbrev size : ℕ
    size = length s.places

    abbrev inner : Spot
    inner = Inner trip left size (size + 1)

    abbrev on_left : Place
    on_left = left_part s leaf table trip left

    abbrev on_right : Place
    on_right = right_part s leaf table trip left

    -- the layers at the leaf, and those of the trip on the right
    abbrev sets : List LayerSet
    sets = sets_at s leaf

    abbrev right : LayerSet
    right = right_of sets trip left

    holds : spot_at s leaf ≡ Held worker may.holds.0
    holds = may.holds.1

    was : is_inner (spot_at s leaf) ≡ false
    was = ap is_inner holds

    within : leaf < size
    within = leaf_within s.places leaf was

    restriction : IsRestriction o.problem sets
    restriction = sound.restrictions leaf within

    inside : trip.0 < length sets
    inside = omega (arith, restriction.each_trip, may.of_instance)

    pub at_leaf : place_at n.places leaf ≡ record { spot = inner; sets = sets }
    at_leaf = split-here s.places leaf inner on_left on_right within

    at_other : (j : ℕ) → j ≢ leaf → j < size → place_at n.places j ≡ place_at s.places j
    at_other = split-other s.places leaf inner on_left on_right within

    pub at_lower : (j : ℕ) → j ≡ size → place_at n.places j ≡ on_left
    at_lower = split-lower s.places leaf inner on_left on_right within

    pub at_upper : (j : ℕ) → j ≡ size + 1 → place_at n.places j ≡ on_right
    at_upper = split-upper s.places leaf inner on_left on_right within

    pub at_nowhere : (j : ℕ) → size + 2 ≤ j → place_at n.places j ≡ no_place
    at_nowhere = split-nowhere s.places leaf inner on_left on_right within

    -- the leaf is none now, and nothing is past the end
    pub leaf_no_more : (j : ℕ) → j ≡ leaf → IsLeaf n j → ⊥
    leaf_no_more j here is =
        let at : is_inner (spot_at n leaf) ≡ true = ap (λ (q : Place). is_inner q.spot) at_leaf in
        let moved : is_inner (spot_at n leaf) ≡ false = ap (λ (i : ℕ). is_inner (spot_at n i)) (sym here) ∙ is in
        absurd cc

    pub none_past : (j : ℕ) → size + 2 ≤ j → IsLeaf n j → ⊥
    none_past j past is =
        let at : is_inner (spot_at n j) ≡ true = ap (λ (q : Place). is_inner q.spot) (at_nowhere j past) in
        absurd cc

    pub spot_other : (j : ℕ) → j ≢ leaf → j < size → spot_at n j ≡ spot_at s j
    spot_other j apart below = ap (λ (q : Place). q.spot) (at_other j apart below)

    pub sets_other : (j : ℕ) → j ≢ leaf → j < size → sets_at n j ≡ sets_at s j
    sets_other j apart below = ap (λ (q : Place). q.sets) (at_other j apart below)

    module _ (blocks : List LayerBlock) where
      abbrev W : List LayerSet → Type 0
      W x = IsWithin x blocks

      in_other : (j : ℕ) → j ≢ leaf → j < size → IsIn n blocks j → IsIn s blocks j
      in_other j apart below is = record {
        leaf = ap is_inner (sym (spot_other j apart below)) ∙ is.leaf;
        within = subst W (sets_other j apart below) is.within;
      }

      other_in : (j : ℕ) → j ≢ leaf → IsIn s blocks j → IsIn n blocks j
      other_in j apart is =
          let below = leaf_within s.places j is.leaf in
          record {
            leaf = ap is_inner (spot_other j apart below) ∙ is.leaf;
            within = subst W (sym (sets_other j apart below)) is.within;
          }

      in_lower : (j : ℕ) → j ≡ size → IsIn n blocks j → W (with_set sets trip left)
      in_lower j here is = subst W (ap (λ (q : Place). q.sets) (at_lower j here)) is.within

      in_upper : (j : ℕ) → j ≡ size + 1 → IsIn n blocks j → W (with_set sets trip right)
      in_upper j here is = subst W (ap (λ (q : Place). q.sets) (at_upper j here)) is.within

      lower_in : W (with_set sets trip left) → IsIn n blocks size
      lower_in in_left = record {
        leaf = ap (λ (q : Place). is_inner q.spot) (at_lower size refl);
        within = subst W (sym (ap (λ (q : Place). q.sets) (at_lower size refl))) in_left;
      }

      upper_in : W (with_set sets trip right) → IsIn n blocks (size + 1)
      upper_in in_right = record {
        leaf = ap (λ (q : Place). is_inner q.spot) (at_upper (size + 1) refl);
        within = subst W (sym (ap (λ (q : Place). q.sets) (at_upper (size + 1) refl))) in_right;
      }

      -- what lies in one of the two parts lay in the leaf
      leaf_from_lower : W (with_set sets trip left) → IsIn s blocks leaf
      leaf_from_lower in_left =
          record { leaf = was; within = wider sets trip left inside blocks may.part.within in_left }

      leaf_from_upper : W (with_set sets trip right) → IsIn s blocks leaf
      leaf_from_upper in_right = record {
        leaf = was;
        within = wider sets trip right inside blocks (rest-within (set_of sets trip.0) left) in_right;
      }

      -- blocks of another leaf lie there still
      elsewhere : (one : IsInOneLeaf s blocks) → one.leaf ≢ leaf → IsInOneLeaf n blocks
      elsewhere one apart = record {
        leaf = one.leaf;
        is_in = other_in one.leaf apart one.is_in;
        only = λ j is. elim (where_is size leaf j) [
          | split here ↦ absurd (leaf_no_more j here is.leaf)
          | other aside below ↦ one.only j (in_other j aside below is)
          | lower here ↦ absurd (apart (sym (one.only leaf (leaf_from_lower (in_lower j here is)))))
          | upper here ↦ absurd (apart (sym (one.only leaf (leaf_from_upper (in_upper j here is)))))
          | nowhere past ↦ absurd (none_past j past is.leaf)
        ];
      }

      module _ (one : IsInOneLeaf s blocks) (here : one.leaf ≡ leaf) (layer : ℕ) (run : IsRunIn trip.0 layer blocks)
          (shares : SharesOut (set_of sets trip.0) left right) where
        in_leaf : W sets
        in_leaf = subst (λ (i : ℕ). W (sets_at s i)) here one.is_in.within

        not_other : (j : ℕ) → j ≢ leaf → j < size → IsIn n blocks j → ⊥
        not_other j apart below is = apart (one.only j (in_other j apart below is) ∙ here)

        -- where the trip is run in a layer on the left, the blocks lie in the lower part, else in the upper one
        on_the_left : Has left layer → IsInOneLeaf n blocks
        on_the_left has = record {
          leaf = size;
          is_in = lower_in (narrower sets trip left inside blocks layer run has in_leaf);
          only = λ j is. elim (where_is size leaf j) [
            | split at ↦ absurd (leaf_no_more j at is.leaf)
            | other aside below ↦ absurd (not_other j aside below is)
            | lower at ↦ at
            | upper at ↦
                absurd (shares.once layer has (runs_in sets trip right inside blocks layer run (in_upper j at is)))
            | nowhere past ↦ absurd (none_past j past is.leaf)
          ];
        }

        on_the_right : Has right layer → IsInOneLeaf n blocks
        on_the_right has = record {
          leaf = size + 1;
          is_in = upper_in (narrower sets trip right inside blocks layer run has in_leaf);
          only = λ j is. elim (where_is size leaf j) [
            | split at ↦ absurd (leaf_no_more j at is.leaf)
            | other aside below ↦ absurd (not_other j aside below is)
            | lower at ↦
                absurd (shares.once layer (runs_in sets trip left inside blocks layer run (in_lower j at is)) has)
            | upper at ↦ at
            | nowhere past ↦ absurd (none_past j past is.leaf)
          ];
        }

        parted : IsInOneLeaf n blocks
        parted = elim ((shares.each layer).0 (run.somewhere sets in_leaf)) [
          | inl has ↦ on_the_left has
          | inr has ↦ on_the_right has
        ]

      shared : IsPlan o.problem blocks → IsInOneLeaf n blocks
      shared plan =
          let one = sound.shared_out blocks plan in
          let run = run_once trip.0 blocks (plan.once trip.0 may.of_instance) in
          let shares = shares_out (set_of sets trip.0) left
          (λ l has. restriction-layers o.problem sets instance restriction trip.0 l inside has) may.part in
          elim (cases_eq one.leaf leaf) [
            | inl here ↦ parted one here run.0 run.1 shares
            | inr apart ↦ elsewhere one apart
          ]

    restrictions : (j : ℕ) → j < length n.places → IsRestriction o.problem (sets_at n j)
    restrictions j below =
        let R : List LayerSet → Type 0 = λ x. IsRestriction o.problem x in
        let count = length-split s.places leaf inner on_left on_right within in
        elim (where_is size leaf j) [
          | split here ↦
              let at : sets_at n j ≡ sets =
              ap (λ (i : ℕ). sets_at n i) here ∙ ap (λ (q : Place). q.sets) at_leaf in
              subst R (sym at) restriction
          | other apart inside_old ↦ subst R (sym (sets_other j apart inside_old)) (sound.restrictions j inside_old)
          | lower here ↦
              subst R (sym (ap (λ (q : Place). q.sets) (at_lower j here)))
              (left-restricts o.problem sets trip left inside may.part restriction)
          | upper here ↦
              subst R (sym (ap (λ (q : Place). q.sets) (at_upper j here)))
              (right-restricts o.problem sets trip left inside may.part restriction)
          | nowhere past ↦ absurd (omega (arith, below, count, past))
        ]

    more : length n.tables ≡ length s.tables + 1
    more = one-more s.tables prices

    numbers : (j : ℕ) → IsLeaf n j → table_of (spot_at n j) < length n.tables
    numbers j is =
        elim (where_is size leaf j) [
          | split here ↦ absurd (leaf_no_more j here is)
          | other apart below ↦
              let same : table_of (spot_at n j) ≡ table_of (spot_at s j) = ap table_of (spot_other j apart below) in
              let old = sound.numbers j (ap is_inner (sym (spot_other j apart below)) ∙ is) in
              omega (arith, same, old, more)
          | lower here ↦
              let same : table_of (spot_at n j) ≡ table = ap (λ (q : Place). table_of q.spot) (at_lower j here) in
              omega (arith, same, more, may.gives.number)
          | upper here ↦
              let same : table_of (spot_at n j) ≡ table = ap (λ (q : Place). table_of q.spot) (at_upper j here) in
              omega (arith, same, more, may.gives.number)
          | nowhere past ↦ absurd (none_past j past is)
        ]

    -- a part is worth no less than the leaf with the new table, and so no less than 0
    part_worth : (layers : LayerSet) → IsRestriction o.problem (with_set sets trip layers)
        → ((l : ℕ) → Has layers l → Has (set_of sets trip.0) l) → (worth : Bound)
        → AreWorth o.problem (with_set sets trip layers) prices worth → IsNoLess worth (AtLeast (pos 0))
    part_worth layers restricts part worth is_worth =
        let t = is_worth.table in
        let whole = worth_of o.problem sets t in
        let is_whole = worth_of-IsWorth o.problem sets t in
        no_less-trans worth whole (AtLeast (pos 0))
        (narrower-no_less o.problem sets (with_set sets trip layers) restricts
        (with_set-within sets trip layers inside part) t worth whole is_worth.worth is_whole)
        (new_worth o s leaf table prices was may.gives sound whole
        (record { table = t; listed = is_worth.listed; worth = is_whole }))

    new_part : (j : ℕ) (layers : LayerSet)
        → place_at n.places j ≡ record { spot = Free table; sets = with_set sets trip layers }
        → IsRestriction o.problem (with_set sets trip layers) → ((l : ℕ) → Has layers l → Has (set_of sets trip.0) l)
        → (worth : Bound) → IsLeafWorth o.problem n j worth → IsNoLess worth (AtLeast (pos 0))
    new_part j layers is_place restricts part worth is_worth =
        let prices-are : prices_at n j ≡ prices =
        ap (λ (q : Place). get_or n.tables (table_of q.spot) no_prices) is_place
        ∙ last-prices s.tables prices table may.gives.number in
        let sets-are : sets_at n j ≡ with_set sets trip layers = ap (λ (q : Place). q.sets) is_place in
        part_worth layers restricts part worth (record {
          table = is_worth.table;
          listed = is_worth.listed ∙ prices-are;
          worth = subst (λ (some : List LayerSet). IsWorth o.problem some is_worth.table worth) sets-are is_worth.worth;
        })

    worths : (j : ℕ) (worth : Bound) → IsLeaf n j → IsLeafWorth o.problem n j worth → IsNoLess worth (AtLeast (pos 0))
    worths j worth is is_worth =
        elim (where_is size leaf j) [
          | split here ↦ absurd (leaf_no_more j here is)
          | other apart below ↦
              let same = spot_other j apart below in
              let old : IsLeaf s j = ap is_inner (sym same) ∙ is in
              sound.worths j worth old
              (same-worth o.problem s n j worth (sets_other j apart below)
              (prices-kept s n j (prices ∷ []) refl (sound.numbers j old) same) is_worth)
          | lower here ↦
              new_part j left (at_lower j here)
              (left-restricts o.problem sets trip left inside may.part restriction) may.part.within worth is_worth
          | upper here ↦
              new_part j right (at_upper j here)
              (right-restricts o.problem sets trip left inside may.part restriction)
              (rest-within (set_of sets trip.0) left) worth is_worth
          | nowhere past ↦ absurd (none_past j past is)
        ]

    -- what is closed or held then was so before
    old_spot : (kind : Spot → Bool) → kind inner ≡ false → kind (Free table) ≡ false → kind no_place.spot ≡ false
        → (j : ℕ) → kind (spot_at n j) ≡ true → (j ≢ leaf) × (j < size)
    old_spot kind no_inner no_free no_past j is =
        elim (where_is size leaf j) [
          | split here ↦
              let at : kind (spot_at n j) ≡ false =
              ap (λ (i : ℕ). kind (spot_at n i)) here ∙ ap (λ (q : Place). kind q.spot) at_leaf ∙ no_inner in
              absurd cc
          | other apart below ↦ (apart, below)
          | lower here ↦
              let at : kind (spot_at n j) ≡ false = ap (λ (q : Place). kind q.spot) (at_lower j here) ∙ no_free in
              absurd cc
          | upper here ↦
              let at : kind (spot_at n j) ≡ false = ap (λ (q : Place). kind q.spot) (at_upper j here) ∙ no_free in
              absurd cc
          | nowhere past ↦
              let at : kind (spot_at n j) ≡ false = ap (λ (q : Place). kind q.spot) (at_nowhere j past) ∙ no_past in
              absurd cc
        ]

    pub before : (one j : ℕ) → IsHeldBy n one j → IsHeldBy s one j
    before one j (number, is) =
        let old = old_spot is_held refl refl refl j (ap is_held is) in
        (number, sym (spot_other j old.0 old.1) ∙ is)

    closed : (j : ℕ) (worth : Bound) → IsClosed n j → IsLeafWorth o.problem n j worth → ¬ (IsBelow worth (known s))
    closed j worth (number, is) is_worth =
        let old = old_spot is_closed refl refl refl j (ap is_closed is) in
        let was_closed : spot_at s j ≡ ClosedSpot number = sym (spot_other j old.0 old.1) ∙ is in
        let below = sound.numbers j (ap is_inner was_closed) in
        sound.closed j worth (number, was_closed)
        (same-worth o.problem s n j worth (sets_other j old.0 old.1)
        (prices-kept s n j (prices ∷ []) refl below (spot_other j old.0 old.1)) is_worth)

    pub counted : (kind : Spot → Bool) → count_spots kind n.places + cond (kind (spot_at s leaf)) 1 0
        ≡ count_spots kind s.places + cond (kind inner) 1 0 + cond (kind (Free table)) 1 0
        + cond (kind (Free table)) 1 0
    counted = count-split s.places leaf inner on_left on_right within

    pub split_sound : IsSound o n
    split_sound =
        let none_inner = ap {B = ℕ} (λ (b : Bool). cond b 1 0) was in
        let none_closed = ap {B = ℕ} (λ (b : Bool). cond b 1 0) (ap is_closed holds) in
        let one_held = ap {B = ℕ} (λ (b : Bool). cond b 1 0) (ap is_held holds) in
        let inners = counted is_inner in
        let closes = counted is_closed in
        let helds = counted is_held in
        record {
          shared_out = shared;
          tables = all-more o.problem s.tables prices sound.tables may.gives.lawful;
          restrictions = restrictions;
          numbers = numbers;
          worths = worths;
          plans = sound.plans;
          cheaper = sound.cheaper;
          closed = closed;
          finished = omega (arith, inners, closes, none_inner, none_closed, sound.finished);
          count_tables = omega (arith, more, sound.count_tables);
          budget = omega (arith, helds, one_held, sound.budget);
          one_leaf = λ one i j first second. sound.one_leaf one i j (before one i first) (before one j second);
          gone = λ one j among held. sound.gone one j among (before one j held);
        }
