-- Once a leaf was worked on, every leaf reaches the value at the starting multipliers.
use Rattle.std.proofs.Common.{◌≡◌, ◌≢◌, ℕ, zero, suc, ◌+◌, ◌<◌, ◌≤◌, Bool, true, false, List, [], ◌∷◌, length, get_or, refl, sym, ap, ◌∙◌, subst, arith, inl, inr, ℤ}
use Rattle.std.proofs.lemmas.Bool.{cases_eq, eq-eqb}
use Rattle.vs_types.specs.LayerSet.{Has}
use Rattle.vs_types.specs.declared.layer_set.LayerSet.{LayerSet}
use Rattle.vs_types.specs.declared.numbers.TripNo.{TripNo}
use Rattle.vs_instance.specs.Lagrangian.{IsLagrangianValue, IsStartingValue}
use Rattle.vs_instance.specs.Problem.{Problem}
use Rattle.vs_instance.specs.Restriction.{IsRestriction, permitted_sets, set_of}
use Rattle.vs_prices.specs.Bounds.{ReachesValue}
use Rattle.vs_prices.specs.Worth.{IsWorth, worth_of}
use Rattle.vs_prices.specs.declared.bound.Bound.{Bound}
use Rattle.vs_prices.specs.declared.table.Table.{Table}
use Rattle.vs_prices.proofs.CallerLemmas.{worth_of-IsWorth, left-restricts, right-restricts, reaches_more}
use Rattle.vs_tree.specs.declared.spot.Spot.{Spot}
use Rattle.vs_tree.specs.declared.spot.Spot.TheVariants.{Inner, Free, Held, Closed as ClosedSpot}
use Rattle.vs_tree.specs.Prices.{AreLawful, AreWorth, Prices, no_prices, prices_of}
use Rattle.vs_tree.specs.Sound.{IsOpening, IsSound}
use Rattle.vs_prices.specs.Tree.{right_of, with_set}
use Rattle.vs_tree.specs.History.{FullStep, Opening, Place, State, Took, Split, Closed, Offered, GaveBack, IsLeaf, IsLeafWorth, MayCome, MayFollow, MayGive, MaySplit, after, first_state, is_inner, left_part, place_at, prices_at, right_part, sets_at, spot_at, state_after, table_of, with_spot}
use Rattle.vs_tree.proofs.CallerLemmas.{lawful_worth, leaf_within, last-prices, split, other, lower, upper, nowhere, where_is, split-here, split-lower, split-nowhere, split-other, split-upper, first_sound, step_sound, leaves-kept, prices-kept, same-worth, sets-kept, spot-here, spot-there, narrower-no_less, with_set-within}
use Rattle.vs_types.proofs.CallerLemmas.{rest-within}
use Rattle.vs_node.specs.Laws.{WorkedSearchesReachTheStart}
use Rattle.vs_node.specs.WorkedHistory.{AreWorkedFrom, AreWorkedPrices, IsWorkedStep}
use Rattle.vs_node.specs.WorkedStep.{IsWorked}

module _ (o : Opening) (opening : IsOpening o) (value : ℤ) (start : IsStartingValue o.problem value) where
  abbrev p : Problem
  p = o.problem

  Reaches : State → Type 0
  Reaches s = (k : ℕ) (worth : Bound) → IsLeaf s k → IsLeafWorth p s k worth → ReachesValue worth value

  -- before a leaf was worked on there is the root alone, and after that each leaf reaches the value
  record IsBegun (s : State) : Type 0 where
    pub root : s.finished ≡ 0 → (k : ℕ) → IsLeaf s k → (k ≡ 0) × (sets_at s k ≡ permitted_sets p)
    pub reach : 1 ≤ s.finished → (k : ℕ) (worth : Bound) → IsLeaf s k → IsLeafWorth p s k worth
        → ReachesValue worth value

  -- a leaf beside another one reaches the value, since the root is alone before any leaf was worked on
  reach_other : (s : State) → IsBegun s → (leaf : ℕ) → IsLeaf s leaf → (j : ℕ) (worth : Bound) → j ≢ leaf → IsLeaf s j
      → IsLeafWorth p s j worth → ReachesValue worth value
  reach_other s begun leaf is_leaf j worth apart before is_worth =
      elim (cases_eq s.finished 0) [
        | inl none ↦
            let this = begun.root none j before in
            let that = begun.root none leaf is_leaf in
            absurd (apart (this.0 ∙ sym that.0))
        | inr some ↦ begun.reach (omega (arith, some)) j worth before is_worth
      ]

  -- where a leaf of a state becomes another kind of leaf with the same table
  module _ (s n : State) (k : ℕ) (spot : Spot) (within : k < length s.places)
      (places : n.places ≡ with_spot s.places k spot) (tables : n.tables ≡ s.tables)
      (finished : n.finished ≡ s.finished)
      (was : is_inner (spot_at s k) ≡ false) (leaf : is_inner spot ≡ false)
      (same_table : table_of spot ≡ table_of (spot_at s k)) (sound : IsSound o s) (begun : IsBegun s) where
    leaf_before : (j : ℕ) → IsLeaf n j → IsLeaf s j
    leaf_before j is = sym (leaves-kept s n k spot within places was leaf j) ∙ is

    table-kept : (j : ℕ) → table_of (spot_at n j) ≡ table_of (spot_at s j)
    table-kept j =
        elim (cases_eq j k) [
          | inl here ↦
              ap (λ (i : ℕ). table_of (spot_at n i)) here ∙ ap table_of (spot-here s n k spot within places)
              ∙ same_table
              ∙ ap (λ (i : ℕ). table_of (spot_at s i)) (sym here)
          | inr apart ↦ ap table_of (spot-there s n k spot within places j apart)
        ]

    worth_before : (j : ℕ) (worth : Bound) → IsLeafWorth p n j worth → IsLeafWorth p s j worth
    worth_before j worth is =
        same-worth p s n j worth (sets-kept s n k spot within places j)
        (ap (λ (ts : List Prices). get_or ts (table_of (spot_at n j)) no_prices) tables
        ∙ ap (λ (t : ℕ). get_or s.tables t no_prices) (table-kept j)) is

    begun_still : IsBegun n
    begun_still = record {
      root = λ none j is.
          let root = begun.root (sym finished ∙ none) j (leaf_before j is) in
          (root.0, sets-kept s n k spot within places j ∙ root.1);
      reach = λ some j worth is is_worth.
          begun.reach (omega (arith, some, finished)) j worth (leaf_before j is) (worth_before j worth is_worth);
    }

  -- what a leaf's new table is worth within its layers
  module _ (s : State) (leaf table : ℕ) (prices : Prices) (is_leaf : IsLeaf s leaf)
      (gives : MayGive p s leaf table prices) (worked : AreWorkedPrices o s leaf prices) (sound : IsSound o s)
      (begun : IsBegun s) where
    lawful_before : AreLawful p (prices_at s leaf)
    lawful_before = sound.tables (table_of (spot_at s leaf)) no_prices (sound.numbers leaf is_leaf)

    first_work : s.finished ≡ 0 → (t : Table) (worth : Bound) → prices_of t ≡ prices
        → IsWorth p (sets_at s leaf) t worth → ReachesValue worth value
    first_work none t worth listed is_worth =
        let root = begun.root none leaf is_leaf in
        let old = lawful_before in
        let done : IsWorked p true (sets_at s leaf) old.table t =
        subst (λ (b : Bool). IsWorked p b (sets_at s leaf) old.table t) (eq-eqb leaf 0 root.0)
        (worked old.table t old.listed listed) in
        done start.multipliers (record { each_trip = start.each_trip; start = start.start }) worth value is_worth
        (subst (λ (sets : List LayerSet). IsLagrangianValue p sets start.multipliers value) (sym root.1) start.value_is)

    later_work : 1 ≤ s.finished → (worth : Bound) → AreWorth p (sets_at s leaf) prices worth → ReachesValue worth value
    later_work some worth is_worth =
        let before = lawful_worth p (sets_at s leaf) (prices_at s leaf) lawful_before in
        reaches_more worth before.0 value (gives.no_less worth before.0 is_worth before.1)
        (begun.reach some leaf before.0 is_leaf before.1)

    work_reaches : (t : Table) (worth : Bound) → prices_of t ≡ prices → IsWorth p (sets_at s leaf) t worth
        → ReachesValue worth value
    work_reaches t worth listed is_worth =
        elim (cases_eq s.finished 0) [
          | inl none ↦ first_work none t worth listed is_worth
          | inr some ↦
              later_work (omega (arith, some)) worth (record { table = t; listed = listed; worth = is_worth })
        ]

  -- where a leaf is closed
  module _ (s : State) (worker leaf table : ℕ) (prices : Prices) (may : MayCome o s (Closed worker leaf table prices))
      (worked : AreWorkedPrices o s leaf prices) (sound : IsSound o s) (begun : IsBegun s) where
    abbrev closed : State
    closed = after s (Closed worker leaf table prices)

    closed_was : is_inner (spot_at s leaf) ≡ false
    closed_was = ap is_inner may.holds.1

    closed_within : leaf < length s.places
    closed_within = leaf_within s.places leaf closed_was

    closed_before : (j : ℕ) → IsLeaf closed j → IsLeaf s j
    closed_before j is = sym (leaves-kept s closed leaf (ClosedSpot table) closed_within refl closed_was refl j) ∙ is

    closed_sets : (j : ℕ) → sets_at closed j ≡ sets_at s j
    closed_sets = sets-kept s closed leaf (ClosedSpot table) closed_within refl

    closed_reach : (j : ℕ) (worth : Bound) → IsLeaf closed j → IsLeafWorth p closed j worth → ReachesValue worth value
    closed_reach j worth is is_worth =
        elim (cases_eq j leaf) [
          | inl here ↦
              let spot-is : spot_at closed j ≡ ClosedSpot table =
              ap (spot_at closed) here ∙ spot-here s closed leaf (ClosedSpot table) closed_within refl in
              let prices-are : prices_at closed j ≡ prices =
              ap (λ (q : Spot). get_or closed.tables (table_of q) no_prices) spot-is
              ∙ last-prices s.tables prices table may.gives.number in
              let sets-are : sets_at closed j ≡ sets_at s leaf = closed_sets j ∙ ap (sets_at s) here in
              work_reaches s leaf table prices closed_was may.gives worked sound begun is_worth.table worth
              (is_worth.listed ∙ prices-are)
              (subst (λ (sets : List LayerSet). IsWorth p sets is_worth.table worth) sets-are is_worth.worth)
          | inr apart ↦
              let before = closed_before j is in
              let same = spot-there s closed leaf (ClosedSpot table) closed_within refl j apart in
              let old = same-worth p s closed j worth (closed_sets j)
              (prices-kept s closed j (prices ∷ []) refl (sound.numbers j before) same) is_worth in
              reach_other s begun leaf closed_was j worth apart before old
        ]

    closed_begun : IsBegun closed
    closed_begun = record {
      root = λ none j is. absurd (omega (arith, none));
      reach = λ some j worth is is_worth. closed_reach j worth is is_worth;
    }

  -- where a leaf is split
  module _ (s : State) (worker leaf table : ℕ) (trip : TripNo) (left : LayerSet) (prices : Prices)
      (may : MaySplit o s worker leaf table trip left prices) (worked : AreWorkedPrices o s leaf prices)
      (sound : IsSound o s) (begun : IsBegun s) where
    abbrev parted : State
    parted = after s (Split worker leaf table trip left prices)

    abbrev size : ℕ
    size = length s.places

    abbrev inner : Spot
    inner = Inner trip left size (size + 1)

    abbrev sets : List LayerSet
    sets = sets_at s leaf

    split_was : is_inner (spot_at s leaf) ≡ false
    split_was = ap is_inner may.holds.1

    split_within : leaf < size
    split_within = leaf_within s.places leaf split_was

    restriction : IsRestriction p sets
    restriction = sound.restrictions leaf split_within

    inside : trip.0 < length sets
    inside = omega (arith, restriction.each_trip, may.of_instance)

    -- a part with its table reaches the value
    part_reach : (layers : LayerSet) → IsRestriction p (with_set sets trip layers)
        → ((l : ℕ) → Has layers l → Has (set_of sets trip.0) l) → (worth : Bound)
        → AreWorth p (with_set sets trip layers) prices worth → ReachesValue worth value
    part_reach layers restricts part worth is_worth =
        let t = is_worth.table in
        let whole = worth_of p sets t in
        let is_whole = worth_of-IsWorth p sets t in
        let reached = work_reaches s leaf table prices split_was may.gives worked sound begun t whole is_worth.listed
        is_whole in
        reaches_more worth whole value
        (narrower-no_less p sets (with_set sets trip layers) restricts
        (with_set-within sets trip layers inside part) t worth whole is_worth.worth is_whole) reached

    -- one of the two new places
    module _ (j : ℕ) (layers : LayerSet)
        (is_place : place_at parted.places j ≡ record { spot = Free table; sets = with_set sets trip layers })
        (restricts : IsRestriction p (with_set sets trip layers))
        (part : (l : ℕ) → Has layers l → Has (set_of sets trip.0) l) where
      new_reach : (worth : Bound) → IsLeafWorth p parted j worth → ReachesValue worth value
      new_reach worth is_worth =
          let prices-are : prices_at parted j ≡ prices =
          ap (λ (q : Place). get_or parted.tables (table_of q.spot) no_prices) is_place
          ∙ last-prices s.tables prices table may.gives.number in
          let sets-are : sets_at parted j ≡ with_set sets trip layers = ap (λ (q : Place). q.sets) is_place in
          part_reach layers restricts part worth (record {
            table = is_worth.table;
            listed = is_worth.listed ∙ prices-are;
            worth = subst (λ (some : List LayerSet). IsWorth p some is_worth.table worth) sets-are is_worth.worth;
          })

    split_reach : (j : ℕ) (worth : Bound) → IsLeaf parted j → IsLeafWorth p parted j worth → ReachesValue worth value
    split_reach j worth is is_worth =
        elim (where_is size leaf j) [
          | split here ↦
              let at = split-here s.places leaf inner (left_part s leaf table trip left)
              (right_part s leaf table trip left)
              split_within in
              let inner-is : is_inner (spot_at parted j) ≡ true =
              ap (λ (i : ℕ). is_inner (spot_at parted i)) here ∙ ap (λ (q : Place). is_inner q.spot) at in
              absurd cc
          | other apart below ↦
              let at = split-other s.places leaf inner (left_part s leaf table trip left)
              (right_part s leaf table trip left) split_within j apart below in
              let same : spot_at parted j ≡ spot_at s j = ap (λ (q : Place). q.spot) at in
              let before : IsLeaf s j = ap is_inner (sym same) ∙ is in
              let old = same-worth p s parted j worth (ap (λ (q : Place). q.sets) at)
              (prices-kept s parted j (prices ∷ []) refl (sound.numbers j before) same) is_worth in
              reach_other s begun leaf split_was j worth apart before old
          | lower here ↦
              new_reach j left
              (split-lower s.places leaf inner (left_part s leaf table trip left) (right_part s leaf table trip left)
              split_within j here)
              (left-restricts p sets trip left inside may.part restriction) may.part.within worth is_worth
          | upper here ↦
              new_reach j (right_of sets trip left)
              (split-upper s.places leaf inner (left_part s leaf table trip left) (right_part s leaf table trip left)
              split_within j here)
              (right-restricts p sets trip left inside may.part restriction)
              (rest-within (set_of sets trip.0) left) worth is_worth
          | nowhere past ↦
              let at = split-nowhere s.places leaf inner (left_part s leaf table trip left)
              (right_part s leaf table trip left) split_within j past in
              let inner-is : is_inner (spot_at parted j) ≡ true = ap (λ (q : Place). is_inner q.spot) at in
              absurd cc
        ]

    split_begun : IsBegun parted
    split_begun = record {
      root = λ none j is. absurd (omega (arith, none));
      reach = λ some j worth is is_worth. split_reach j worth is is_worth;
    }

  step_begun : (s : State) (step : FullStep) → MayCome o s step → IsWorkedStep o s step → IsSound o s → IsBegun s
      → IsBegun (after s step)
  step_begun s (Took worker leaf) may worked sound begun =
      let was : is_inner (spot_at s leaf) ≡ false = ap is_inner may.next.free.1 in
      begun_still s (after s (Took worker leaf)) leaf (Held worker (table_of (spot_at s leaf)))
      (leaf_within s.places leaf was) refl refl refl was refl refl sound begun
  step_begun s (Split worker leaf table trip left prices) may worked sound begun =
      split_begun s worker leaf table trip left prices may worked sound begun
  step_begun s (Closed worker leaf table prices) may worked sound begun =
      closed_begun s worker leaf table prices may worked sound begun
  step_begun s (Offered worker cost number added) may worked sound begun =
      record { root = begun.root; reach = begun.reach }
  step_begun s (GaveBack worker leaf) may worked sound begun =
      let was : is_inner (spot_at s leaf) ≡ false = ap is_inner may.1 in
      begun_still s (after s (GaveBack worker leaf)) leaf (Free (table_of (spot_at s leaf)))
      (leaf_within s.places leaf was) refl refl refl was refl refl sound begun

  steps_begun : (s : State) (steps : List FullStep) → MayFollow o s steps → AreWorkedFrom o s steps → IsSound o s
      → IsBegun s → IsBegun (state_after s steps)
  steps_begun s [] may worked sound begun = begun
  steps_begun s (step ∷ steps) may worked sound begun =
      steps_begun (after s step) steps may.1 worked.1 (step_sound o opening s step may.0 sound)
      (step_begun s step may.0 worked.0 sound begun)

  first_begun : IsBegun (first_state o)
  first_begun = record { root = λ none k is. only_root k is; reach = λ some. absurd (omega (arith, some)) }
    where
      only_root : (k : ℕ) → IsLeaf (first_state o) k → (k ≡ 0) × (sets_at (first_state o) k ≡ permitted_sets p)
      only_root zero is = (refl, refl)
      only_root (suc k) is = absurd cc

-- the law
pub worked_searches_reach_the_start : WorkedSearchesReachTheStart
worked_searches_reach_the_start o steps k worth value opening history worked some is is_worth start =
    let begun = steps_begun o opening value start (first_state o) steps history worked (first_sound o opening)
    (first_begun o opening value start) in
    begun.reach some k worth is is_worth
