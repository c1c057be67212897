-- What the steps of other workers leave to a worker.
use Rattle.std.proofs.Common.{◌≡◌, ◌≢◌, ℕ, ◌+◌, ◌<◌, ◌==◌, true, false, not, List, [], ◌∷◌, ◌++◌, length, refl, sym, ap, ◌∙◌, subst, inl, inr, append-nil, append_assoc, Option, Some, None, option_map, ℤ}
use Rattle.std.proofs.lemmas.Bool.{cases_eq}
use Rattle.std.specs.List.{last_or}
use Rattle.vs_types.specs.declared.layer_set.LayerSet.{LayerSet}
use Rattle.vs_types.specs.declared.numbers.TripNo.{TripNo}
use Rattle.vs_plan.specs.CheckedPlan.{Checked}
use Rattle.vs_prices.specs.Bounds.{IsBelow}
use Rattle.vs_prices.specs.declared.bound.Bound.{Bound}
use Rattle.vs_tree.specs.Entries.{worker_of}
use Rattle.vs_tree.specs.History.{FullStep, Opening, Place, State, Took, Split, Closed, Offered, GaveBack, IsAmong, IsHeldBy, MayClose, MayCome, MayOffer, MaySplit, MayTake, after, is_held, is_inner, known, left_part, no_place, place_at, plans_of, right_part, sets_at, spot_at, table_of, with_spot}
use Rattle.vs_tree.specs.Prices.{Prices}
use Rattle.vs_tree.specs.declared.spot.Spot.{Spot}
use Rattle.vs_tree.specs.declared.spot.Spot.TheVariants.{Inner, Free, Held, Closed as ClosedSpot}
use Rattle.vs_tree.proofs.CallerLemmas.{below-before, cheaper_or_not, last-more, leaf_within, among-filter, among-cons, split, other, lower, upper, nowhere, where_is, split-here, split-lower, split-nowhere, split-other, split-upper, held-before, sets-kept, spot-here, spot-there}

-- the worker's leaf is as it was, it holds no other one, it hasn't given back nor offered anything, there are more
-- tables, and what is known costs no more
pub record Keeps (s n : State) (worker : ℕ) : Type 0 where
  pub spot : (k : ℕ) → IsHeldBy s worker k → spot_at n k ≡ spot_at s k
  pub sets : (k : ℕ) → IsHeldBy s worker k → sets_at n k ≡ sets_at s k
  pub back : (k : ℕ) → IsHeldBy n worker k → IsHeldBy s worker k
  pub stays : IsAmong worker n.gone → IsAmong worker s.gone
  pub offered : IsAmong worker n.offered → IsAmong worker s.offered
  pub more : List Prices
  pub tables : n.tables ≡ s.tables ++ more
  pub room : (worth : Bound) → IsBelow worth (known n) → IsBelow worth (known s)

-- a leaf that another worker holds is another leaf
apart-leaf : (s : State) (worker mine leaf k : ℕ) → worker ≢ mine → IsHeldBy s worker leaf → IsHeldBy s mine k
    → k ≢ leaf
apart-leaf s worker mine leaf k apart theirs held same =
    let at : Held worker theirs.0 ≡ Held mine held.0 = sym theirs.1 ∙ ap (spot_at s) (sym same) ∙ held.1 in
    let alike : worker ≡ mine = cc in
    apart alike

-- where another worker takes a leaf
module _ (o : Opening) (s : State) (worker leaf mine : ℕ) (may : MayTake o s worker leaf) (apart : worker ≢ mine) where
  abbrev taken : Spot
  taken = Held worker (table_of (spot_at s leaf))

  taken_within : leaf < length s.places
  taken_within = leaf_within s.places leaf (ap is_inner may.next.free.1)

  abbrev after_take : State
  after_take = after s (Took worker leaf)

  not_taken : (k : ℕ) → IsHeldBy s mine k → k ≢ leaf
  not_taken k held same =
      let at : Free may.next.free.0 ≡ Held mine held.0 =
      sym may.next.free.1 ∙ ap (spot_at s) (sym same) ∙ held.1 in
      absurd cc

  taken_back : (k : ℕ) → IsHeldBy after_take mine k → IsHeldBy s mine k
  taken_back k held =
      elim (cases_eq k leaf) [
        | inl same ↦
            let at : taken ≡ Held mine held.0 =
            sym (spot-here s after_take leaf taken taken_within refl) ∙ ap (spot_at after_take) (sym same) ∙ held.1 in
            let alike : worker ≡ mine = cc in
            absurd (apart alike)
        | inr aside ↦ (held.0, sym (spot-there s after_take leaf taken taken_within refl k aside) ∙ held.1)
      ]

  took_keeps : Keeps s after_take mine
  took_keeps = record {
    spot = λ k held. spot-there s after_take leaf taken taken_within refl k (not_taken k held);
    sets = λ k held. sets-kept s after_take leaf taken taken_within refl k;
    back = taken_back;
    stays = λ among. among;
    offered = λ among. (among-filter (λ x. not (x == worker)) mine s.offered among).0;
    more = [];
    tables = sym (append-nil s.tables);
    room = λ worth below. below;
  }

-- where another worker's leaf becomes a spot that isn't held
module _ (s n : State) (worker leaf mine : ℕ) (spot : Spot) (held : IsHeldBy s worker leaf) (apart : worker ≢ mine)
    (places : n.places ≡ with_spot s.places leaf spot) (no_more : is_held spot ≡ false) where
  let_go_within : leaf < length s.places
  let_go_within = leaf_within s.places leaf (ap is_inner held.1)

  spot-let_go : (k : ℕ) → IsHeldBy s mine k → spot_at n k ≡ spot_at s k
  spot-let_go k theirs =
      spot-there s n leaf spot let_go_within places k (apart-leaf s worker mine leaf k apart held theirs)

  sets-let_go : (k : ℕ) → IsHeldBy s mine k → sets_at n k ≡ sets_at s k
  sets-let_go k theirs = sets-kept s n leaf spot let_go_within places k

  back-let_go : (k : ℕ) → IsHeldBy n mine k → IsHeldBy s mine k
  back-let_go k theirs = held-before s n leaf spot let_go_within places no_more mine k theirs

closed_keeps : (o : Opening) (s : State) (worker leaf table mine : ℕ) (prices : Prices)
    → MayClose o s worker leaf table prices → worker ≢ mine → Keeps s (after s (Closed worker leaf table prices)) mine
closed_keeps o s worker leaf table mine prices may apart =
    let n = after s (Closed worker leaf table prices) in
    record {
      spot = spot-let_go s n worker leaf mine (ClosedSpot table) may.holds apart refl refl;
      sets = sets-let_go s n worker leaf mine (ClosedSpot table) may.holds apart refl refl;
      back = back-let_go s n worker leaf mine (ClosedSpot table) may.holds apart refl refl;
      stays = λ among. among;
      offered = λ among. among;
      more = prices ∷ [];
      tables = refl;
      room = λ worth below. below;
    }

gave_back_keeps : (s : State) (worker leaf mine : ℕ) → IsHeldBy s worker leaf → worker ≢ mine
    → Keeps s (after s (GaveBack worker leaf)) mine
gave_back_keeps s worker leaf mine held apart =
    let n = after s (GaveBack worker leaf) in
    let spot = Free (table_of (spot_at s leaf)) in
    record {
      spot = spot-let_go s n worker leaf mine spot held apart refl refl;
      sets = sets-let_go s n worker leaf mine spot held apart refl refl;
      back = back-let_go s n worker leaf mine spot held apart refl refl;
      stays = λ among. elim (among-cons mine worker s.gone among) [
        | inl same ↦ absurd (apart (sym same))
        | inr old ↦ old
      ];
      offered = λ among. among;
      more = [];
      tables = sym (append-nil s.tables);
      room = λ worth below. below;
    }

-- where another worker offers a plan, what is known costs no more
offered-room : (o : Opening) (s : State) (worker : ℕ) (cost : ℤ) (number : Option ℕ) (added : Option Checked)
    → MayOffer o s worker cost number added → (worth : Bound)
    → IsBelow worth (known (after s (Offered worker cost number added))) → IsBelow worth (known s)
offered-room o s worker cost number added may worth below =
    elim (cheaper_or_not cost (known s)) [
      | inl cheap ↦
          let is = may.accepted cheap in
          let now : known (after s (Offered worker cost number added)) ≡ Some cost =
          ap (λ (q : Option Checked).
          option_map (λ (c : Checked). c.cost) (last_or None (s.accepted ++ plans_of q))) is.adds
          ∙ ap (λ (q : Option Checked). option_map (λ (c : Checked). c.cost) q) (last-more None s.accepted is.plan)
          ∙ ap (λ (x : ℤ). Some x) is.costs in
          below-before worth cost (known s) cheap (subst (IsBelow worth) now below)
      | inr dear ↦
          let none = (may.refused dear).1 in
          let same : known (after s (Offered worker cost number added)) ≡ known s =
          ap (λ (q : Option Checked).
          option_map (λ (c : Checked). c.cost) (last_or None (s.accepted ++ plans_of q))) none
          ∙ ap (λ (qs : List Checked). option_map (λ (c : Checked). c.cost) (last_or None qs))
          (append-nil s.accepted) in
          subst (IsBelow worth) same below
    ]

offered_keeps : (o : Opening) (s : State) (worker mine : ℕ) (cost : ℤ) (number : Option ℕ) (added : Option Checked)
    → MayOffer o s worker cost number added → worker ≢ mine
    → Keeps s (after s (Offered worker cost number added)) mine
offered_keeps o s worker mine cost number added may apart = record {
  spot = λ k held. refl;
  sets = λ k held. refl;
  back = λ k held. held;
  stays = λ among. among;
  offered = λ among. elim (among-cons mine worker s.offered among) [
    | inl same ↦ absurd (apart (sym same))
    | inr old ↦ old
  ];
  more = [];
  tables = sym (append-nil s.tables);
  room = offered-room o s worker cost number added may;
}

-- where another worker splits its leaf
module _ (o : Opening) (s : State) (worker leaf table mine : ℕ) (trip : TripNo) (left : LayerSet) (prices : Prices)
    (may : MaySplit o s worker leaf table trip left prices) (apart : worker ≢ mine) where
  abbrev parted : State
  parted = after s (Split worker leaf table trip left prices)

  abbrev inner : Spot
  inner = Inner trip left (length s.places) (length s.places + 1)

  abbrev on_left : Place
  on_left = left_part s leaf table trip left

  abbrev on_right : Place
  on_right = right_part s leaf table trip left

  parted_within : leaf < length s.places
  parted_within = leaf_within s.places leaf (ap is_inner may.holds.1)

  place-parted : (k : ℕ) → IsHeldBy s mine k → place_at parted.places k ≡ place_at s.places k
  place-parted k held =
      split-other s.places leaf inner on_left on_right parted_within k
      (apart-leaf s worker mine leaf k apart may.holds held) (leaf_within s.places k (ap is_inner held.1))

  not-held : (k : ℕ) (place : Place) → IsHeldBy parted mine k → place_at parted.places k ≡ place
      → is_held place.spot ≡ false → ⊥
  not-held k place held at none =
      let free : is_held (spot_at parted k) ≡ false = ap (λ (q : Place). is_held q.spot) at ∙ none in
      let is : is_held (spot_at parted k) ≡ true = ap is_held held.1 in
      absurd cc

  parted_back : (k : ℕ) → IsHeldBy parted mine k → IsHeldBy s mine k
  parted_back k held =
      elim (where_is (length s.places) leaf k) [
        | split here ↦
            absurd (not-held k (record { spot = inner; sets = sets_at s leaf }) held
            (ap (place_at parted.places) here ∙ split-here s.places leaf inner on_left on_right parted_within) refl)
        | other aside below ↦
            let at = split-other s.places leaf inner on_left on_right parted_within k aside below in
            (held.0, sym (ap (λ (q : Place). q.spot) at) ∙ held.1)
        | lower here ↦
            absurd (not-held k on_left held
            (split-lower s.places leaf inner on_left on_right parted_within k here) refl)
        | upper here ↦
            absurd (not-held k on_right held
            (split-upper s.places leaf inner on_left on_right parted_within k here) refl)
        | nowhere past ↦
            absurd (not-held k no_place held
            (split-nowhere s.places leaf inner on_left on_right parted_within k past) refl)
      ]

  split_keeps : Keeps s parted mine
  split_keeps = record {
    spot = λ k held. ap (λ (q : Place). q.spot) (place-parted k held);
    sets = λ k held. ap (λ (q : Place). q.sets) (place-parted k held);
    back = parted_back;
    stays = λ among. among;
    offered = λ among. among;
    more = prices ∷ [];
    tables = refl;
    room = λ worth below. below;
  }

-- so does any step of another worker
pub step_keeps : (o : Opening) (s : State) (step : FullStep) (mine : ℕ) → MayCome o s step → worker_of step ≢ mine
    → Keeps s (after s step) mine
step_keeps o s (Took worker leaf) mine may apart = took_keeps o s worker leaf mine may apart
step_keeps o s (Split worker leaf table trip left prices) mine may apart =
    split_keeps o s worker leaf table mine trip left prices may apart
step_keeps o s (Closed worker leaf table prices) mine may apart =
    closed_keeps o s worker leaf table mine prices may apart
step_keeps o s (Offered worker cost number added) mine may apart =
    offered_keeps o s worker mine cost number added may apart
step_keeps o s (GaveBack worker leaf) mine may apart = gave_back_keeps s worker leaf mine may apart

pub same_keeps : (s : State) (mine : ℕ) → Keeps s s mine
same_keeps s mine = record {
  spot = λ k held. refl;
  sets = λ k held. refl;
  back = λ k held. held;
  stays = λ among. among;
  offered = λ among. among;
  more = [];
  tables = sym (append-nil s.tables);
  room = λ worth below. below;
}

-- and what keeps something twice keeps it
pub both_keep : (s m n : State) (mine : ℕ) → Keeps s m mine → Keeps m n mine → Keeps s n mine
both_keep s m n mine first second =
    let there : (k : ℕ) → IsHeldBy s mine k → IsHeldBy m mine k = λ k held. (held.0, first.spot k held ∙ held.1) in
    record {
      spot = λ k held. second.spot k (there k held) ∙ first.spot k held;
      sets = λ k held. second.sets k (there k held) ∙ first.sets k held;
      back = λ k held. first.back k (second.back k held);
      stays = λ among. first.stays (second.stays among);
      offered = λ among. first.offered (second.offered among);
      more = first.more ++ second.more;
      tables = second.tables ∙ ap (λ (ts : List Prices). ts ++ second.more) first.tables
          ∙ append_assoc s.tables first.more second.more;
      room = λ worth below. first.room worth (second.room worth below);
    }
