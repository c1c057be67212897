-- What a worker holds once it let its leaf go.
use Rattle.std.proofs.Common.{◌≡◌, ℕ, ◌+◌, ◌<◌, true, false, length, refl, sym, ap, ◌∙◌}
use Rattle.vs_types.specs.declared.layer_set.LayerSet.{LayerSet}
use Rattle.vs_types.specs.declared.numbers.TripNo.{TripNo}
use Rattle.vs_tree.specs.Calls.{finishing}
use Rattle.vs_tree.specs.Entries.{worker_of}
use Rattle.vs_tree.specs.History.{Place, State, Split, Closed, IsHeldBy, after, is_held, is_inner, left_part, no_place, place_at, right_part, sets_at, spot_at}
use Rattle.vs_tree.specs.Prices.{Prices}
use Rattle.vs_tree.specs.declared.calls.Next.{Next}
use Rattle.vs_tree.specs.declared.calls.Next.TheVariants.{Close, Split as SplitNext}
use Rattle.vs_tree.specs.declared.spot.Spot.{Spot}
use Rattle.vs_tree.specs.declared.spot.Spot.TheVariants.{Inner, Closed as ClosedSpot}
use Rattle.vs_tree.proofs.CallerLemmas.{leaf_within, split, other, lower, upper, nowhere, where_is, split-here, split-lower, split-nowhere, split-other, split-upper, held-before, spot-here}

-- where the spot of the only leaf that a worker held is held no more, it holds none
none-after : (s n : State) (w leaf : ℕ) → is_held (spot_at n leaf) ≡ false
    → ((k : ℕ) → IsHeldBy n w k → IsHeldBy s w k) → ((k : ℕ) → IsHeldBy s w k → k ≡ leaf)
    → (k : ℕ) → ¬ (IsHeldBy n w k)
none-after s n w leaf free kept alone k held =
    let same = alone k (kept k held) in
    let still : is_held (spot_at n leaf) ≡ true =
    ap (λ (j : ℕ). is_held (spot_at n j)) (sym same) ∙ ap is_held held.1 in
    absurd cc

module _ (s : State) (w leaf : ℕ) (holds : IsHeldBy s w leaf) (alone : (k : ℕ) → IsHeldBy s w k → k ≡ leaf) where
  held_within : leaf < length s.places
  held_within = leaf_within s.places leaf (ap is_inner holds.1)

  -- once it was closed
  closed-none : (table : ℕ) (prices : Prices) (k : ℕ) → ¬ (IsHeldBy (after s (Closed w leaf table prices)) w k)
  closed-none table prices =
      let n = after s (Closed w leaf table prices) in
      none-after s n w leaf (ap is_held (spot-here s n leaf (ClosedSpot table) held_within refl))
      (held-before s n leaf (ClosedSpot table) held_within refl refl w) alone

  -- or split
  module _ (table : ℕ) (trip : TripNo) (left : LayerSet) (prices : Prices) where
    abbrev parted : State
    parted = after s (Split w leaf table trip left prices)

    abbrev size : ℕ
    size = length s.places

    abbrev inner : Spot
    inner = Inner trip left size (size + 1)

    abbrev on_left : Place
    on_left = left_part s leaf table trip left

    abbrev on_right : Place
    on_right = right_part s leaf table trip left

    no_more : (k : ℕ) (place : Place) → IsHeldBy parted w k → place_at parted.places k ≡ place
        → is_held place.spot ≡ false → ⊥
    no_more k place held at none =
        let free : is_held (spot_at parted k) ≡ false = ap (λ (q : Place). is_held q.spot) at ∙ none in
        let is : is_held (spot_at parted k) ≡ true = ap is_held held.1 in
        absurd cc

    split-none : (k : ℕ) → ¬ (IsHeldBy parted w k)
    split-none k held =
        elim (where_is size leaf k) [
          | split here ↦
              no_more k (record { spot = inner; sets = sets_at s leaf }) held
              (ap (place_at parted.places) here ∙ split-here s.places leaf inner on_left on_right held_within) refl
          | other apart below ↦
              let at = split-other s.places leaf inner on_left on_right held_within k apart below in
              let same : spot_at parted k ≡ spot_at s k = ap (λ (q : Place). q.spot) at in
              absurd (apart (alone k (held.0, sym same ∙ held.1)))
          | lower here ↦
              no_more k on_left held (split-lower s.places leaf inner on_left on_right held_within k here) refl
          | upper here ↦
              no_more k on_right held (split-upper s.places leaf inner on_left on_right held_within k here) refl
          | nowhere past ↦
              no_more k no_place held
              (split-nowhere s.places leaf inner on_left on_right held_within k past) refl
        ]

  -- so once it was finished
  pub finish-none : (prices : Prices) (next : Next) (k : ℕ)
      → ¬ (IsHeldBy (after s (finishing s w leaf prices next)) w k)
  finish-none prices Close = closed-none (length s.tables) prices
  finish-none prices (SplitNext trip left) = split-none (length s.tables) trip left prices

-- as many workers have left then as before
pub finish-gone : (s : State) (w leaf : ℕ) (prices : Prices) (next : Next)
    → (after s (finishing s w leaf prices next)).gone ≡ s.gone
finish-gone s w leaf prices Close = refl
finish-gone s w leaf prices (SplitNext trip left) = refl

-- and the step is the worker's
pub finish-by : (s : State) (w leaf : ℕ) (prices : Prices) (next : Next)
    → worker_of (finishing s w leaf prices next) ≡ w
finish-by s w leaf prices Close = refl
finish-by s w leaf prices (SplitNext trip left) = refl
