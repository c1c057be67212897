-- None but the workers of a search hold its leaves.
use Rattle.std.proofs.Common.{◌≡◌, ℕ, ◌+◌, ◌<◌, false, List, [], ◌∷◌, ◌++◌, length, refl, sym, ap, ◌∙◌, subst, inl, inr}
use Rattle.std.proofs.lemmas.Bool.{cases_eq, false≢true}
use Rattle.vs_tree.specs.declared.spot.Spot.{Spot}
use Rattle.vs_tree.specs.declared.spot.Spot.TheVariants.{Free, Held, Inner, Closed as ClosedSpot}
use Rattle.vs_tree.specs.History.{FullStep, Opening, Place, State, Took, Split, Closed, Offered, GaveBack, IsHeldBy, MayCome, MayFollow, after, first_state, is_held, is_inner, left_part, place_at, right_part, spot_at, state_after, state_of, table_of, with_spot}
use Rattle.vs_tree.specs.Sound.{IsOpening}
use Rattle.vs_tree.proofs.CallerLemmas.{held-before, leaf_within, lower, not_held, nowhere, other, split, split-here, split-lower, split-nowhere, split-other, split-upper, spot-here, spot-there, upper, where_is}

-- one spot is held by one worker
pub same_holder : (w u t q : ℕ) → Held w t ≡ Held u q → w ≡ u
same_holder w u t q same = cc

module _ (o : Opening) where
  abbrev pub AreHolders : State → Type 0
  AreHolders s = (w k : ℕ) → IsHeldBy s w k → w < o.workers

  took : (s : State) (w leaf : ℕ) → MayCome o s (Took w leaf) → AreHolders s → AreHolders (after s (Took w leaf))
  took s w leaf may holders u k held =
      let n = after s (Took w leaf) in
      let spot = Held w (table_of (spot_at s leaf)) in
      let within = leaf_within s.places leaf (ap is_inner may.next.free.1) in
      elim (cases_eq k leaf) [
        | inl same ↦
            let here = spot-here s n leaf spot within refl in
            let at : Held u held.0 ≡ spot = sym held.1 ∙ ap (spot_at n) same ∙ here in
            let is : u ≡ w = same_holder u w held.0 (table_of (spot_at s leaf)) at in
            subst (λ (x : ℕ). x < o.workers) (sym is) may.is_worker
        | inr apart ↦
            holders u k (held.0, sym (spot-there s n leaf spot within refl k apart) ∙ held.1)
      ]

  parted : (s : State) (step : FullStep) (leaf : ℕ) (inner : Spot) (left right : Place) → leaf < length s.places
      → (after s step).places ≡ with_spot s.places leaf inner ++ left ∷ right ∷ []
      → is_held inner ≡ false → is_held left.spot ≡ false → is_held right.spot ≡ false
      → (w k : ℕ) → IsHeldBy (after s step) w k → IsHeldBy s w k
  parted s step leaf inner left right within grown inner_not left_not right_not w k held =
      let at : (place_at (with_spot s.places leaf inner ++ left ∷ right ∷ []) k).spot ≡ Held w held.0 =
      ap (λ (ps : List Place). (place_at ps k).spot) (sym grown) ∙ held.1 in
      let not : (x : Place) → place_at (with_spot s.places leaf inner ++ left ∷ right ∷ []) k ≡ x
      → is_held x.spot ≡ false → ⊥ =
      λ x is none. absurd (false≢true (sym none ∙ ap (λ (q : Place). is_held q.spot) (sym is) ∙ ap is_held at)) in
      elim (where_is (length s.places) leaf k) [
        | split same ↦ absurd
            (not _ (ap (place_at _) same ∙ split-here s.places leaf inner left right within) inner_not)
        | other apart inside ↦ (
          held.0,
          ap (λ (q : Place). q.spot) (sym (split-other s.places leaf inner left right within k apart inside))
              ∙ at,
        )
        | lower is ↦ absurd (not _ (split-lower s.places leaf inner left right within k is) left_not)
        | upper is ↦ absurd (not _ (split-upper s.places leaf inner left right within k is) right_not)
        | nowhere past ↦ absurd (not _ (split-nowhere s.places leaf inner left right within k past) refl)
      ]

  pub step_holders : (s : State) (step : FullStep) → MayCome o s step → AreHolders s → AreHolders (after s step)
  step_holders s (Took worker leaf) may holders = took s worker leaf may holders
  step_holders s (Split worker leaf table trip left prices) may holders =
      let within = leaf_within s.places leaf (ap is_inner may.holds.1) in
      λ w k held. holders w k (parted s (Split worker leaf table trip left prices) leaf
      (Inner trip left (length s.places) (length s.places + 1)) (left_part s leaf table trip left)
      (right_part s leaf table trip left) within refl refl refl refl w k held)
  step_holders s (Closed worker leaf table prices) may holders =
      let within = leaf_within s.places leaf (ap is_inner may.holds.1) in
      λ w k held. holders w k (held-before s (after s (Closed worker leaf table prices)) leaf (ClosedSpot table) within
      refl refl w k held)
  step_holders s (Offered worker cost number added) may holders = λ w k held. holders w k held
  step_holders s (GaveBack worker leaf) may holders =
      let within = leaf_within s.places leaf (ap is_inner may.1) in
      λ w k held. holders w k (held-before s (after s (GaveBack worker leaf)) leaf (Free (table_of (spot_at s leaf)))
      within refl refl w k held)

  holders_after : (s : State) (steps : List FullStep) → MayFollow o s steps → AreHolders s
      → AreHolders (state_after s steps)
  holders_after s [] may holders = holders
  holders_after s (step ∷ steps) may holders =
      holders_after (after s step) steps may.1 (step_holders s step may.0 holders)

  -- of the first state, and of a history
  pub first_holders : IsOpening o → AreHolders (first_state o)
  first_holders opening = λ w k held. absurd (not_held o opening w k held)

  pub holders : IsOpening o → (steps : List FullStep) → MayFollow o (first_state o) steps → (w k : ℕ)
      → IsHeldBy (state_of o steps) w k → w < o.workers
  holders opening steps may = holders_after (first_state o) steps may (first_holders opening)
