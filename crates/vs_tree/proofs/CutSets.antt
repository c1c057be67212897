-- The layers at a spot are those of its parent, but for the trip that its cut is of.
use Rattle.std.proofs.Common.{◌≡◌, ◌≢◌, ◌⊎◌, ℕ, zero, suc, ◌+◌, ◌<◌, ◌≤◌, List, [], ◌∷◌, ◌++◌, length, set, get_or, refl, sym, ap, ◌∙◌, subst, arith, inl, inr, length-append, length-set, cond, Bool}
use Rattle.std.proofs.lemmas.Bool.{cases_eq, eq-eqb, ne_eqb}
use Rattle.std.proofs.lemmas.List.{get_or_append_left, get_or-append-add, get_or-set_same, get_or-set_other}
use Rattle.vs_types.specs.declared.layer_set.LayerSet.{LayerSet}
use Rattle.vs_instance.specs.Restriction.{set_of}
use Rattle.vs_tree.specs.declared.spot.Cut.{Cut}
use Rattle.vs_tree.specs.declared.spot.Spot.{Spot}
use Rattle.vs_tree.specs.Cuts.{AreCuts, AreLaid, IsLaid, cut_at, laid, places_of, sets_after, sets_of}
use Rattle.vs_tree.specs.History.{Place, no_place, place_at, with_spot}
use Rattle.vs_prices.specs.Tree.{with_set}

abbrev sets_at : List (List LayerSet) → ℕ → List LayerSet
sets_at all k = get_or all k []

pub length-sets_after : (before : List (List LayerSet)) (cuts : List Cut)
    → length (sets_after before cuts) ≡ length before + length cuts
length-sets_after before [] = omega arith
length-sets_after before (cut ∷ cuts) =
    let here = with_set (sets_at before cut.parent) cut.trip cut.layers in
    let rest = length-sets_after (before ++ here ∷ []) cuts in
    let size = length-append before (here ∷ []) in
    omega (arith, rest, size)

-- a cut that comes last adds the layers of its spot
pub sets_after-last : (before : List (List LayerSet)) (cuts : List Cut) (cut : Cut)
    → sets_after before (cuts ++ cut ∷ [])
    ≡ sets_after before cuts ++ with_set (sets_at (sets_after before cuts) cut.parent) cut.trip cut.layers ∷ []
sets_after-last before [] cut = refl
sets_after-last before (c ∷ cuts) cut =
    sets_after-last (before ++ with_set (sets_at before c.parent) c.trip c.layers ∷ []) cuts cut

-- the layers at the spots before stay
pub sets_after-before : (before : List (List LayerSet)) (cuts : List Cut) (k : ℕ) → k < length before
    → sets_at (sets_after before cuts) k ≡ sets_at before k
sets_after-before before [] k inside = refl
sets_after-before before (cut ∷ cuts) k inside =
    let here = with_set (sets_at before cut.parent) cut.trip cut.layers in
    let size = length-append before (here ∷ []) in
    sets_after-before (before ++ here ∷ []) cuts k (omega (arith, size, inside))
    ∙ get_or_append_left before (here ∷ []) [] k inside

pub sets_after-cut : (before : List (List LayerSet)) (cuts : List Cut) (k : ℕ) → k < length cuts
    → (cut_at cuts k).parent < length before + k
    → sets_at (sets_after before cuts) (length before + k)
    ≡ with_set (sets_at (sets_after before cuts) (cut_at cuts k).parent) (cut_at cuts k).trip (cut_at cuts k).layers
sets_after-cut before [] k inside earlier = absurd (omega arith)
sets_after-cut before (cut ∷ cuts) zero inside earlier =
    let here = with_set (sets_at before cut.parent) cut.trip cut.layers in
    let size = length-append before (here ∷ []) in
    let above = sets_after-before before (cut ∷ cuts) cut.parent (omega (arith, earlier)) in
    sets_after-before (before ++ here ∷ []) cuts (length before + 0) (omega (arith, size))
    ∙ get_or-append-add before (here ∷ []) 0 []
    ∙ ap (λ (x : List LayerSet). with_set x cut.trip cut.layers) (sym above)
sets_after-cut before (cut ∷ cuts) (suc k) inside earlier =
    let here = with_set (sets_at before cut.parent) cut.trip cut.layers in
    let size : length (before ++ here ∷ []) ≡ length before + 1 = length-append before (here ∷ []) in
    let place : length before + suc k ≡ length (before ++ here ∷ []) + k = omega (arith, size) in
    ap (sets_at (sets_after (before ++ here ∷ []) cuts)) place
    ∙ sets_after-cut (before ++ here ∷ []) cuts k (omega (arith, inside)) (omega (arith, earlier, size))

abbrev no_layers : LayerSet
no_layers = record { 0 = 0 }

-- what is there once layers were laid over a set
laid-is : (set layers : LayerSet) → ((set.0 ≡ 0) × (laid set layers ≡ layers)) ⊎ ((set.0 ≢ 0) × (laid set layers ≡ set))
laid-is set layers =
    elim (cases_eq set.0 0) [
      | inl none ↦ inl (none, ap (λ (b : Bool). cond b layers set) (eq-eqb set.0 0 none))
      | inr some ↦ inr (some, ap (λ (b : Bool). cond b layers set) (ne_eqb set.0 0 some))
    ]

laid_over : (target here above set : LayerSet) → here.0 ≢ 0 → IsLaid target here set
    → IsLaid target above (laid set here)
laid_over target here above set some (inl (none, is)) =
    elim (laid-is set here) [
      | inl (_, now) ↦
          inr (subst (λ (x : LayerSet). x.0 ≢ 0) (sym now) some, now ∙ is)
      | inr (not_none, now) ↦ absurd (not_none none)
    ]
laid_over target here above set some (inr (not_none, is)) =
    elim (laid-is set here) [
      | inl (none, now) ↦ absurd (not_none none)
      | inr (_, now) ↦ inr (subst (λ (x : LayerSet). x.0 ≢ 0) (sym now) not_none, now ∙ is)
    ]

-- where the layers here are laid last, the set is the one of the spot
pub laid_last : (target here set : LayerSet) → IsLaid target here set → laid set here ≡ target
laid_last target here set (inl (none, is)) =
    elim (laid-is set here) [ inl (_, now) ↦ now ∙ is | inr (not_none, now) ↦ absurd (not_none none) ]
laid_last target here set (inr (not_none, is)) =
    elim (laid-is set here) [ inl (none, now) ↦ absurd (not_none none) | inr (_, now) ↦ now ∙ is ]

module _ (permitted : List LayerSet) (cuts : List Cut) (are : AreCuts (length permitted) cuts) where
  abbrev all : List (List LayerSet)
  all = sets_of permitted cuts

  pub sets-root : sets_at all 0 ≡ permitted
  sets-root = sets_after-before (permitted ∷ []) cuts 0 (omega arith)

  -- the layers at a spot after the root
  pub sets-cut : (k : ℕ) → k < length cuts → sets_at all (suc k)
      ≡ with_set (sets_at all (cut_at cuts k).parent) (cut_at cuts k).trip (cut_at cuts k).layers
  sets-cut k inside =
      let is = are k inside in
      let place : suc k ≡ 1 + k = omega arith in
      ap (sets_at all) place ∙ sets_after-cut (permitted ∷ []) cuts k inside (omega (arith, is.before))

  -- each spot has a set for each trip
  sets-size_below : (n k : ℕ) → k < n → k ≤ length cuts → length (sets_at all k) ≡ length permitted
  sets-size_below zero k below inside = absurd (omega arith)
  sets-size_below (suc n) zero below inside = ap (λ (x : List LayerSet). length x) sets-root
  sets-size_below (suc n) (suc k) below inside =
      let is = are k (omega (arith, inside)) in
      ap (λ (x : List LayerSet). length x) (sets-cut k (omega (arith, inside)))
      ∙ length-set (sets_at all (cut_at cuts k).parent) _ _
      ∙ sets-size_below n (cut_at cuts k).parent (omega (arith, below, is.before)) (omega (arith, inside, is.before))

  pub sets-size : (k : ℕ) → k ≤ length cuts → length (sets_at all k) ≡ length permitted
  sets-size k inside = sets-size_below (suc k) k (omega arith) inside

  -- going up from a spot by its cut: the trip of the cut has its layers there, and the others those of the parent
  pub laid-up : (target sets : List LayerSet) (k : ℕ) → k < length cuts → length sets ≡ length permitted
      → AreLaid target (sets_at all (suc k)) sets
      → AreLaid target (sets_at all (cut_at cuts k).parent)
      (set sets (cut_at cuts k).trip.0 (laid (set_of sets (cut_at cuts k).trip.0) (cut_at cuts k).layers))
  laid-up target sets k inside size are_laid i within =
      let cut = cut_at cuts k in
      let is = are k inside in
      let t = cut.trip.0 in
      let value = laid (set_of sets t) cut.layers in
      let laid_size : length (set sets t value) ≡ length sets = length-set sets t value in
      let parent_size : length (sets_at all cut.parent) ≡ length permitted =
      sets-size cut.parent (omega (arith, is.before, inside)) in
      let old = are_laid i (omega (arith, within, laid_size)) in
      let here : set_of (sets_at all (suc k)) i ≡ set_of (with_set (sets_at all cut.parent) cut.trip cut.layers) i =
      ap (λ (x : List LayerSet). set_of x i) (sets-cut k inside) in
      elim (cases_eq i t) [
        | inl same ↦
            let cut_layers : set_of (sets_at all (suc k)) i ≡ cut.layers =
            here ∙ ap (λ (j : ℕ). set_of (with_set (sets_at all cut.parent) cut.trip cut.layers) j) same
            ∙ get_or-set_same (sets_at all cut.parent) t cut.layers no_layers (omega (arith, is.inside, parent_size)) in
            let now : set_of (set sets t value) i ≡ value =
            ap (λ (j : ℕ). set_of (set sets t value) j) same
            ∙ get_or-set_same sets t value no_layers (omega (arith, is.inside, size)) in
            let at : set_of sets i ≡ set_of sets t = ap (λ (j : ℕ). set_of sets j) same in
            let before : IsLaid (set_of target i) cut.layers (set_of sets t) =
            subst (λ (x : LayerSet). IsLaid (set_of target i) cut.layers x) at
            (subst (λ (x : LayerSet). IsLaid (set_of target i) x (set_of sets i)) cut_layers old) in
            subst (λ (x : LayerSet). IsLaid (set_of target i) (set_of (sets_at all cut.parent) i) x) (sym now)
            (laid_over (set_of target i) cut.layers (set_of (sets_at all cut.parent) i) (set_of sets t) is.some before)
        | inr other ↦
            let kept : set_of (set sets t value) i ≡ set_of sets i = get_or-set_other sets t i value no_layers other in
            let above : set_of (sets_at all (suc k)) i ≡ set_of (sets_at all cut.parent) i =
            here ∙ get_or-set_other (sets_at all cut.parent) t i cut.layers no_layers other in
            subst (λ (x : LayerSet). IsLaid (set_of target i) (set_of (sets_at all cut.parent) i) x) (sym kept)
            (subst (λ (x : LayerSet). IsLaid (set_of target i) x (set_of sets i)) above old)
      ]

-- places by their spots and layers
pub length-places_of : (spots : List Spot) (sets : List (List LayerSet)) → length (places_of spots sets) ≡ length spots
length-places_of [] sets = refl
length-places_of (spot ∷ spots) [] = ap suc (length-places_of spots [])
length-places_of (spot ∷ spots) (here ∷ sets) = ap suc (length-places_of spots sets)

pub places_of-at : (spots : List Spot) (sets : List (List LayerSet)) (k : ℕ) → k < length spots
    → (place_at (places_of spots sets) k ≡ record { spot = get_or spots k no_place.spot; sets = sets_at sets k })
places_of-at [] sets k inside = absurd (omega arith)
places_of-at (spot ∷ spots) [] zero inside = refl
places_of-at (spot ∷ spots) [] (suc k) inside = places_of-at spots [] k (omega arith)
places_of-at (spot ∷ spots) (here ∷ sets) zero inside = refl
places_of-at (spot ∷ spots) (here ∷ sets) (suc k) inside = places_of-at spots sets k (omega arith)

pub places_of-set : (spots : List Spot) (sets : List (List LayerSet)) (k : ℕ) (spot : Spot)
    → places_of (set spots k spot) sets ≡ with_spot (places_of spots sets) k spot
places_of-set [] sets k spot = refl
places_of-set (s ∷ spots) [] zero spot = refl
places_of-set (s ∷ spots) [] (suc k) spot =
    ap (λ (ps : List Place). record { spot = s; sets = [] } ∷ ps) (places_of-set spots [] k spot)
places_of-set (s ∷ spots) (here ∷ sets) zero spot = refl
places_of-set (s ∷ spots) (here ∷ sets) (suc k) spot =
    ap (λ (ps : List Place). record { spot = s; sets = here } ∷ ps) (places_of-set spots sets k spot)

pub places_of-last : (spots : List Spot) (sets : List (List LayerSet)) (spot : Spot) (here : List LayerSet)
    → length spots ≡ length sets
    → places_of (spots ++ spot ∷ []) (sets ++ here ∷ []) ≡ places_of spots sets ++ record
    { spot = spot; sets = here } ∷ []
places_of-last [] [] spot here size = refl
places_of-last [] (x ∷ sets) spot here size = absurd (omega arith)
places_of-last (s ∷ spots) [] spot here size = absurd (omega arith)
places_of-last (s ∷ spots) (x ∷ sets) spot here size =
    ap (λ (ps : List Place). record { spot = s; sets = x } ∷ ps) (places_of-last spots sets spot here (omega arith))
