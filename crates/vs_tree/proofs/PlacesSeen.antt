-- Places as they are seen, and the spots and cuts that they are made of.
use Rattle.std.proofs.Common.{◌≡◌, ℕ, ◌+◌, ◌<◌, List, [], ◌∷◌, ◌++◌, length, get_or, sym, ap, ◌∙◌, subst, arith, inl, inr, length-append}
use Rattle.std.specs.declared.alloc.Global.{Global}
use Rattle.std.specs.declared.vec.Vec.{Vec}
use Rattle.std.proofs.lemmas.Bool.{cases_lt}
use Rattle.std.proofs.lemmas.List.{same_lists, get_or_append_left, get_or-append-add, get_or_default}
use Rattle.vs_instance.specs.Restriction.{set_of}
use Rattle.vs_types.specs.declared.layer_set.LayerSet.{LayerSet}
use Rattle.vs_tree.specs.declared.spot.Cut.{Cut}
use Rattle.vs_tree.specs.declared.spot.Spot.{Spot}
use Rattle.vs_tree.specs.Cuts.{AreCuts, AreLaid, ArePlaces, IsCut, IsLaid, Places, cut_at, laid, no_cut, places_of, sets_of}
use Rattle.vs_tree.specs.History.{Place, no_place, place_at}
use Rattle.vs_prices.specs.Tree.{with_set}
use Rattle.vs_tree.proofs.CutSets.{laid_last, length-places_of, length-sets_after, places_of-at, places_of-last, sets-size, sets_after-last}

abbrev no_set : LayerSet
no_set = record { 0 = 0 }

-- a cut that comes last is one too
pub are_cuts-more : (trips : ℕ) (cuts : List Cut) (cut : Cut) → AreCuts trips cuts → IsCut trips (length cuts) cut
    → AreCuts trips (cuts ++ cut ∷ [])
are_cuts-more trips cuts cut are is k inside =
    let size = length-append cuts (cut ∷ []) in
    elim (cases_lt k (length cuts)) [
      | inl before ↦
          subst (λ (x : Cut). IsCut trips k x) (sym (get_or_append_left cuts (cut ∷ []) no_cut k before)) (are k before)
      | inr past ↦
          let last : k ≡ length cuts + 0 = omega (arith, size, past, inside) in
          let at : cut_at (cuts ++ cut ∷ []) k ≡ cut =
          ap (cut_at (cuts ++ cut ∷ [])) last ∙ get_or-append-add cuts (cut ∷ []) 0 no_cut in
          let here : length cuts ≡ k = omega (arith, last) in
          subst (λ (x : Cut). IsCut trips k x) (sym at) (subst (λ (j : ℕ). IsCut trips j cut) here is)
    ]

module _ (permitted : List LayerSet) (spots : Vec Spot Global) (cuts : Vec Cut Global) (room : ℕ) (seen : Places)
    (are : ArePlaces permitted spots cuts room)
    (view : record { places = places_of spots.items (sets_of permitted cuts.items); room = room } ≡ seen) where
  abbrev all : List (List LayerSet)
  all = sets_of permitted cuts.items

  pub seen-size : length seen.places ≡ length spots.items
  seen-size = ap (λ (x : Places). length x.places) (sym view) ∙ length-places_of spots.items all

  pub seen-room : seen.room ≡ room
  seen-room = ap (λ (x : Places). x.room) (sym view)

  pub seen-at : (k : ℕ) → k < length spots.items
      → place_at seen.places k ≡ record { spot = get_or spots.items k no_place.spot; sets = get_or all k [] }
  seen-at k inside =
      ap (λ (x : Places). place_at x.places k) (sym view) ∙ places_of-at spots.items all k inside

  pub seen-sets : (k : ℕ) → k < length spots.items → (place_at seen.places k).sets ≡ get_or all k []
  seen-sets k inside = ap (λ (x : Place). x.sets) (seen-at k inside)

  pub seen-sets_size : (k : ℕ) → k < length spots.items → length (place_at seen.places k).sets ≡ length permitted
  seen-sets_size k inside =
      ap (λ (x : List LayerSet). length x) (seen-sets k inside)
      ∙ sets-size permitted cuts.items are.are_cuts k (omega (arith, inside, are.each))

  -- once a spot and its cut came
  pub seen-more : (spot : Spot) (cut : Cut) (new_spots : List Spot) (new_cuts : List Cut)
      → new_spots ≡ spots.items ++ spot ∷ [] → new_cuts ≡ cuts.items ++ cut ∷ [] → cut.parent < length spots.items
      → places_of new_spots (sets_of permitted new_cuts)
      ≡ seen.places
      ++ record { spot = spot; sets = with_set (place_at seen.places cut.parent).sets cut.trip cut.layers } ∷ []
  seen-more spot cut new_spots new_cuts spots_are cuts_are inside =
      let size : length spots.items ≡ length all =
      omega (arith, are.each, length-sets_after (permitted ∷ []) cuts.items) in
      let here = with_set (get_or all cut.parent []) cut.trip cut.layers in
      let same : here ≡ with_set (place_at seen.places cut.parent).sets cut.trip cut.layers =
      ap (λ (x : List LayerSet). with_set x cut.trip cut.layers) (sym (seen-sets cut.parent inside)) in
      ap (λ (x : List Spot). places_of x (sets_of permitted new_cuts)) spots_are
      ∙ ap (λ (x : List Cut). places_of (spots.items ++ spot ∷ []) (sets_of permitted x)) cuts_are
      ∙ ap (λ (x : List (List LayerSet)). places_of (spots.items ++ spot ∷ []) x)
      (sets_after-last (permitted ∷ []) cuts.items cut)
      ∙ places_of-last spots.items all spot here size
      ∙ ap (λ (x : Places). x.places ++ record { spot = spot; sets = here } ∷ []) view
      ∙ ap (λ (x : List LayerSet). seen.places ++ record { spot = spot; sets = x } ∷ []) same

  -- sets that were laid going up from a spot, and then at the root, are those of the spot
  pub seen-laid : (k : ℕ) → k < length spots.items → (root : List LayerSet) (ups : List Cut)
      (before sets : List LayerSet)
      → root ≡ permitted → ups ≡ cuts.items → length before ≡ length permitted → length sets ≡ length before
      → AreLaid (get_or (sets_of root ups) k []) root before
      → ((i : ℕ) → i < length sets → set_of sets i ≡ laid (set_of before i) (set_of root i))
      → sets ≡ (place_at seen.places k).sets
  seen-laid k inside root ups before sets root_is ups_are size_before size are_laid each =
      let target : List LayerSet = (place_at seen.places k).sets in
      let target_size = seen-sets_size k inside in
      let target_is : get_or (sets_of root ups) k [] ≡ target =
      ap (λ (x : List LayerSet). get_or (sets_of x ups) k []) root_is
      ∙ ap (λ (x : List Cut). get_or (sets_of permitted x) k []) ups_are ∙ sym (seen-sets k inside) in
      same_lists sets target (omega (arith, target_size, size_before, size)) (λ i d within.
      get_or_default sets i d no_set within ∙ each i within
      ∙ laid_last (set_of target i) (set_of root i) (set_of before i)
      (subst (λ (x : List LayerSet). IsLaid (set_of x i) (set_of root i) (set_of before i)) target_is
      (are_laid i (omega (arith, within, size))))
      ∙ sym (get_or_default target i d no_set (omega (arith, within, target_size, size_before, size))))
