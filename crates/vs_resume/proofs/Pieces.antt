-- In the part of a case all moves and their pieces of cost are the instance's.
use Rattle.std.proofs.Common.{◌≡◌, ℕ, ◌+◌, ◌-◌, ◌<◌, ◌≤◌, ◌⊎◌, inl, inr, cond, leb, List, length, refl, sym, ap, ◌∙◌, subst, arith, Option, Some, None}
use Rattle.std.specs.Prelude.{option_and_then, option_map}
use Rattle.std.proofs.lemmas.Bool.{cases_lt}
use Rattle.std.proofs.lemmas.List.{get_or_past}
use Rattle.vs_types.specs.declared.layer_set.LayerSet.{LayerSet}
use Rattle.vs_instance.specs.declared.trip.Trip.{Trip}
use Rattle.vs_instance.specs.declared.way.Way.{Way}
use Rattle.vs_instance.specs.Narrowed.{narrowed, with_layers}
use Rattle.vs_instance.specs.Pieces.{direct_piece, in_piece, link_piece, no_more_than, out_piece, rated, rest_piece, trip_piece}
use Rattle.vs_instance.specs.Problem.{Problem}
use Rattle.vs_instance.specs.Ways.{layer_of, no_trip, trip_of, way}
use Rattle.vs_instance.proofs.CallerLemmas.{length-narrowed, trip_of-narrowed}

module _ (p : Problem) (sets : List LayerSet) where
  abbrev part : Problem
  part = narrowed p sets

  past_end : (i : ℕ) → length p.trips ≤ i → trip_of part i ≡ trip_of p i
  past_end i past =
      let beyond : length part.trips ≤ i = omega (arith, past, length-narrowed p sets) in
      get_or_past part.trips i no_trip beyond ∙ sym (get_or_past p.trips i no_trip past)

  -- what doesn't read a trip's layers is the same of it in the part
  pub same : {A : Type 0} (f : Trip → A) → ((t : Trip) (layers : LayerSet) → f (with_layers t layers) ≡ f t) → (i : ℕ)
      → f (trip_of part i) ≡ f (trip_of p i)
  same f blind i = by_place (cases_lt i (length p.trips))
    where
      by_place : (i < length p.trips) ⊎ (length p.trips ≤ i) → f (trip_of part i) ≡ f (trip_of p i)
      by_place (inl within) = ap f (trip_of-narrowed p sets i within) ∙ blind (trip_of p i) _
      by_place (inr past) = ap f (past_end i past)

  -- and what is so of it in the one is so of it in the other
  pub to_instance : (P : Trip → Type 0) → ((t : Trip) (layers : LayerSet) → P (with_layers t layers) → P t) → (i : ℕ)
      → P (trip_of part i) → P (trip_of p i)
  to_instance P blind i is = by_place (cases_lt i (length p.trips))
    where
      by_place : (i < length p.trips) ⊎ (length p.trips ≤ i) → P (trip_of p i)
      by_place (inl within) = blind (trip_of p i) _ (subst P (trip_of-narrowed p sets i within) is)
      by_place (inr past) = subst P (past_end i past) is

  pub to_part : (P : Trip → Type 0) → ((t : Trip) (layers : LayerSet) → P t → P (with_layers t layers)) → (i : ℕ)
      → P (trip_of p i) → P (trip_of part i)
  to_part P blind i is = by_place (cases_lt i (length p.trips))
    where
      by_place : (i < length p.trips) ⊎ (length p.trips ≤ i) → P (trip_of part i)
      by_place (inl within) = subst P (sym (trip_of-narrowed p sets i within)) (blind (trip_of p i) _ is)
      by_place (inr past) = subst P (sym (past_end i past)) is

  module _ (l : ℕ) where
    pub trip_same : (i : ℕ) → trip_piece part l i ≡ trip_piece p l i
    trip_same i = same (λ t. rated p l (t.end - t.start) t.metres) (λ t layers. refl) i

    pub out_same : (i : ℕ) → out_piece part l i ≡ out_piece p l i
    out_same i =
        same (λ t. option_and_then (λ (w : Way). cond (leb w.minutes t.start)
        (Some ((layer_of p l).fixed + rated p l w.minutes w.metres)) None) (way p (layer_of p l).depot.0 t.from.0))
        (λ t layers. refl) i

    pub in_same : (i : ℕ) → in_piece part l i ≡ in_piece p l i
    in_same i =
        same (λ t. option_map (λ (w : Way). rated p l w.minutes w.metres) (way p t.to.0 (layer_of p l).depot.0))
        (λ t layers. refl) i

    abbrev direct_by : Trip → Trip → Option ℕ
    direct_by t u = option_and_then (λ (w : Way). cond (leb (t.end + w.minutes) u.start)
        (Some (rated p l (u.start - t.end) w.metres)) None) (way p t.to.0 u.from.0)

    direct_same : (i j : ℕ) → direct_piece part l i j ≡ direct_piece p l i j
    direct_same i j =
        same (λ t. direct_by t (trip_of part j)) (λ t layers. refl) i
        ∙ same (λ u. direct_by (trip_of p i) u) (λ u layers. refl) j

    abbrev rest_from : Trip → Trip → Option ℕ
    rest_from t u = option_and_then (λ (stay : ℕ). option_and_then (λ (back : Way). option_and_then (λ (out : Way).
        cond (leb (t.end + back.minutes + stay + out.minutes) u.start)
        (Some (rated p l back.minutes back.metres + rated p l out.minutes out.metres)) None)
        (way p (layer_of p l).depot.0 u.from.0)) (way p t.to.0 (layer_of p l).depot.0)) (layer_of p l).stay

    rest_same : (i j : ℕ) → rest_piece part l i j ≡ rest_piece p l i j
    rest_same i j =
        same (λ t. rest_from t (trip_of part j)) (λ t layers. refl) i
        ∙ same (λ u. rest_from (trip_of p i) u) (λ u layers. refl) j

    pub link_same : (i j : ℕ) → link_piece part l i j ≡ link_piece p l i j
    link_same i j = λ k. option_map (no_more_than (rest_same i j k)) (direct_same i j k)
