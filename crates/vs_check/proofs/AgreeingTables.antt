-- Tables that agree break in the same places and are worth the same.
use Rattle.std.proofs.Common.{◌≡◌, ℕ, zero, suc, ◌+◌, ◌<◌, ◌≤◌, Bool, true, false, cond, eqb, List, [], ◌∷◌, ◌++◌, length, map, refl, ap, ◌∙◌, arith, Option, ℤ, pos, ◌+ℤ◌, ◌-ℤ◌, ◌*ℤ◌}
use Rattle.std.specs.Prelude.{◌&&◌, int_lt}
use Rattle.std.specs.Int.{bit_at}
use Rattle.std.specs.List.{All, flat_map, range_with_len}
use Rattle.std.proofs.lemmas.Bool.{eqb-true}
use Rattle.std.proofs.lemmas.List.Elements.{All-head, All-tail, All-weaker, filter_passes}
use Rattle.vs_types.specs.LayerSet.{Has, layer_numbers, members}
use Rattle.vs_types.specs.declared.layer_set.LayerSet.{LayerSet}
use Rattle.vs_instance.specs.Firsts.{when}
use Rattle.vs_instance.specs.HoldingTable.{price_of, scaled}
use Rattle.vs_instance.specs.Instance.{IsInstance}
use Rattle.vs_instance.specs.Lagrangian.{total}
use Rattle.vs_instance.specs.Pieces.{in_piece, link_piece, out_piece, trip_piece}
use Rattle.vs_instance.specs.Problem.{Problem}
use Rattle.vs_instance.specs.Restriction.{IsRestriction, set_of}
use Rattle.vs_instance.specs.Ways.{Permitted, layer_of, no_trip, trip_of}
use Rattle.vs_instance.proofs.CallerLemmas.{same_totals}
use Rattle.vs_prices.specs.Breaks.{breaks_of, exceeds, layer_breaks, link_breaks, links_breaks, may_run, move_breaks, trip_breaks}
use Rattle.vs_prices.specs.Table.{from_price, into_price, vehicle_price}
use Rattle.vs_prices.specs.Worth.{fleet_price, least, least_price, rounded_up, table_value, trip_price, worth_of}
use Rattle.vs_prices.specs.declared.bound.Bound.{Bound}
use Rattle.vs_prices.specs.declared.bound.Bound.TheVariants.{AtLeast, NoPlan}
use Rattle.vs_prices.specs.declared.broken_at.BrokenAt.{BrokenAt}
use Rattle.vs_prices.specs.declared.broken_at.BrokenAt.TheVariants.{Fleet, PullOut, Link, PullIn}
use Rattle.vs_prices.specs.declared.table.Table.{Table}
use Rattle.vs_rows.specs.DocumentText.{Agree}

-- two functions that are the same on some numbers in a row, or on the elements of a list
same_lists : {M : Type 0} (f g : ℕ → List M) (a n : ℕ) → ((k : ℕ) → a ≤ k → k < a + n → f k ≡ g k)
    → flat_map f (range_with_len a n) ≡ flat_map g (range_with_len a n)
same_lists f g a zero same = refl
same_lists {M = M} f g a (suc n) same =
    ap (λ (xs : List M). xs ++ flat_map f (range_with_len (a + 1) n)) (same a (omega arith) (omega arith))
    ∙ ap (λ (xs : List M). g a ++ xs)
    (same_lists f g (a + 1) n (λ k from within. same k (omega arith) (omega arith)))

pub same_map : (f g : ℕ → ℤ) (ks : List ℕ) → All (λ k. f k ≡ g k) ks → map f ks ≡ map g ks
same_map f g [] same = refl
same_map f g (k ∷ ks) same =
    ap (λ (x : ℤ). x ∷ map f ks) (All-head (λ (j : ℕ). f j ≡ g j) k ks same)
    ∙ ap (λ (xs : List ℤ). g k ∷ xs) (same_map f g ks (All-tail (λ (j : ℕ). f j ≡ g j) k ks same))

same_excess : (x y a b : ℤ) (r s : Bool) (piece : Option ℕ) → x ≡ y → a ≡ b → r ≡ s
    → exceeds x a r piece ≡ exceeds y b s piece
same_excess x y a b r s piece price other ray =
    ap (λ (z : ℤ). exceeds z a r piece) price ∙ ap (λ (z : ℤ). exceeds y z r piece) other
    ∙ ap (λ (z : Bool). exceeds y b z piece) ray

module _ (p : Problem) (t u : Table) (agree : Agree p t u) where
  pub same_vehicle : (l : ℕ) → vehicle_price t l ≡ vehicle_price u l
  same_vehicle l = ap (λ (prices : List ℤ). price_of prices l) agree.fleet

  module _ (l : ℕ) (layer : l < length p.layers) where
    same_link : (i j : ℕ) → i < length p.trips → j < length p.trips → Permitted p l i
        → link_breaks p t l i j ≡ link_breaks p u l i j
    same_link i j from to permitted =
        ap (λ (b : Bool). when b (Link (record { 0 = l }) (record { 0 = i }) (record { 0 = j })))
        (by_test (may_run p l j) refl)
      where
        by_test : (b : Bool) → may_run p l j ≡ b
            → (b && exceeds (into_price p t l j) (from_price p t l i) t.ray (link_piece p l i j))
            ≡ (b && exceeds (into_price p u l j) (from_price p u l i) u.ray (link_piece p l i j))
        by_test false is = refl
        by_test true is =
            same_excess (into_price p t l j) (into_price p u l j) (from_price p t l i) (from_price p u l i) t.ray u.ray
            (link_piece p l i j)
            (agree.into l j layer to (eqb-true (bit_at (trip_of p j).layers.0 l) 1 is))
            (agree.from l i layer from permitted) agree.ray

    same_moves : (i : ℕ) → i < length p.trips → Permitted p l i → move_breaks p t l i ≡ move_breaks p u l i
    same_moves i inside permitted =
        let out = same_excess (into_price p t l i) (into_price p u l i) (vehicle_price t l) (vehicle_price u l) t.ray
        u.ray (out_piece p l i) (agree.into l i layer inside permitted) (same_vehicle l) agree.ray in
        let in_again = same_excess (pos 0) (pos 0) (from_price p t l i) (from_price p u l i) t.ray u.ray
        (in_piece p l i) refl (agree.from l i layer inside permitted) agree.ray in
        let links = same_lists (link_breaks p t l i) (link_breaks p u l i) 0 (length p.trips)
        (λ j from within. same_link i j inside (omega arith) permitted) in
        ap (λ (b : Bool). when b (PullOut (record { 0 = l }) (record { 0 = i })) ++ links_breaks p t l i
        ++ when (exceeds (pos 0) (from_price p t l i) t.ray (in_piece p l i)) (PullIn (record { 0 = l })
        (record { 0 = i }))) out
        ∙ ap (λ (ms : List BrokenAt). when (exceeds (into_price p u l i) (vehicle_price u l) u.ray (out_piece p l i))
        (PullOut (record { 0 = l }) (record { 0 = i })) ++ ms
        ++ when (exceeds (pos 0) (from_price p t l i) t.ray (in_piece p l i)) (PullIn (record { 0 = l })
        (record { 0 = i }))) links
        ∙ ap (λ (b : Bool). when (exceeds (into_price p u l i) (vehicle_price u l) u.ray (out_piece p l i))
        (PullOut (record { 0 = l }) (record { 0 = i })) ++ links_breaks p u l i
        ++ when b (PullIn (record { 0 = l }) (record { 0 = i }))) in_again

    same_trip : (i : ℕ) → i < length p.trips → trip_breaks p t l i ≡ trip_breaks p u l i
    same_trip i inside = by_test (may_run p l i) refl
      where
        by_test : (b : Bool) → may_run p l i ≡ b
            → cond b (move_breaks p t l i) [] ≡ cond b (move_breaks p u l i) []
        by_test false is = refl
        by_test true is = same_moves i inside (eqb-true (bit_at (trip_of p i).layers.0 l) 1 is)

    same_layer : layer_breaks p t l ≡ layer_breaks p u l
    same_layer =
        ap (λ (x : ℤ). when (int_lt x (pos 0)) (Fleet (record { 0 = l }))
        ++ flat_map (trip_breaks p t l) (range_with_len 0 (length p.trips))) (same_vehicle l)
        ∙ ap (λ (ms : List BrokenAt). when (int_lt (vehicle_price u l) (pos 0)) (Fleet (record { 0 = l })) ++ ms)
        (same_lists (trip_breaks p t l) (trip_breaks p u l) 0 (length p.trips)
        (λ i from within. same_trip i (omega arith)))

  pub same_breaks : breaks_of p t ≡ breaks_of p u
  same_breaks = same_lists (layer_breaks p t) (layer_breaks p u) 0 (length p.layers)
      (λ l from within. same_layer l (omega arith))

  module _ (instance : IsInstance p) (sets : List LayerSet) (restriction : IsRestriction p sets) where
    same_price : (i l : ℕ) → i < length p.trips → Has (set_of sets i) l → trip_price p t i l ≡ trip_price p u i l
    same_price i l inside has =
        let permitted = restriction.permitted i l inside has in
        let layer = (instance.trips i no_trip inside).layers l permitted in
        ap (λ (x : ℤ). x +ℤ scaled t.ray (trip_piece p l i) -ℤ from_price p t l i)
        (agree.into l i layer inside permitted)
        ∙ ap (λ (r : Bool). into_price p u l i +ℤ scaled r (trip_piece p l i) -ℤ from_price p t l i) agree.ray
        ∙ ap (λ (x : ℤ). into_price p u l i +ℤ scaled u.ray (trip_piece p l i) -ℤ x)
        (agree.from l i layer inside permitted)

    same_least : (i : ℕ) → i < length p.trips → least_price p sets t i ≡ least_price p sets u i
    same_least i inside =
        let among : All (λ l. eqb (bit_at (set_of sets i).0 l) 1 ≡ true) (members (set_of sets i)) =
        filter_passes (λ l. eqb (bit_at (set_of sets i).0 l) 1) layer_numbers in
        ap least (same_map (trip_price p t i) (trip_price p u i) (members (set_of sets i))
        (All-weaker (λ (l : ℕ). eqb (bit_at (set_of sets i).0 l) 1 ≡ true)
        (λ (l : ℕ). trip_price p t i l ≡ trip_price p u i l)
        (λ l is. same_price i l inside (eqb-true (bit_at (set_of sets i).0 l) 1 is)) (members (set_of sets i)) among))

    pub same_value : table_value p sets t ≡ table_value p sets u
    same_value =
        ap (λ (x : ℤ). x -ℤ total (map (fleet_price p t) (range_with_len 0 (length p.layers))))
        (same_totals (least_price p sets t) (least_price p sets u) 0 (length p.trips)
        (λ i from within. same_least i (omega arith)))
        ∙ ap (λ (x : ℤ). total (map (least_price p sets u) (range_with_len 0 (length p.trips))) -ℤ x)
        (same_totals (fleet_price p t) (fleet_price p u) 0 (length p.layers)
        (λ l from within. ap (λ (x : ℤ). x *ℤ pos (layer_of p l).fleet) (same_vehicle l)))

    abbrev worth_by : Bool → ℤ → Bound
    worth_by ray value = cond ray (cond (int_lt (pos 0) value) NoPlan (AtLeast (pos 0))) (AtLeast (rounded_up value))

    pub same_worth : worth_of p sets t ≡ worth_of p sets u
    same_worth =
        ap (λ (r : Bool). worth_by r (table_value p sets t)) agree.ray
        ∙ ap (λ (x : ℤ). worth_by u.ray x) same_value
