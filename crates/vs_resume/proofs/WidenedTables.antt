-- A table that holds in a part holds, widened, in the instance.
use Rattle.std.proofs.Common.{◌≡◌, ℕ, ◌*◌, ◌+◌, ◌<◌, ◌≤◌, Bool, true, false, ◌⊎◌, inl, inr, List, length, sym, ap, ◌∙◌, subst, arith, Option, ℤ, pos, ◌+ℤ◌, ◌≤ℤ◌}
use Rattle.std.specs.Prelude.{IfSome, slice_range}
use Rattle.std.specs.List.{All}
use Rattle.std.proofs.lemmas.Bool.{cases_lt}
use Rattle.std.proofs.lemmas.Int.{ints}
use Rattle.std.proofs.lemmas.List.{get_or_past}
use Rattle.std.proofs.lemmas.List.Elements.{All-take, All-drop}
use Rattle.vs_types.specs.LayerSet.{Has}
use Rattle.vs_types.specs.declared.layer_set.LayerSet.{LayerSet}
use Rattle.vs_types.proofs.CallerLemmas.{each_some}
use Rattle.vs_instance.specs.HoldingTable.{HoldsInLayer, price_of, scaled}
use Rattle.vs_instance.specs.Narrowed.{narrowed}
use Rattle.vs_instance.specs.Pieces.{in_piece, link_piece, out_piece}
use Rattle.vs_instance.specs.Problem.{Problem}
use Rattle.vs_instance.specs.Restriction.{IsRestriction, set_of}
use Rattle.vs_instance.specs.Ways.{Permitted}
use Rattle.vs_instance.specs.declared.trip.Trip.{Trip}
use Rattle.vs_instance.proofs.CallerLemmas.{dec_has, length-narrowed, trip_of-narrowed}
use Rattle.vs_prices.specs.Table.{Fits, HoldingTable, IsPrice, from_price, into_price, prices_in, vehicle_price}
use Rattle.vs_prices.specs.declared.table.Table.{Table}
use Rattle.vs_resume.specs.Widened.{IsLeftOut, IsWidened}
use Rattle.vs_resume.proofs.Pieces.{in_same, link_same, out_same}

-- a number that is read among prices is a price
read_price : (prices : List ℤ) → All IsPrice prices → (i : ℕ) → IsPrice (price_of prices i)
read_price prices each i = by_place (cases_lt i (length prices))
  where
    by_place : (i < length prices) ⊎ (length prices ≤ i) → IsPrice (price_of prices i)
    by_place (inl within) = each i (pos 0) within
    by_place (inr past) =
        subst IsPrice (sym (get_or_past prices i (pos 0) past)) (omega (arith, ints), omega (arith, ints))

-- a scaled piece is no less than 0
scaled_up : (ray : Bool) (c : ℕ) → pos 0 ≤ℤ scaled ray c
scaled_up true c = omega (arith, ints)
scaled_up false c = omega (arith, ints)

-- a move: its piece of cost, the prices into and from its trips, and that of a vehicle
record Move : Type 0 where
  piece : Option ℕ
  into : ℤ
  from : ℤ
  vehicle : ℤ
  ray : Bool

-- what the prices of each kind of move have to keep
abbrev Out : Move → Type 0
Out m = IfSome m.piece (λ c. m.into ≤ℤ (scaled m.ray c +ℤ m.vehicle))

abbrev Link : Move → Type 0
Link m = IfSome m.piece (λ c. m.into ≤ℤ (m.from +ℤ scaled m.ray c))

abbrev In : Move → Type 0
In m = IfSome m.piece (λ c. pos 0 ≤ℤ (m.from +ℤ scaled m.ray c))

module _ (p : Problem) (sets : List LayerSet) where
  abbrev part : Problem
  part = narrowed p sets

  -- the places of prices are the same
  pub price_in_part : (prices : List ℤ) (l i : ℕ)
      → price_of (prices_in part l prices) i ≡ price_of (prices_in p l prices) i
  price_in_part prices l i =
      ap (λ (n : ℕ). price_of (slice_range prices (l * n) (l * n + n)) i) (length-narrowed p sets)

  price_is : (prices : List ℤ) (l i : ℕ) → All IsPrice prices → IsPrice (price_of (prices_in p l prices) i)
  price_is prices l i each = read_price (prices_in p l prices) (All-take IsPrice _ _ (All-drop IsPrice _ prices each)) i

  module _ (old new : Table) (restricts : IsRestriction p sets) (widened : IsWidened p sets old new) (fits : Fits p new)
      (l : ℕ) (layer : l < length p.layers) (holds : HoldsInLayer part l old.ray (prices_in part l old.into.items)
      (prices_in part l old.from.items) (vehicle_price old l)) where
    into_is : (i : ℕ) → IsPrice (into_price p new l i)
    into_is i = price_is new.into.items l i fits.into

    from_is : (i : ℕ) → IsPrice (from_price p new l i)
    from_is i = price_is new.from.items l i fits.from

    same_vehicle : vehicle_price old l ≡ vehicle_price new l
    same_vehicle = sym (ap (λ (fleet : _). price_of fleet.items l) widened.fleet)

    vehicle_up : pos 0 ≤ℤ vehicle_price new l
    vehicle_up = subst (λ (x : ℤ). pos 0 ≤ℤ x) same_vehicle holds.vehicle

    stays : (i : ℕ) → Has (set_of sets i) l → IsLeftOut p sets l i → ⊥
    stays i has out = out.1 has

    in_part : (i : ℕ) → i < length p.trips → i < length part.trips
    in_part i inside = omega (arith, inside, length-narrowed p sets)

    may : (i : ℕ) → i < length p.trips → Has (set_of sets i) l → Permitted part l i
    may i inside has = subst (λ (t : Trip). Has t.layers l) (sym (trip_of-narrowed p sets i inside)) has

    same_into : (i : ℕ) → i < length p.trips → Has (set_of sets i) l
        → into_price part old l i ≡ into_price p new l i
    same_into i inside has =
        price_in_part old.into.items l i ∙ sym (widened.into_kept l i layer inside (stays i has))

    same_from : (i : ℕ) → i < length p.trips → Has (set_of sets i) l
        → from_price part old l i ≡ from_price p new l i
    same_from i inside has =
        price_in_part old.from.items l i ∙ sym (widened.from_kept l i layer inside (stays i has))

    outs : (i : ℕ) → i < length p.trips → Permitted p l i
        → IfSome (out_piece p l i) (λ c. into_price p new l i ≤ℤ (scaled new.ray c +ℤ vehicle_price new l))
    outs i inside permitted = by_set (dec_has (set_of sets i) l)
      where
        by_set : Dec (Has (set_of sets i) l) → Out (record {
          piece = out_piece p l i;
          into = into_price p new l i;
          from = pos 0;
          vehicle = vehicle_price new l;
          ray = new.ray;
        })
        by_set (yes has) = subst Out (λ k. record {
          piece = out_same p sets l i k;
          into = same_into i inside has k;
          from = pos 0;
          vehicle = same_vehicle k;
          ray = sym widened.ray k;
        }) (holds.outs i (in_part i inside) (may i inside has))
        by_set (no none) =
            let least = widened.into_left_out l i layer inside (permitted, none) in
            let vehicle = vehicle_up in
            each_some (out_piece p l i) _ (λ c. let piece = scaled_up new.ray c in omega (arith, ints))

    links : (i j : ℕ) → i < length p.trips → j < length p.trips → Permitted p l i → Permitted p l j
        → IfSome (link_piece p l i j) (λ c. into_price p new l j ≤ℤ (from_price p new l i +ℤ scaled new.ray c))
    links i j inside next permitted onward = by_sets (dec_has (set_of sets i) l) (dec_has (set_of sets j) l)
      where
        by_sets : Dec (Has (set_of sets i) l) → Dec (Has (set_of sets j) l)
            → Link (record {
              piece = link_piece p l i j;
              into = into_price p new l j;
              from = from_price p new l i;
              vehicle = pos 0;
              ray = new.ray;
            })
        by_sets (yes has) (yes also) = subst Link (λ k. record {
          piece = link_same p sets l i j k;
          into = same_into j next also k;
          from = same_from i inside has k;
          vehicle = pos 0;
          ray = sym widened.ray k;
        }) (holds.links i j (in_part i inside) (in_part j next) (may i inside has) (may j next also))
        by_sets (yes has) (no none) =
            let least = widened.into_left_out l j layer next (onward, none) in
            let price = from_is i in
            each_some (link_piece p l i j) _ (λ c. let piece = scaled_up new.ray c in omega (arith, ints, price.0))
        by_sets (no none) also =
            let greatest = widened.from_left_out l i layer inside (permitted, none) in
            let price = into_is j in
            each_some (link_piece p l i j) _ (λ c. let piece = scaled_up new.ray c in omega (arith, ints, price.1))

    ins : (i : ℕ) → i < length p.trips → Permitted p l i
        → IfSome (in_piece p l i) (λ c. pos 0 ≤ℤ (from_price p new l i +ℤ scaled new.ray c))
    ins i inside permitted = by_set (dec_has (set_of sets i) l)
      where
        by_set : Dec (Has (set_of sets i) l) → In (record {
          piece = in_piece p l i;
          into = pos 0;
          from = from_price p new l i;
          vehicle = pos 0;
          ray = new.ray;
        })
        by_set (yes has) = subst In (λ k. record {
          piece = in_same p sets l i k;
          into = pos 0;
          from = same_from i inside has k;
          vehicle = pos 0;
          ray = sym widened.ray k;
        })
            (holds.ins i (in_part i inside) (may i inside has))
        by_set (no none) =
            let greatest = widened.from_left_out l i layer inside (permitted, none) in
            each_some (in_piece p l i) _ (λ c. let piece = scaled_up new.ray c in omega (arith, ints))

    holds_in_layer : HoldsInLayer p l new.ray (prices_in p l new.into.items) (prices_in p l new.from.items)
        (vehicle_price new l)
    holds_in_layer = record { vehicle = vehicle_up; outs = outs; links = links; ins = ins }

  -- it holds in every layer
  pub widened_holds : (old new : Table) → IsRestriction p sets → IsWidened p sets old new → Fits p new
      → HoldingTable part old → HoldingTable p new
  widened_holds old new restricts widened fits holds l layer =
      holds_in_layer old new restricts widened fits l layer (holds l layer)
