-- Tables of a problem where nothing costs anything are rays of the problem.
use Rattle.std.proofs.Common.{◌≡◌, ℕ, ◌*◌, ◌<◌, Bool, true, List, length, map, refl, sym, subst, Option, Some, None, ℤ, pos, ◌+ℤ◌, ◌-ℤ◌, ◌*ℤ◌, ◌≤ℤ◌, ◌<ℤ◌}
use Rattle.std.specs.Prelude.{IfSome}
use Rattle.std.specs.List.{range_with_len}
use Rattle.std.proofs.lemmas.List.{length-map}
use Rattle.vs_types.specs.declared.layer_set.LayerSet.{LayerSet}
use Rattle.vs_types.specs.LayerSet.{members}
use Rattle.vs_instance.specs.Problem.{Problem}
use Rattle.vs_instance.specs.HoldingTable.{HoldsInLayer, price_of, scaled}
use Rattle.vs_instance.specs.Lagrangian.{total}
use Rattle.vs_instance.specs.Pieces.{in_piece, link_piece, out_piece, trip_piece}
use Rattle.vs_instance.specs.Restriction.{set_of}
use Rattle.vs_instance.specs.Unrated.{unrated, without_rates}
use Rattle.vs_instance.proofs.CallerLemmas.{free, in-without_rates, layer_of-without_rates, link-without_rates, out-without_rates, scaled-none, trip-without_rates}
use Rattle.vs_prices.specs.declared.table.Table.{Table}
use Rattle.vs_prices.specs.Rays.{IsAlsoRay, as_ray}
use Rattle.vs_prices.specs.Table.{Fits, HoldingTable, from_price, into_price, prices_in, vehicle_price}
use Rattle.vs_prices.specs.Worth.{fleet_price, least, least_price, table_value, trip_price, trips_pay, vehicles_pay}

-- what is so of a piece that costs nothing is so of it in a ray
read_free : (ray : Bool) (piece : Option ℕ) (P : ℤ → Type 0) → IfSome (free piece) (λ c. P (scaled ray c))
    → IfSome piece (λ c. P (scaled true c))
read_free ray None P is = tt
read_free ray (Some c) P is = subst P (scaled-none ray) is

made_free : (ray : Bool) (piece : Option ℕ) (P : ℤ → Type 0) → IfSome piece (λ c. P (scaled true c))
    → IfSome (free piece) (λ c. P (scaled ray c))
made_free ray None P is = tt
made_free ray (Some c) P is = subst P (sym (scaled-none ray)) is

module _ (ray : Bool) (unrated_piece piece : Option ℕ) (same : unrated_piece ≡ free piece) (P : ℤ → Type 0) where
  to_ray : IfSome unrated_piece (λ c. P (scaled ray c)) → IfSome piece (λ c. P (scaled true c))
  to_ray is = read_free ray piece P (subst (λ (o : Option ℕ). IfSome o (λ c. P (scaled ray c))) same is)

  from_ray : IfSome piece (λ c. P (scaled true c)) → IfSome unrated_piece (λ c. P (scaled ray c))
  from_ray is = subst (λ (o : Option ℕ). IfSome o (λ c. P (scaled ray c))) (sym same) (made_free ray piece P is)

module _ (p : Problem) (l : ℕ) (ray : Bool) (into from : List ℤ) (fleet : ℤ) where
  abbrev OutHolds : ℕ → ℤ → Type 0
  OutHolds i c = price_of into i ≤ℤ (c +ℤ fleet)

  abbrev LinkHolds : ℕ → ℕ → ℤ → Type 0
  LinkHolds i j c = price_of into j ≤ℤ (price_of from i +ℤ c)

  abbrev InHolds : ℕ → ℤ → Type 0
  InHolds i c = pos 0 ≤ℤ (price_of from i +ℤ c)

  layer_to_ray : HoldsInLayer (without_rates p) l ray into from fleet → HoldsInLayer p l true into from fleet
  layer_to_ray holds = record {
    vehicle = holds.vehicle;
    outs = λ i inside permitted.
        to_ray ray _ (out_piece p l i) (out-without_rates p l i) (OutHolds i) (holds.outs i inside permitted);
    links = λ i j inside next permitted onward.
        to_ray ray _ (link_piece p l i j) (link-without_rates p l i j) (LinkHolds i j)
        (holds.links i j inside next permitted onward);
    ins = λ i inside permitted.
        to_ray ray _ (in_piece p l i) (in-without_rates p l i) (InHolds i) (holds.ins i inside permitted);
  }

  layer_from_ray : HoldsInLayer p l true into from fleet → HoldsInLayer (without_rates p) l ray into from fleet
  layer_from_ray holds = record {
    vehicle = holds.vehicle;
    outs = λ i inside permitted.
        from_ray ray _ (out_piece p l i) (out-without_rates p l i) (OutHolds i) (holds.outs i inside permitted);
    links = λ i j inside next permitted onward.
        from_ray ray _ (link_piece p l i j) (link-without_rates p l i j) (LinkHolds i j)
        (holds.links i j inside next permitted onward);
    ins = λ i inside permitted.
        from_ray ray _ (in_piece p l i) (in-without_rates p l i) (InHolds i) (holds.ins i inside permitted);
  }

module _ (p : Problem) (table : Table) where
  layers_same : length (without_rates p).layers ≡ length p.layers
  layers_same = length-map p.layers unrated

  fits_to : Fits (without_rates p) table → Fits p (as_ray table)
  fits_to fits = record {
    into_size = subst (λ (n : ℕ). length table.into.items ≡ n * length p.trips) layers_same fits.into_size;
    from_size = subst (λ (n : ℕ). length table.from.items ≡ n * length p.trips) layers_same fits.from_size;
    fleet_size = subst (λ (n : ℕ). length table.fleet.items ≡ n) layers_same fits.fleet_size;
    into = fits.into;
    from = fits.from;
    fleet = fits.fleet;
  }

  fits_from : Fits p (as_ray table) → Fits (without_rates p) table
  fits_from fits = record {
    into_size = subst (λ (n : ℕ). length table.into.items ≡ n * length p.trips) (sym layers_same) fits.into_size;
    from_size = subst (λ (n : ℕ). length table.from.items ≡ n * length p.trips) (sym layers_same) fits.from_size;
    fleet_size = subst (λ (n : ℕ). length table.fleet.items ≡ n) (sym layers_same) fits.fleet_size;
    into = fits.into;
    from = fits.from;
    fleet = fits.fleet;
  }

  holds_to : HoldingTable (without_rates p) table → HoldingTable p (as_ray table)
  holds_to holds l inside =
      layer_to_ray p l table.ray (prices_in p l table.into.items) (prices_in p l table.from.items)
      (vehicle_price table l) (holds l (subst (λ (n : ℕ). l < n) (sym layers_same) inside))

  holds_from : HoldingTable p (as_ray table) → HoldingTable (without_rates p) table
  holds_from holds l inside =
      layer_from_ray p l table.ray (prices_in p l table.into.items) (prices_in p l table.from.items)
      (vehicle_price table l) (holds l (subst (λ (n : ℕ). l < n) layers_same inside))

  own_same : (i l : ℕ) → scaled table.ray (trip_piece (without_rates p) l i) ≡ scaled true (trip_piece p l i)
  own_same i l =
      subst (λ (c : ℕ). scaled table.ray c ≡ pos 0) (sym (trip-without_rates p l i)) (scaled-none table.ray)

  trip_same : (i l : ℕ) → trip_price (without_rates p) table i l ≡ trip_price p (as_ray table) i l
  trip_same i l = λ k. into_price p table l i +ℤ own_same i l k -ℤ from_price p table l i

  least_same : (sets : List LayerSet) (i : ℕ)
      → least_price (without_rates p) sets table i ≡ least_price p sets (as_ray table) i
  least_same sets i = λ k. least (map (λ (l : ℕ). trip_same i l k) (members (set_of sets i)))

  fleet_same : (l : ℕ) → fleet_price (without_rates p) table l ≡ fleet_price p (as_ray table) l
  fleet_same l = λ k. vehicle_price table l *ℤ pos (layer_of-without_rates p l k).fleet

  vehicles_same : vehicles_pay (without_rates p) table ≡ vehicles_pay p (as_ray table)
  vehicles_same = λ k. total (map (λ (l : ℕ). fleet_same l k) (range_with_len 0 (layers_same k)))

  trips_same : (sets : List LayerSet) → trips_pay (without_rates p) sets table ≡ trips_pay p sets (as_ray table)
  trips_same sets = λ k. total (map (λ (i : ℕ). least_same sets i k) (range_with_len 0 (length p.trips)))

  value_same : (sets : List LayerSet) → table_value (without_rates p) sets table ≡ table_value p sets (as_ray table)
  value_same sets = λ k. trips_same sets k -ℤ vehicles_same k

  -- a table of the problem without rates is a ray
  pub is_also_ray : IsAlsoRay p table
  is_also_ray = record {
    fits = (fits_to, fits_from);
    holds = (holds_to, holds_from);
    value = value_same;
    shows = λ sets. (
      λ worth. subst (λ (v : ℤ). pos 0 <ℤ v) (sym (value_same sets)) worth.1,
      λ above. (refl, subst (λ (v : ℤ). pos 0 <ℤ v) (value_same sets) above),
    );
  }
