-- A table of a part is, widened, worth the same within every restriction of the part.
use Rattle.std.proofs.Common.{◌≡◌, ℕ, ◌<◌, Bool, true, eqb, List, length, map, sym, ap, ◌∙◌, subst, arith, MatchBool, ℤ, pos, ◌+ℤ◌, ◌-ℤ◌, ◌*ℤ◌, ◌≤ℤ◌, ◌<ℤ◌}
use Rattle.std.specs.Int.{bit_at}
use Rattle.std.specs.List.{All, range_with_len}
use Rattle.std.proofs.lemmas.Bool.{eqb-true}
use Rattle.std.proofs.lemmas.List.Elements.{All-weaker, filter_passes}
use Rattle.vs_types.specs.LayerSet.{Has, layer_numbers, members}
use Rattle.vs_types.specs.declared.layer_set.LayerSet.{LayerSet}
use Rattle.vs_instance.specs.HoldingTable.{price_of, scaled}
use Rattle.vs_instance.specs.Instance.{IsInstance}
use Rattle.vs_instance.specs.Lagrangian.{total}
use Rattle.vs_instance.specs.Narrowed.{narrowed}
use Rattle.vs_instance.specs.Problem.{Problem}
use Rattle.vs_instance.specs.Restriction.{IsRestriction, set_of}
use Rattle.vs_instance.specs.Ways.{layer_of, no_trip}
use Rattle.vs_instance.specs.declared.trip.Trip.{Trip}
use Rattle.vs_instance.proofs.CallerLemmas.{length-narrowed, same_totals, trip_of-narrowed}
use Rattle.vs_prices.specs.Table.{from_price, into_price}
use Rattle.vs_prices.specs.Worth.{IsRoundedUp, IsWorth, fleet_price, least, least_price, table_value, trip_price, trips_pay, vehicles_pay}
use Rattle.vs_prices.specs.declared.bound.Bound.{Bound}
use Rattle.vs_prices.specs.declared.bound.Bound.TheVariants.{AtLeast, NoPlan}
use Rattle.vs_prices.specs.declared.table.Table.{Table}
use Rattle.vs_resume.specs.Widened.{IsLeftOut, IsWidened}
use Rattle.vs_resume.proofs.Pieces.{trip_same}
use Rattle.vs_resume.proofs.WidenedTables.{price_in_part}
use Rattle.vs_check.proofs.CallerLemmas.{same_map}

module _ (p : Problem) (sets inner : List LayerSet) (old new : Table) (is : IsInstance p)
    (restricts : IsRestriction p sets) (within_part : IsRestriction (narrowed p sets) inner)
    (widened : IsWidened p sets old new) where
  abbrev part : Problem
  part = narrowed p sets

  of_part : (i : ℕ) → i < length p.trips → i < length part.trips
  of_part i inside = omega (arith, inside, length-narrowed p sets)

  same_price : (i l : ℕ) → i < length p.trips → Has (set_of inner i) l
      → trip_price part old i l ≡ trip_price p new i l
  same_price i l inside has =
      let own = subst (λ (t : Trip). Has t.layers l) (trip_of-narrowed p sets i inside)
      (within_part.permitted i l (of_part i inside) has) in
      let layer = (is.trips i no_trip inside).layers l (restricts.permitted i l inside own) in
      let stays : IsLeftOut p sets l i → ⊥ = λ out. out.1 own in
      let into : into_price part old l i ≡ into_price p new l i =
      price_in_part p sets old.into.items l i ∙ sym (widened.into_kept l i layer inside stays) in
      let from : from_price part old l i ≡ from_price p new l i =
      price_in_part p sets old.from.items l i ∙ sym (widened.from_kept l i layer inside stays) in
      λ k. into k +ℤ scaled (sym widened.ray k) (trip_same p sets l i k) -ℤ from k

  same_least : (i : ℕ) → i < length p.trips → least_price part inner old i ≡ least_price p inner new i
  same_least i inside =
      let among : All (λ l. eqb (bit_at (set_of inner i).0 l) 1 ≡ true) (members (set_of inner i)) =
      filter_passes (λ l. eqb (bit_at (set_of inner i).0 l) 1) layer_numbers in
      ap least (same_map (trip_price part old i) (trip_price p new i) (members (set_of inner i))
      (All-weaker (λ (l : ℕ). eqb (bit_at (set_of inner i).0 l) 1 ≡ true)
      (λ (l : ℕ). trip_price part old i l ≡ trip_price p new i l)
      (λ l is_one. same_price i l inside (eqb-true (bit_at (set_of inner i).0 l) 1 is_one)) (members (set_of inner i))
      among))

  same_trips : trips_pay part inner old ≡ trips_pay p inner new
  same_trips =
      ap (λ (n : ℕ). total (map (least_price part inner old) (range_with_len 0 n))) (length-narrowed p sets)
      ∙ same_totals (least_price part inner old) (least_price p inner new) 0 (length p.trips)
      (λ i from within. same_least i (omega arith))

  same_vehicles : vehicles_pay part old ≡ vehicles_pay p new
  same_vehicles =
      same_totals (fleet_price part old) (fleet_price p new) 0 (length p.layers)
      (λ l from within. ap (λ (x : ℤ). x *ℤ pos (layer_of p l).fleet)
      (sym (ap (λ (fleet : _). price_of fleet.items l) widened.fleet)))

  same_value : table_value part inner old ≡ table_value p inner new
  same_value = λ k. same_trips k -ℤ same_vehicles k

  pub widened_worth : (worth : Bound) → IsWorth part inner old worth → IsWorth p inner new worth
  widened_worth (AtLeast n) worth =
      subst (λ (x : Bool × ℤ). MatchBool x.0 ((x.1 ≤ℤ pos 0) × (n ≡ pos 0)) (IsRoundedUp x.1 n))
      (λ k. (sym widened.ray k, same_value k)) worth
  widened_worth NoPlan worth = (widened.ray ∙ worth.0, subst (λ (x : ℤ). pos 0 <ℤ x) same_value worth.1)
