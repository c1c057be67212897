-- What becomes of a table and of prices that are exchanged.
use Rattle.std.proofs.Common.{◌≡◌, ◌≢◌, ℕ, ◌<◌, Bool, false, List, length, set, get_or, sym, ap, ◌∙◌, subst, inl, inr, arith, ℤ, pos, get_or-set_other}
use Rattle.std.specs.List.{All}
use Rattle.std.proofs.lemmas.Bool.{cases_eq}
use Rattle.std.proofs.lemmas.List.{length-set, set-get_or, set-set}
use Rattle.std.proofs.lemmas.List.Elements.{All-set}
use Rattle.vs_instance.specs.Problem.{Problem}
use Rattle.vs_instance.specs.HoldingTable.{HoldsInLayer}
use Rattle.vs_circ.specs.declared.circ.LayerPrices.{LayerPrices}
use Rattle.vs_circ.specs.LayerPrices.{AreHolding}
use Rattle.vs_prices.specs.declared.table.Table.{Table}
use Rattle.vs_prices.specs.Table.{Fits, HoldingTable, IsPrice, prices_in, vehicle_price}
use Rattle.vs_multi.specs.Exchanges.{AgreeBut, HasPrices, IsWithPrices, with_row}
use Rattle.vs_multi.proofs.Rows.{All-row, All-with_row, length-row, length-with_row, other_row, with_row-back}
use Rattle.vs_types.proofs.CallerLemmas.{row_inside}

module _ (p : Problem) (l : ℕ) (layer : l < length p.layers) where
  -- prices hold where the table has them, and the other way round
  holds_along : (table : Table) (prices : LayerPrices) → HasPrices p table l prices → table.ray ≡ false
      → HoldsInLayer p l false prices.into.items prices.from.items prices.fleet
      → HoldsInLayer p l table.ray (prices_in p l table.into.items) (prices_in p l table.from.items)
      (vehicle_price table l)
  holds_along table prices has costs holds =
      subst (λ (r : Bool). HoldsInLayer p l r (prices_in p l table.into.items) (prices_in p l table.from.items)
      (vehicle_price table l)) (sym costs)
      (subst (λ (xs : List ℤ). HoldsInLayer p l false xs (prices_in p l table.from.items) (vehicle_price table l))
      (sym has.into)
      (subst (λ (xs : List ℤ). HoldsInLayer p l false prices.into.items xs (vehicle_price table l)) (sym has.from)
      (subst (λ (x : ℤ). HoldsInLayer p l false prices.into.items prices.from.items x) (sym has.fleet) holds)))

  holds_back : (table : Table) (prices : LayerPrices) → HasPrices p table l prices → table.ray ≡ false
      → HoldsInLayer p l table.ray (prices_in p l table.into.items) (prices_in p l table.from.items)
      (vehicle_price table l)
      → HoldsInLayer p l false prices.into.items prices.from.items prices.fleet
  holds_back table prices has costs holds =
      subst (λ (x : ℤ). HoldsInLayer p l false prices.into.items prices.from.items x) has.fleet
      (subst (λ (xs : List ℤ). HoldsInLayer p l false prices.into.items xs (vehicle_price table l)) has.from
      (subst (λ (xs : List ℤ). HoldsInLayer p l false xs (prices_in p l table.from.items) (vehicle_price table l))
      has.into
      (subst (λ (r : Bool). HoldsInLayer p l r (prices_in p l table.into.items) (prices_in p l table.from.items)
      (vehicle_price table l)) costs holds)))

  -- prices that a table had in the layer
  pub taken_hold : (table : Table) (prices : LayerPrices) → Fits p table → table.ray ≡ false → HoldingTable p table
      → HasPrices p table l prices → AreHolding p l false prices
  taken_hold table prices fits costs holds has =
      let inside = row_inside (length p.trips) l (length p.layers) layer in
      record {
        into_size = sym (ap (λ (xs : List ℤ). length xs) has.into)
            ∙ length-row (length p.trips) l table.into.items (omega (arith, inside, fits.into_size));
        from_size = sym (ap (λ (xs : List ℤ). length xs) has.from)
            ∙ length-row (length p.trips) l table.from.items (omega (arith, inside, fits.from_size));
        into = subst (All IsPrice) has.into (All-row IsPrice (length p.trips) l table.into.items fits.into);
        from = subst (All IsPrice) has.from (All-row IsPrice (length p.trips) l table.from.items fits.from);
        fleet = subst IsPrice has.fleet (fits.fleet l (pos 0) (omega (arith, fits.fleet_size)));
        holds = holds_back table prices has costs (holds l layer);
      }

  module _ (prices : LayerPrices) (old new : Table) (given : AreHolding p l false prices) (fits : Fits p old)
      (is : IsWithPrices l prices old new) where
    -- the prices of all other layers stay
    pub agree_but : AgreeBut p l old new
    agree_but = record {
      into = λ k within apart. ap (prices_in p k) is.into
          ∙ other_row (length p.trips) l (length p.layers) old.into.items prices.into.items layer fits.into_size
          given.into_size k within apart;
      from = λ k within apart. ap (prices_in p k) is.from
          ∙ other_row (length p.trips) l (length p.layers) old.from.items prices.from.items layer fits.from_size
          given.from_size k within apart;
      fleet = λ k within apart. ap (λ (xs : List ℤ). get_or xs k (pos 0)) is.fleet
          ∙ get_or-set_other old.fleet.items l k prices.fleet (pos 0) apart;
    }

    -- the table still fits
    pub fits_still : Fits p new
    fits_still = record {
      into_size = ap (λ (xs : List ℤ). length xs) is.into
          ∙ length-with_row (length p.trips) l (length p.layers) old.into.items prices.into.items layer fits.into_size
          given.into_size ∙ fits.into_size;
      from_size = ap (λ (xs : List ℤ). length xs) is.from
          ∙ length-with_row (length p.trips) l (length p.layers) old.from.items prices.from.items layer fits.from_size
          given.from_size ∙ fits.from_size;
      fleet_size = ap (λ (xs : List ℤ). length xs) is.fleet ∙ length-set old.fleet.items l prices.fleet
          ∙ fits.fleet_size;
      into = subst (All IsPrice) (sym is.into)
          (All-with_row (length p.trips) l (length p.layers) old.into.items prices.into.items layer fits.into_size
          given.into_size IsPrice fits.into given.into);
      from = subst (All IsPrice) (sym is.from)
          (All-with_row (length p.trips) l (length p.layers) old.from.items prices.from.items layer fits.from_size
          given.from_size IsPrice fits.from given.from);
      fleet = subst (All IsPrice) (sym is.fleet) (All-set IsPrice old.fleet.items l prices.fleet given.fleet
          fits.fleet);
    }

    in_other : (k : ℕ) → k < length p.layers → k ≢ l → HoldingTable p old
        → HoldsInLayer p k new.ray (prices_in p k new.into.items) (prices_in p k new.from.items) (vehicle_price new k)
    in_other k within apart holds =
        let same = agree_but in
        subst (λ (r : Bool). HoldsInLayer p k r (prices_in p k new.into.items) (prices_in p k new.from.items)
        (vehicle_price new k)) (sym is.ray)
        (subst (λ (xs : List ℤ). HoldsInLayer p k old.ray xs (prices_in p k new.from.items) (vehicle_price new k))
        (sym (same.into k within apart))
        (subst (λ (xs : List ℤ). HoldsInLayer p k old.ray (prices_in p k old.into.items) xs (vehicle_price new k))
        (sym (same.from k within apart))
        (subst (λ (x : ℤ). HoldsInLayer p k old.ray (prices_in p k old.into.items) (prices_in p k old.from.items) x)
        (sym (same.fleet k within apart)) (holds k within))))

    -- and holds
    pub holds_still : old.ray ≡ false → HoldingTable p old → HasPrices p new l prices → HoldingTable p new
    holds_still costs holds has k within =
        elim (cases_eq k l) [
          | inl same ↦
              subst (λ (m : ℕ). HoldsInLayer p m new.ray (prices_in p m new.into.items) (prices_in p m new.from.items)
              (vehicle_price new m)) (sym same)
              (holds_along new prices has (is.ray ∙ costs) given.holds)
          | inr apart ↦ in_other k within apart holds
        ]

  -- prices that are exchanged and exchanged back leave the table as it was
  module _ (prices taken : LayerPrices) (old mid new : Table) (given : AreHolding p l false prices) (fits : Fits p old)
      (is : IsWithPrices l prices old mid) (has : HasPrices p old l taken) (back : IsWithPrices l taken mid new) where
    -- those for entering trips
    pub into_back : new.into.items ≡ old.into.items
    into_back =
        back.into ∙ ap (λ (xs : List ℤ). with_row l taken.into.items xs) is.into
        ∙ ap (λ (xs : List ℤ). with_row l xs (with_row l prices.into.items old.into.items)) (sym has.into)
        ∙ with_row-back (length p.trips) l (length p.layers) old.into.items prices.into.items layer fits.into_size
        given.into_size

    -- those for leaving trips
    pub from_back : new.from.items ≡ old.from.items
    from_back =
        back.from ∙ ap (λ (xs : List ℤ). with_row l taken.from.items xs) is.from
        ∙ ap (λ (xs : List ℤ). with_row l xs (with_row l prices.from.items old.from.items)) (sym has.from)
        ∙ with_row-back (length p.trips) l (length p.layers) old.from.items prices.from.items layer fits.from_size
        given.from_size

    -- those of vehicles
    pub fleet_back : new.fleet.items ≡ old.fleet.items
    fleet_back =
        back.fleet ∙ ap (λ (xs : List ℤ). set xs l taken.fleet) is.fleet
        ∙ ap (λ (x : ℤ). set (set old.fleet.items l prices.fleet) l x) (sym has.fleet)
        ∙ set-set old.fleet.items l prices.fleet (get_or old.fleet.items l (pos 0))
        ∙ set-get_or old.fleet.items l (pos 0)
