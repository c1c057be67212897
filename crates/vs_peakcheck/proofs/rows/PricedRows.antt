-- The rows of prices, each in its place.
use Rattle.std.proofs.Common.{◌≡◌, ℕ, ◌+◌, ◌<◌, ◌≤◌, Bool, true, cond, ◌&&◌, List, [], ◌∷◌, ◌++◌, length, get_or, map, take, drop, refl, sym, ap, ◌∙◌, subst, ℤ, eqb, Some, None, Option, arith}
use Rattle.std.specs.List.{All}
use Rattle.std.proofs.lemmas.Bool.{eq-eqb}
use Rattle.std.proofs.lemmas.List.{drop_all, drop_more, get_or-map, length-take, length_push, take_all, take_more}
use Rattle.std.proofs.lemmas.List.Elements.{All-nil, All-push}
use Rattle.vs_types.specs.declared.numbers.TripNo.{TripNo}
use Rattle.vs_instance.specs.Problem.{Problem}
use Rattle.vs_prices.specs.Table.{IsPrice}
use Rattle.vs_reader.specs.declared.input.Input.{Input}
use Rattle.vs_rows.specs.declared.wrong.PriceWhy.TheVariants.{Range}
use Rattle.vs_rows.specs.DocumentRows.{DocumentRow, FleetRow, PriceRow}
use Rattle.vs_rows.specs.PriceOrder.{HasPrices, Trip, Vehicle}
use Rattle.vs_rows.specs.TableReading.{IsThere, IsWrong, ReadsFleet, ReadsPrice}
use Rattle.vs_peakcheck.specs.Counting.{numbered, permitted_trips}
use Rattle.vs_peakcheck.specs.declared.refused.PeakWhy.TheVariants.{PriceRange}
use Rattle.vs_peakcheck.specs.declared.refused.PeakError.{PeakError}
use Rattle.vs_peakcheck.specs.declared.refused.PeakError.TheVariants as error
use Rattle.vs_peakcheck.specs.PeakRows.{PartRow, PeakRow, price_rows}
use Rattle.vs_peakcheck.specs.Places.{AtBlocks, AtLayer, AtPrices, Place, behind, in_prices}
use Rattle.vs_peakcheck.specs.Reading.{IsRefusedAt}
use Rattle.vs_peakcheck.specs.PeakRefusals.{peaks}
use Rattle.vs_rows.specs.RowReading.{LeadTo, ReadsTo}
use Rattle.vs_rows.proofs.CallerLemmas.{read_on, reads_none, reads_one, wrong_row}

pub fleet_order : (p : Problem) (l : ℕ) (count : Option ℕ) (layer : ℕ) (price : ℤ) → layer ≡ l
    → behind p (AtBlocks l count) (PartRow (FleetRow layer price)) ≡ Some (in_prices l (permitted_trips p l))
fleet_order p l count layer price same =
    ap (λ (b : Bool). cond b (Some (in_prices l (permitted_trips p l))) None) (eq-eqb layer l same)

pub price_order : (p : Problem) (l i layer trip : ℕ) (later : List ℕ) (into from : ℤ) → layer ≡ l → trip ≡ i
    → behind p (AtPrices l i later) (PartRow (PriceRow layer trip into from)) ≡ Some (in_prices l later)
price_order p l i layer trip later into from same_layer same_trip =
    ap (λ (b : Bool). cond (b && eqb trip i) (Some (in_prices l later)) None) (eq-eqb layer l same_layer)
    ∙ ap (λ (b : Bool). cond (true && b) (Some (in_prices l later)) None) (eq-eqb trip i same_trip)

-- what an error tells of the rows behind others, it tells of those
pub passes : (input : Input) {at to : ℕ} {place next : Place} (e : PeakError) → LeadTo peaks input at place to next
    → IsRefusedAt input to next e → IsRefusedAt input at place e
passes input (error.Refused row why) lead refused = lead.refused row why refused
passes input error.Memory lead refused = tt

module _ (input : Input) (row l : ℕ) where
  -- a vehicle's price, and a number that is none
  pub fleet_reads : (count : Option ℕ) (price : ℤ) → ReadsFleet input row l price
      → ReadsTo peaks input row (AtBlocks l count) (PartRow (FleetRow l price) ∷ []) (row + 1)
      (in_prices l (permitted_trips input.instance l))
  fleet_reads count price r =
      reads_one peaks input row r.here (AtBlocks l count) (PartRow (FleetRow l price)) (tt, r.says)
      (in_prices l (permitted_trips input.instance l))
      (record { suits = tt; order = fleet_order input.instance l count l price refl; right = r.is_price })

  fleet_refused : (count : Option ℕ) (said : DocumentRow) → IsThere input row (Vehicle l) said
      → ¬ (HasPrices said)
      → IsRefusedAt input row (AtBlocks l count) (error.Refused (input.before + 1 + row) PriceRange)
  fleet_refused count (FleetRow layer price) there none =
      wrong_row peaks input row there.here (AtBlocks l count) (PartRow (FleetRow layer price)) (tt, there.says) tt
      (λ e. cc) (in_prices l (permitted_trips input.instance l)) PriceRange
      (fleet_order input.instance l count layer price there.is_of) (none, refl)
  fleet_refused count _ there none = absurd there.is_of

  pub fleet_range : (count : Option ℕ) → IsWrong input row (Vehicle l) Range
      → IsRefusedAt input row (AtBlocks l count) (error.Refused (input.before + 1 + row) PriceRange)
  fleet_range count (said, there, none) = fleet_refused count said there none

  module _ (i : ℕ) (later : List ℕ) where
    -- a trip's prices, and a number that is none
    pub price_reads : (prices : ℤ × ℤ) → ReadsPrice input row l i prices
        → ReadsTo peaks input row (AtPrices l i later) (PartRow (PriceRow l i prices.0 prices.1) ∷ []) (row + 1)
        (in_prices l later)
    price_reads prices r =
        reads_one peaks input row r.here (AtPrices l i later) (PartRow (PriceRow l i prices.0 prices.1)) (tt, r.says)
        (in_prices l later)
        (record {
          suits = tt;
          order = price_order input.instance l i l i later prices.0 prices.1 refl refl;
          right = (r.into_price, r.from_price);
        })

    price_refused : (said : DocumentRow) → IsThere input row (Trip l i) said → ¬ (HasPrices said)
        → IsRefusedAt input row (AtPrices l i later) (error.Refused (input.before + 1 + row) PriceRange)
    price_refused (PriceRow layer trip into from) there none =
        wrong_row peaks input row there.here (AtPrices l i later) (PartRow (PriceRow layer trip into from))
        (tt, there.says) tt (λ e. cc) (in_prices l later) PriceRange
        (price_order input.instance l i layer trip later into from there.is_of.0 there.is_of.1) (none, refl)
    price_refused _ there none = absurd there.is_of

    pub price_range : IsWrong input row (Trip l i) Range
        → IsRefusedAt input row (AtPrices l i later) (error.Refused (input.before + 1 + row) PriceRange)
    price_range (said, there, none) = price_refused said there none

-- one price row more
pub rows_more : (l : ℕ) (trips : List ℕ) (into from : List ℤ) (i : ℕ) (x y : ℤ) → length into ≡ length trips
    → length from ≡ length trips
    → price_rows l (trips ++ i ∷ []) (into ++ x ∷ []) (from ++ y ∷ [])
    ≡ price_rows l trips into from ++ PartRow (PriceRow l i x y) ∷ []
rows_more l [] [] [] i x y a b = refl
rows_more l [] [] (z ∷ from) i x y a b = absurd (omega (arith, b))
rows_more l [] (z ∷ into) from i x y a b = absurd (omega (arith, a))
rows_more l (t ∷ trips) [] from i x y a b = absurd (omega (arith, a))
rows_more l (t ∷ trips) (z ∷ into) [] i x y a b = absurd (omega (arith, b))
rows_more l (t ∷ trips) (z ∷ into) (w ∷ from) i x y a b =
    ap (λ (rows : List PeakRow). PartRow (PriceRow l t z w) ∷ rows)
    (rows_more l trips into from i x y (omega (arith, a)) (omega (arith, b)))

-- the prices of the first k trips are read
pub record PricesSoFar (input : Input) (at l k row : ℕ) (into from : List ℤ) : Type 0 where
  pub few : k ≤ length (permitted_trips input.instance l)
  pub row_is : row ≡ at + k
  pub into_size : length into ≡ k
  pub from_size : length from ≡ k
  pub into_prices : All IsPrice into
  pub from_prices : All IsPrice from
  pub reads : ReadsTo peaks input at (in_prices l (permitted_trips input.instance l))
      (price_rows l (take k (permitted_trips input.instance l)) into from) row
      (in_prices l (drop k (permitted_trips input.instance l)))

module _ (input : Input) (at l : ℕ) where
  abbrev ts : List ℕ
  ts = permitted_trips input.instance l

  pub no_prices_yet : (row : ℕ) (into from : List ℤ) → row ≡ at → into ≡ [] → from ≡ [] → at ≤ length input.rest
      → PricesSoFar input at l 0 row into from
  no_prices_yet row into from is none nothing within =
      let P : ℕ → Type 0 = λ n. PricesSoFar input at l 0 n into from in
      let Q : List ℤ → Type 0 = λ xs. PricesSoFar input at l 0 at xs from in
      let R : List ℤ → Type 0 = λ xs. PricesSoFar input at l 0 at [] xs in
      subst P (sym is) (subst Q (sym none) (subst R (sym nothing)
      (record {
        few = omega arith;
        row_is = omega arith;
        into_size = refl;
        from_size = refl;
        into_prices = All-nil IsPrice;
        from_prices = All-nil IsPrice;
        reads = reads_none peaks input at (in_prices l ts) within;
      })))

  -- the trip at hand
  pub trip_at_hand : (of_layer : List TripNo) (k : ℕ) (i : TripNo) → of_layer ≡ map numbered ts → k < length ts
      → i ≡ get_or of_layer k i → i.0 ≡ get_or ts k 0
  trip_at_hand of_layer k i are within is =
      ap (λ (t : TripNo). t.0)
      (is ∙ ap (λ (xs : List TripNo). get_or xs k i) are ∙ get_or-map numbered ts k 0 i within)

  -- what is refused at the trip at hand
  pub refused_at_trip : (k row i : ℕ) (into from : List ℤ) (e : PeakError) → PricesSoFar input at l k row into from
      → k < length ts → i ≡ get_or ts k 0
      → ((later : List ℕ) → IsRefusedAt input row (AtPrices l i later) e) → IsRefusedAt input at (in_prices l ts) e
  refused_at_trip k row i into from e so_far within is refused =
      let P : List ℕ → Type 0 = λ later. IsRefusedAt input row (in_prices l later) e in
      let Q : ℕ → Type 0 = λ j. IsRefusedAt input row (AtPrices l j (drop (k + 1) ts)) e in
      passes input e so_far.reads.lead
      (subst P (sym (drop_more ts k 0 within)) (subst Q is (refused (drop (k + 1) ts))))

  pub one_more_price : (k row i : ℕ) (into from new_into new_from : List ℤ) (x y : ℤ)
      → PricesSoFar input at l k row into from
      → k < length ts → i ≡ get_or ts k 0 → ReadsPrice input row l i (x, y) → new_into ≡ into ++ x ∷ []
      → new_from ≡ from ++ y ∷ [] → PricesSoFar input at l (k + 1) (row + 1) new_into new_from
  one_more_price k row i into from new_into new_from x y so_far within is read into_is from_is =
      let t = get_or ts k 0 in
      let here : ReadsPrice input row l t (x, y) =
      let P : ℕ → Type 0 = λ j. ReadsPrice input row l j (x, y) in subst P is read in
      let next = price_reads input row l t (drop (k + 1) ts) (x, y) here in
      let P : List ℕ → Type 0 = λ later.
      ReadsTo peaks input row (in_prices l later) (PartRow (PriceRow l t x y) ∷ []) (row + 1)
      (in_prices l (drop (k + 1) ts)) in
      let one = subst P (sym (drop_more ts k 0 within)) next in
      let both = read_on peaks input at row (row + 1) (in_prices l ts) (in_prices l (drop k ts))
      (in_prices l (drop (k + 1) ts)) (price_rows l (take k ts) into from) (PartRow (PriceRow l t x y) ∷ [])
      so_far.reads one in
      let taken : length (take k ts) ≡ k = omega (arith, within, length-take k ts) in
      let rows : price_rows l (take (k + 1) ts) (into ++ x ∷ []) (from ++ y ∷ [])
      ≡ price_rows l (take k ts) into from ++ PartRow (PriceRow l t x y) ∷ [] =
      ap (λ (trips : List ℕ). price_rows l trips (into ++ x ∷ []) (from ++ y ∷ [])) (take_more ts k 0 within)
      ∙ rows_more l (take k ts) into from t x y (omega (arith, so_far.into_size, taken))
      (omega (arith, so_far.from_size, taken)) in
      let S : List PeakRow → Type 0 = λ said. ReadsTo peaks input at (in_prices l ts) said (row + 1)
      (in_prices l (drop (k + 1) ts)) in
      let A : List ℤ → Type 0 = λ xs. PricesSoFar input at l (k + 1) (row + 1) xs new_from in
      let B : List ℤ → Type 0 = λ ys. PricesSoFar input at l (k + 1) (row + 1) (into ++ x ∷ []) ys in
      subst A (sym into_is) (subst B (sym from_is)
      (record {
        few = omega (arith, within);
        row_is = omega (arith, so_far.row_is);
        into_size = omega (arith, so_far.into_size, length_push into x);
        from_size = omega (arith, so_far.from_size, length_push from y);
        into_prices = All-push IsPrice into x so_far.into_prices read.into_price;
        from_prices = All-push IsPrice from y so_far.from_prices read.from_price;
        reads = subst S (sym rows) both;
      }))

  -- the prices of all trips are read
  pub all_prices : (k row : ℕ) (into from : List ℤ) → PricesSoFar input at l k row into from → length ts ≤ k
      → ReadsTo peaks input at (in_prices l ts) (price_rows l ts into from) (at + length ts) (AtLayer (l + 1))
  all_prices k row into from so_far past =
      let P : List ℕ → Type 0 = λ trips. ReadsTo peaks input at (in_prices l ts) (price_rows l trips into from) row
      (in_prices l (drop k ts)) in
      let Q : List ℕ → Type 0 = λ trips. ReadsTo peaks input at (in_prices l ts) (price_rows l ts into from) row
      (in_prices l trips) in
      let R : ℕ → Type 0 = λ n. ReadsTo peaks input at (in_prices l ts) (price_rows l ts into from) n
      (AtLayer (l + 1)) in
      let end : row ≡ at + length ts = omega (arith, so_far.row_is, so_far.few, past) in
      subst R end (subst Q (drop_all k ts past) (subst P (take_all k ts past) so_far.reads))
