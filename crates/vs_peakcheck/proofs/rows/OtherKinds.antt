-- Rows of another kind than the one that has to come.
use Rattle.std.proofs.Common.{◌≡◌, ◌≢◌, ℕ, ◌<◌, Bool, List, length, cond, eqb, ap, refl, inl, inr, arith, Some, None, Option, ℤ}
use Rattle.std.specs.Prelude.{IsSome}
use Rattle.std.proofs.lemmas.Bool.{and_left, and_right, cases_eq, ne_eqb}
use Rattle.vs_types.specs.declared.numbers.LayerNo.{LayerNo}
use Rattle.vs_instance.specs.Problem.{Problem}
use Rattle.vs_reader.specs.declared.input.Input.{Input}
use Rattle.vs_rows.specs.declared.priced.Priced.TheVariants as priced
use Rattle.vs_rows.specs.declared.wrong.PriceWhy.TheVariants.{Another}
use Rattle.vs_rows.specs.DocumentRows.{BlockRow, FleetRow, PriceRow}
use Rattle.vs_rows.specs.PriceOrder.{Trip, Vehicle}
use Rattle.vs_rows.specs.RowForms.{IsInput}
use Rattle.vs_rows.specs.Standing.{IsNoBlock}
use Rattle.vs_rows.specs.TableReading.{IsWrong}
use Rattle.vs_peakcheck.specs.Counting.{permitted_trips}
use Rattle.vs_peakcheck.specs.declared.reading.said.Said.{Said}
use Rattle.vs_peakcheck.specs.declared.reading.said.Said.TheVariants as said
use Rattle.vs_peakcheck.specs.PeakRows.{CountRow, PartRow, PeakRow, SaysPeak}
use Rattle.vs_peakcheck.specs.Places.{AtBlocks, AtEnd, AtLayer, AtPrices, behind, in_prices}
use Rattle.vs_peakcheck.specs.Reading.{peak_said}

some_is : (n : ℕ) → IsSome (Some n)
some_is n = search

fleet_elsewhere : (p : Problem) (l : ℕ) (count : Option ℕ) (layer : ℕ) (price : ℤ) → layer ≢ l
    → behind p (AtBlocks l count) (PartRow (FleetRow layer price)) ≡ None
fleet_elsewhere p l count layer price other =
    ap (λ (b : Bool). cond b (Some (in_prices l (permitted_trips p l))) None) (ne_eqb layer l other)

price_elsewhere : (p : Problem) (l i layer trip : ℕ) (later : List ℕ) (into from : ℤ)
    → ((layer ≡ l) × (trip ≡ i) → ⊥)
    → behind p (AtPrices l i later) (PartRow (PriceRow layer trip into from)) ≡ None
price_elsewhere p l i layer trip later into from other = elim (cases_eq layer l) [
  | inl same ↦
      ap (λ (b : Bool). cond b (Some (in_prices l later)) None)
      (and_right (eqb layer l) (eqb trip i) (ne_eqb trip i (λ e. other (same, e))))
  | inr differ ↦
      ap (λ (b : Bool). cond b (Some (in_prices l later)) None)
      (and_left (eqb layer l) (eqb trip i) (ne_eqb layer l differ))
]

-- behind a count that has no block more, and behind none, only a vehicle's price comes
pub no_fleet : (input : Input) (row l : ℕ) (count : Option ℕ) → (IsSome count → IsNoBlock input row)
    → IsWrong input row (Vehicle l) Another → (said : PeakRow) → SaysPeak input row said
    → behind input.instance (AtBlocks l count) said ≡ None
no_fleet input row l count ended other (PartRow (FleetRow layer price)) says =
    fleet_elsewhere input.instance l count layer price (other.1 (FleetRow layer price) says.1)
no_fleet input row l None ended other (PartRow (BlockRow b)) says = refl
no_fleet input row l (Some n) ended other (PartRow (BlockRow b)) says = absurd (ended (some_is n) b says.1)
no_fleet input row l count ended other (PartRow _) says = refl
no_fleet input row l count ended other (CountRow layer n) says = refl

-- among prices only a trip's come
pub no_price : (input : Input) (row l i : ℕ) (later : List ℕ) → IsWrong input row (Trip l i) Another
    → (said : PeakRow) → SaysPeak input row said → behind input.instance (AtPrices l i later) said ≡ None
no_price input row l i later other (PartRow (PriceRow layer trip into from)) says =
    price_elsewhere input.instance l i layer trip later into from (other.1 (PriceRow layer trip into from) says.1)
no_price input row l i later other (PartRow _) says = refl
no_price input row l i later other (CountRow layer n) says = refl

-- before a layer only its count comes
pub no_count_row : (p : Problem) (l : ℕ) (s : Said) → l < length p.layers
    → ((layer : LayerNo) (count : Option ℕ) → ¬ (s ≡ said.Count layer count))
    → behind p (AtLayer l) (peak_said s) ≡ None
no_count_row p l (said.Count layer count) within other = absurd (other layer count refl)
no_count_row p l said.End within other =
    ap (λ (b : Bool). cond b (Some AtEnd) None) (ne_eqb l (length p.layers) (λ e. omega (arith, e, within)))
no_count_row p l (said.Prices (priced.Vehicle layer price)) within other = refl
no_count_row p l (said.Prices (priced.Trip layer trip into from)) within other = refl
no_count_row p l _ within other = refl

-- behind the last layer only the end comes
pub no_end : (input : Input) (row : ℕ) (s : Said) → IsInput input → SaysPeak input row (peak_said s)
    → ¬ (s ≡ said.End) → behind input.instance (AtLayer (length input.instance.layers)) (peak_said s) ≡ None
no_end input row (said.Count layer count) is_input says other =
    ap (λ (b : Bool). cond b (Some (AtBlocks (length input.instance.layers) count)) None)
    (ne_eqb layer.0 (length input.instance.layers)
    (λ e. omega (arith, e, says.layer, is_input.counts.layers)))
no_end input row said.End is_input says other = absurd (other refl)
no_end input row (said.Prices (priced.Vehicle layer price)) is_input says other = refl
no_end input row (said.Prices (priced.Trip layer trip into from)) is_input says other = refl
no_end input row _ is_input says other = refl
