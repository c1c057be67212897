-- Behind a row of prices that is there the others come.
use Rattle.std.proofs.Common.{ℕ, ◌+◌, List, ◌∷◌, refl, inr, ℤ}
use Rattle.vs_reader.specs.declared.input.Input.{Input}
use Rattle.vs_rows.specs.declared.wrong.TableError.{TableError}
use Rattle.vs_rows.specs.declared.wrong.TableError.TheVariants as error
use Rattle.vs_rows.specs.DocumentRows.{DocumentRow, FleetRow, PriceRow}
use Rattle.vs_rows.specs.PriceOrder.{PriceOf, Trip, Vehicle}
use Rattle.vs_rows.specs.TableReading.{IsRight, IsWrongAt, PassTo, ReadsFleet, ReadsPrice}

wrong_behind : (input : Input) (row : ℕ) (price : PriceOf) (said : DocumentRow) (later : List PriceOf) (e : TableError)
    → IsRight input row price said → IsWrongAt input (row + 1) later e → IsWrongAt input row (price ∷ later) e
wrong_behind input row price said later (error.Prices at why) right wrong = inr (said, right, wrong)
wrong_behind input row price said later error.NoTable right wrong = wrong
wrong_behind input row price said later error.Number right wrong = wrong
wrong_behind input row price said later error.Memory right wrong = wrong

pub passes_fleet : (input : Input) (row l : ℕ) (price : ℤ) → ReadsFleet input row l price → (later : List PriceOf)
    → PassTo input row (Vehicle l ∷ later) (row + 1) later
passes_fleet input row l price r later = record {
  wrong = λ e is.
      wrong_behind input row (Vehicle l) (FleetRow l price) later e
      (record { there = record { here = r.here; says = r.says; is_of = refl }; prices = r.is_price }) is;
}

pub passes_price : (input : Input) (row l i : ℕ) (prices : ℤ × ℤ) → ReadsPrice input row l i prices
    → (later : List PriceOf) → PassTo input row (Trip l i ∷ later) (row + 1) later
passes_price input row l i prices r later = record {
  wrong = λ e is.
      wrong_behind input row (Trip l i) (PriceRow l i prices.0 prices.1) later e
      (record {
        there = record { here = r.here; says = r.says; is_of = (refl, refl) };
        prices = (r.into_price, r.from_price);
      }) is;
}
