-- The rows of prices, each in its place, and tables that are refused.
use Rattle.std.proofs.Common.{◌≡◌, ◌≢◌, ℕ, ◌+◌, Bool, true, cond, List, ◌∷◌, refl, sym, ap, ◌∙◌, inl, inr, ◌⊎◌, ℤ, eqb, Some, None}
use Rattle.std.specs.Prelude.{◌&&◌}
use Rattle.std.proofs.lemmas.Bool.{cases_eq, eq-eqb, ne_eqb}
use Rattle.vs_instance.specs.Problem.{Problem}
use Rattle.vs_reader.specs.Names.{NameLists}
use Rattle.vs_reader.specs.Rows.{Row}
use Rattle.vs_reader.specs.declared.input.Input.{Input}
use Rattle.vs_rows.specs.DocumentRows.{DocumentRow, FleetRow, PriceRow, TableRow, Says}
use Rattle.vs_rows.specs.PriceOrder.{HasPrices, IsOf, PriceOf, Trip, Vehicle, prices_of}
use Rattle.vs_rows.specs.TableReading.{AreWrongFrom, HasAnotherNumber, IsWrong, ReadsKind}
use Rattle.vs_rows.specs.declared.wrong.PriceWhy.{PriceWhy}
use Rattle.vs_rows.specs.declared.wrong.PriceWhy.TheVariants.{Range}
use Rattle.vs_trace.specs.TraceRows.{IsPart, PartRow, SaysSo, TraceRow}
use Rattle.vs_trace.specs.Places.{AtTable, HasNumber, InTable, behind}
use Rattle.vs_trace.specs.Reading.{IsRefusedAt}
use Rattle.vs_trace.specs.declared.refused.TraceWhy.TheVariants.{PriceRange, TableNumber}
use Rattle.vs_trace.specs.declared.refused.TraceError.{TraceError}
use Rattle.vs_trace.specs.declared.refused.TraceError.TheVariants as error
use Rattle.vs_rows.specs.RowRules.{Leads}
use Rattle.vs_rows.proofs.CallerLemmas.{leads_one, wrong_prices, wrong_row}
use Rattle.vs_trace.specs.TraceRefusals.{traces}
use Rattle.vs_trace.proofs.ReadThrough.{passes}
use Rattle.vs_document.proofs.CallerLemmas.{neither}

another_trip : (p : Problem) (n l i layer trip : ℕ) (later : List PriceOf) (into from : ℤ)
    → (layer ≢ l) ⊎ (trip ≢ i)
    → behind p (InTable n (Trip l i ∷ later)) (PartRow (PriceRow layer trip into from)) ≡ None
another_trip p n l i layer trip later into from (inl other) =
    ap (λ (b : Bool). cond (b && eqb i trip) (Some (InTable n later)) None) (ne_eqb l layer (λ e. other (sym e)))
another_trip p n l i layer trip later into from (inr other) =
    ap (λ (b : Bool). cond (eqb l layer && b) (Some (InTable n later)) None) (ne_eqb i trip (λ e. other (sym e)))
    ∙ neither (eqb l layer) (Some (InTable n later))

-- a row of prices is part of a table
price_part : (price : PriceOf) (said : DocumentRow) → IsOf price said → IsPart said
price_part (Vehicle l) (FleetRow layer price) is = tt
price_part (Trip l i) (PriceRow layer trip into from) is = tt
price_part (Vehicle l) _ is = absurd is
price_part (Trip l i) _ is = absurd is

module _ (p : Problem) (n : ℕ) where
  -- the row of prices that has to come leads to the next, and no other does
  price_order : (price : PriceOf) (later : List PriceOf) (said : DocumentRow) → IsOf price said
      → behind p (InTable n (price ∷ later)) (PartRow said) ≡ Some (InTable n later)
  price_order (Vehicle l) later (FleetRow layer price) is =
      ap (λ (b : Bool). cond b (Some (InTable n later)) None) (eq-eqb l layer (sym is))
  price_order (Trip l i) later (PriceRow layer trip into from) is =
      ap (λ (b : Bool). cond (b && eqb i trip) (Some (InTable n later)) None) (eq-eqb l layer (sym is.0))
      ∙ ap (λ (b : Bool). cond (true && b) (Some (InTable n later)) None) (eq-eqb i trip (sym is.1))
  price_order (Vehicle l) later _ is = absurd is
  price_order (Trip l i) later _ is = absurd is

  price_number : (price : PriceOf) (later : List PriceOf) (said : DocumentRow) → IsOf price said
      → HasNumber (InTable n (price ∷ later)) (PartRow said)
  price_number (Vehicle l) later (FleetRow layer price) is = tt
  price_number (Trip l i) later (PriceRow layer trip into from) is = tt
  price_number (Vehicle l) later _ is = absurd is
  price_number (Trip l i) later _ is = absurd is

  pub price_leads : (price : PriceOf) (later : List PriceOf) (said : DocumentRow) → IsOf price said → HasPrices said
      → Leads traces p (InTable n (price ∷ later)) (PartRow said) (InTable n later)
  price_leads price later said is prices = record {
    suits = tt;
    order = price_order price later said is;
    right = (price_number price later said is, prices);
  }

  price_elsewhere : (price : PriceOf) (later : List PriceOf) (said : DocumentRow) → ¬ (IsOf price said)
      → behind p (InTable n (price ∷ later)) (PartRow said) ≡ None
  price_elsewhere (Vehicle l) later (FleetRow layer price) other =
      ap (λ (b : Bool). cond b (Some (InTable n later)) None) (ne_eqb l layer (λ e. other (sym e)))
  price_elsewhere (Trip l i) later (PriceRow layer trip into from) other = elim (cases_eq layer l) [
    | inl same ↦ another_trip p n l i layer trip later into from (inr (λ e. other (same, e)))
    | inr differ ↦ another_trip p n l i layer trip later into from (inl differ)
  ]
  price_elsewhere (Vehicle l) later _ other = refl
  price_elsewhere (Trip l i) later _ other = refl

  module _ (names : NameLists) (row : Row) where
    -- a row that isn't the one of prices that has to come
    pub no_price_order : (price : PriceOf) (later : List PriceOf)
        → ((said : DocumentRow) → Says names row said → ¬ (IsOf price said)) → (said : TraceRow)
        → SaysSo names row said → behind p (InTable n (price ∷ later)) said ≡ None
    no_price_order price later other (PartRow said) says = price_elsewhere price later said (other said says.1)
    no_price_order (Vehicle l) later other _ says = refl
    no_price_order (Trip l i) later other _ says = refl

    -- a row that tells no table
    pub no_table_order : ((number : ℕ) (ray : Bool) → ¬ (Says names row (TableRow number ray))) → (said : TraceRow)
        → SaysSo names row said → behind p (AtTable n) said ≡ None
    no_table_order none (PartRow (TableRow number ray)) says = absurd (none number ray says.1)
    no_table_order none _ says = refl

module _ (input : Input) (n row : ℕ) where
  -- a price that is none
  pub price_range : (price : PriceOf) (later : List PriceOf) → IsWrong input row price Range
      → IsRefusedAt input row (InTable n (price ∷ later)) (error.Refused (input.before + 1 + row) PriceRange)
  price_range price later (said, there, none) =
      wrong_row traces input row there.here (InTable n (price ∷ later)) (PartRow said)
      (price_part price said there.is_of, there.says) tt (λ e. cc) (InTable n later) PriceRange
      (price_order input.instance n price later said there.is_of)
      (inr (price_number input.instance n price later said there.is_of, none, refl))

-- a table is refused where a row of its prices is
pub table_refused : (input : Input) (at n row : ℕ) (why : PriceWhy) (ray : Bool) (e : TraceError)
    → ReadsKind input at n ray → AreWrongFrom input (at + 1) (prices_of input.instance) row why
    → ((price : PriceOf) (later : List PriceOf) → IsWrong input row price why
    → IsRefusedAt input row (InTable (n + 1) (price ∷ later)) e) → IsRefusedAt input at (AtTable n) e
table_refused input at n row why ray e kind wrong refused =
    let p = input.instance in
    let kind_leads = leads_one traces input at kind.here (AtTable n) (PartRow (TableRow (n + 1) ray)) (tt, kind.says)
    (InTable (n + 1) (prices_of p)) (record { suits = tt; order = refl; right = (refl, tt) }) in
    let found = wrong_prices traces input (InTable (n + 1)) PartRow
    (λ r price said is says. (price_part price said is, says)) (price_leads p (n + 1)) (prices_of p) (at + 1) row why
    wrong in
    passes input e kind_leads (passes input e found.3 (refused found.0 found.1 found.2))

-- and where it hasn't the next number
pub number_refused : (input : Input) (at n : ℕ) → HasAnotherNumber input at n
    → IsRefusedAt input at (AtTable n) (error.Refused (input.before + 1 + at) TableNumber)
number_refused input at n other =
    wrong_row traces input at other.here (AtTable n) (PartRow (TableRow other.number other.ray)) (tt, other.says) tt
    (λ e. cc) (InTable (n + 1) (prices_of input.instance)) TableNumber refl (inl (other.another, refl))
