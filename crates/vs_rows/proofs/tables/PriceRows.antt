-- The rows of prices, each in its place.
use Rattle.std.proofs.Common.{◌≡◌, ◌≢◌, ℕ, ◌<◌, ◌≤◌, [], length, sym, ap, ◌∙◌, subst, inl, inr, ◌⊎◌, ℤ, to_z, of_z, w64, FitsSigned, rules, arith}
use Rattle.std.specs.Int.{w128}
use Rattle.std.proofs.lemmas.Int.{to_z-of_z}
use Rattle.std.proofs.lemmas.List.{get_or_past}
use Rattle.vs_prices.specs.Table.{IsPrice}
use Rattle.vs_reader.specs.Rows.{row_of}
use Rattle.vs_reader.specs.NameRules.{AreNames}
use Rattle.vs_reader.specs.declared.input.Input.{Input}
use Rattle.vs_rows.specs.declared.limits.TheConstants.{MAX_PRINTED_PRICE}
use Rattle.vs_rows.specs.declared.wrong.PriceWhy.TheVariants.{Another, Range}
use Rattle.vs_rows.specs.DocumentRows.{DocumentRow, FleetRow, IsWithin, PriceRow}
use Rattle.vs_rows.specs.PriceOrder.{IsOf, IsPriceRow, Trip, Vehicle}
use Rattle.vs_rows.specs.RowForms.{SaysThere}
use Rattle.vs_rows.specs.TableReading.{IsWrong, ReadsFleet, ReadsPrice}
use Rattle.vs_rows.proofs.rows.SaysOnce.{says_once}

-- a price as a number of 64 bits
pub as_word : (a : ℤ) → IsPrice a → to_z w64 (of_z w64 a) ≡ a
as_word a price = let fits : FitsSigned w64 a = search (rules, price) in to_z-of_z w64 a fits

-- a number of at most 19 digits as one of 128 bits
abbrev pub wide : ℤ → ℤ
wide a = to_z w128 (of_z w128 a)

as_wide : (a : ℤ) → IsWithin MAX_PRINTED_PRICE a → wide a ≡ a
as_wide a range = let fits : FitsSigned w128 a = search (rules, range) in to_z-of_z w128 a fits

narrow : (a : ℤ) → IsWithin MAX_PRINTED_PRICE a → IsPrice (wide a) → IsPrice a
narrow a range price = let P : ℤ → Type 0 = λ x. IsPrice x in subst P (as_wide a range) price

widen : (a : ℤ) → IsWithin MAX_PRINTED_PRICE a → IsPrice a → IsPrice (wide a)
widen a range price = let P : ℤ → Type 0 = λ x. IsPrice x in subst P (sym (as_wide a range)) price

module _ (input : Input) (row : ℕ) where
  -- a row that has the form of no vehicle's price, or of no trip's prices, is another
  not_a_fleet : (l : ℕ) → ((m : ℕ) (x : ℤ) → ¬ (SaysThere input row (FleetRow m x))) → (said : DocumentRow)
      → SaysThere input row said → ¬ (IsOf (Vehicle l) said)
  not_a_fleet l none (FleetRow m x) says is = none m x says
  not_a_fleet l none _ says is = absurd is

  not_a_price : (l i : ℕ) → ((m j : ℕ) (x y : ℤ) → ¬ (SaysThere input row (PriceRow m j x y))) → (said : DocumentRow)
      → SaysThere input row said → ¬ (IsOf (Trip l i) said)
  not_a_price l i none (PriceRow m j x y) says is = none m j x y says
  not_a_price l i none _ says is = absurd is

  -- and one that has neither says no prices
  pub no_price_row : ((m j : ℕ) (x y : ℤ) → ¬ (SaysThere input row (PriceRow m j x y)))
      → ((m : ℕ) (x : ℤ) → ¬ (SaysThere input row (FleetRow m x))) → (said : DocumentRow) → IsPriceRow said
      → ¬ (SaysThere input row said)
  no_price_row price fleet (PriceRow m j x y) is = price m j x y
  no_price_row price fleet (FleetRow m x) is = fleet m x
  no_price_row price fleet _ is = absurd is

  pub no_fleet : (l : ℕ) → row ≤ length input.rest → ((m : ℕ) (x : ℤ) → ¬ (SaysThere input row (FleetRow m x)))
      → IsWrong input row (Vehicle l) Another
  no_fleet l le none = (le, not_a_fleet l none)

  pub no_price : (l i : ℕ) → row ≤ length input.rest
      → ((m j : ℕ) (x y : ℤ) → ¬ (SaysThere input row (PriceRow m j x y))) → IsWrong input row (Trip l i) Another
  no_price l i le none = (le, not_a_price l i none)

  -- and so is none
  pub no_fleet_behind : (l : ℕ) → row ≤ length input.rest → length input.rest ≤ row
      → IsWrong input row (Vehicle l) Another
  no_fleet_behind l high low =
      let past : row_of input.rest row ≡ [] = get_or_past input.rest row [] low in
      no_fleet l high (λ m x says. omega (arith, ap length says.written, ap length past))

  pub no_price_behind : (l i : ℕ) → row ≤ length input.rest → length input.rest ≤ row
      → IsWrong input row (Trip l i) Another
  no_price_behind l i high low =
      let past : row_of input.rest row ≡ [] = get_or_past input.rest row [] low in
      no_price l i high (λ m j x y says. omega (arith, ap length says.written, ap length past))

module _ (input : Input) (row l : ℕ) (lt : row < length input.rest) where
  module _ (layer : ℕ) (price : ℤ) (says : SaysThere input row (FleetRow layer price)) where
    -- the row of another layer's vehicle
    pub fleet_of_another : AreNames input.names.layers → AreNames input.names.trips → layer ≢ l
        → IsWrong input row (Vehicle l) Another
    fleet_of_another layers trips other = (
      omega (arith, lt),
      λ said told is.
          let P : DocumentRow → Type 0 = λ s. IsOf (Vehicle l) s in
          let once = says_once input.names (row_of input.rest row) layers trips (FleetRow layer price) said says told in
          let same : layer ≡ l = subst P (sym once) is in
          other same,
    )

    module _ (same : layer ≡ l) where
      here : SaysThere input row (FleetRow l price)
      here = let P : ℕ → Type 0 = λ k. SaysThere input row (FleetRow k price) in subst P same says

      pub fleet_read : (word : ℤ) → word ≡ wide price → IsPrice (wide price)
          → ReadsFleet input row l (to_z w64 (of_z w64 word))
      fleet_read word equal is_wide =
          let range = says.form.1 in
          let is_price = narrow price range is_wide in
          let is : word ≡ price = equal ∙ as_wide price range in
          let P : ℤ → Type 0 = λ x. ReadsFleet input row l x in
          subst P (sym (ap (λ (x : ℤ). to_z w64 (of_z w64 x)) is ∙ as_word price is_price))
          (record { is_price = is_price; here = lt; says = here })

      pub fleet_range : ¬ (IsPrice (wide price)) → IsWrong input row (Vehicle l) Range
      fleet_range wrong = (
        FleetRow layer price,
        record { here = lt; says = says; is_of = same },
        λ is. wrong (widen price says.form.1 is),
      )

  module _ (i layer trip : ℕ) (into from : ℤ) (says : SaysThere input row (PriceRow layer trip into from)) where
    -- the row of another trip or layer
    pub price_of_another : AreNames input.names.layers → AreNames input.names.trips → (layer ≢ l) ⊎ (trip ≢ i)
        → IsWrong input row (Trip l i) Another
    price_of_another layers trips other = (
      omega (arith, lt),
      λ said told is.
          let P : DocumentRow → Type 0 = λ s. IsOf (Trip l i) s in
          let once =
          says_once input.names (row_of input.rest row) layers trips (PriceRow layer trip into from) said says told in
          let same : (layer ≡ l) × (trip ≡ i) = subst P (sym once) is in
          elim other [
            | inl layers_differ ↦ layers_differ same.0
            | inr trips_differ ↦ trips_differ same.1
          ],
    )

    module _ (same_layer : layer ≡ l) (same_trip : trip ≡ i) where
      says_here : SaysThere input row (PriceRow l i into from)
      says_here =
          let P : ℕ → Type 0 = λ k. SaysThere input row (PriceRow k trip into from) in
          let Q : ℕ → Type 0 = λ k. SaysThere input row (PriceRow l k into from) in
          subst Q same_trip (subst P same_layer says)

      pub price_read : (a b : ℤ) → a ≡ wide into → b ≡ wide from → IsPrice (wide into) → IsPrice (wide from)
          → ReadsPrice input row l i (to_z w64 (of_z w64 a), to_z w64 (of_z w64 b))
      price_read a b a_equal b_equal into_wide from_wide =
          let into_price = narrow into says.form.2 into_wide in
          let from_price = narrow from says.form.3 from_wide in
          let a_is : a ≡ into = a_equal ∙ as_wide into says.form.2 in
          let b_is : b ≡ from = b_equal ∙ as_wide from says.form.3 in
          let P : ℤ → Type 0 = λ x. ReadsPrice input row l i (x, to_z w64 (of_z w64 b)) in
          let Q : ℤ → Type 0 = λ x. ReadsPrice input row l i (into, x) in
          subst P (sym (ap (λ (x : ℤ). to_z w64 (of_z w64 x)) a_is ∙ as_word into into_price))
          (subst Q (sym (ap (λ (x : ℤ). to_z w64 (of_z w64 x)) b_is ∙ as_word from from_price))
          (record { into_price = into_price; from_price = from_price; here = lt; says = says_here }))

      pub price_range : ¬ (IsPrice (wide into) × IsPrice (wide from)) → IsWrong input row (Trip l i) Range
      price_range wrong = (
        PriceRow layer trip into from,
        record { here = lt; says = says; is_of = (same_layer, same_trip) },
        λ is. wrong (widen into says.form.2 is.0, widen from says.form.3 is.1),
      )
