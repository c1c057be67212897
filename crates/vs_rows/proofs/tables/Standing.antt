-- Rows that stand one behind another.
use Rattle.std.proofs.Common.{ℕ, ◌+◌, ◌≤◌, List, [], ◌∷◌, ◌++◌, length, sym, subst, arith, inl, inr}
use Rattle.vs_reader.specs.declared.input.Input.{Input}
use Rattle.vs_rows.specs.declared.wrong.PriceWhy.{PriceWhy}
use Rattle.vs_rows.specs.declared.wrong.PriceWhy.TheVariants.{Another, Range}
use Rattle.vs_rows.specs.DocumentRows.{DocumentRow}
use Rattle.vs_rows.specs.PriceOrder.{PriceOf}
use Rattle.vs_rows.specs.TableReading.{AreWrongFrom, IsWrong}
use Rattle.vs_rows.specs.Standing.{StandFrom}

module _ (input : Input) where
  pub stand_within : (said : List DocumentRow) (at to : ℕ) → StandFrom input at said to → to ≤ length input.rest
  stand_within [] at to stand = stand.1
  stand_within (s ∷ said) at to stand = stand_within said (at + 1) to stand.2

  pub stand_on : (said more : List DocumentRow) (at middle to : ℕ) → StandFrom input at said middle
      → StandFrom input middle more to → StandFrom input at (said ++ more) to
  stand_on [] more at middle to one two =
      let P : ℕ → Type 0 = λ n. StandFrom input n more to in subst P (sym one.0) two
  stand_on (s ∷ said) more at middle to one two =
      (one.0, one.1, stand_on said more (at + 1) middle to one.2 two)

  wrong_row_within : (price : PriceOf) (row : ℕ) (why : PriceWhy) → IsWrong input row price why
      → row ≤ length input.rest
  wrong_row_within price row Another wrong = wrong.0
  wrong_row_within price row Range wrong = omega (arith, wrong.1.here)

  -- a row that is wrong is one, or the first behind them all
  pub wrong_within : (prices : List PriceOf) (at row : ℕ) (why : PriceWhy) → AreWrongFrom input at prices row why
      → row ≤ length input.rest
  wrong_within [] at row why wrong = absurd wrong
  wrong_within (price ∷ prices) at row why (inl (same, wrong)) =
      let P : ℕ → Type 0 = λ n. n ≤ length input.rest in
      subst P (sym same) (wrong_row_within price at why wrong)
  wrong_within (price ∷ prices) at row why (inr (said, right, wrong)) = wrong_within prices (at + 1) row why wrong
