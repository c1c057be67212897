-- Rows of prices of which one is wrong.
use Rattle.std.proofs.Common.{ℕ, ◌+◌, List, [], ◌∷◌, sym, subst, inl, inr}
use Rattle.vs_reader.specs.Rows.{Row}
use Rattle.vs_reader.specs.declared.input.Input.{Input}
use Rattle.vs_rows.specs.DocumentRows.{DocumentRow, Says}
use Rattle.vs_rows.specs.PriceOrder.{HasPrices, IsOf, PriceOf}
use Rattle.vs_rows.specs.RowReading.{LeadTo}
use Rattle.vs_rows.specs.RowRules.{Leads, RowRules}
use Rattle.vs_rows.specs.TableReading.{AreWrongFrom, IsWrong}
use Rattle.vs_rows.specs.declared.wrong.PriceWhy.{PriceWhy}
use Rattle.vs_rows.proofs.refused.RefusedRows.{lead_on, leads_one}

-- where these rows of prices come, the right one leads to those behind it
module _ {Place Said Why : Type 0} (rules : RowRules Place Said Why) (input : Input) (before : List PriceOf → Place)
    (part : DocumentRow → Said)
    (says : (row : Row) (price : PriceOf) (said : DocumentRow) → IsOf price said → Says input.names row said
    → rules.Says input.names row (part said))
    (leads : (price : PriceOf) (later : List PriceOf) (said : DocumentRow) → IsOf price said → HasPrices said
    → Leads rules input.instance (before (price ∷ later)) (part said) (before later)) where
  -- so the rows before the wrong one lead to it
  pub wrong_prices : (prices : List PriceOf) (at row : ℕ) (why : PriceWhy) → AreWrongFrom input at prices row why
      → (price : PriceOf) × (later : List PriceOf) × IsWrong input row price why
      × LeadTo rules input at (before prices) row (before (price ∷ later))
  wrong_prices [] at row why wrong = absurd wrong
  wrong_prices (price ∷ prices) at row why (inl (same, wrong)) =
      let P : ℕ → Type 0 = λ k. IsWrong input k price why in
      let Q : ℕ → Type 0 = λ k. LeadTo rules input at (before (price ∷ prices)) k (before (price ∷ prices)) in
      (price, prices, subst P (sym same) wrong, subst Q (sym same) (record { refused = λ k reason is. is }))
  wrong_prices (price ∷ prices) at row why (inr (said, right, wrong)) =
      let is = right.there.is_of in
      let found = wrong_prices prices (at + 1) row why wrong in
      let one = leads_one rules input at right.there.here (before (price ∷ prices)) (part said)
      (says _ price said is right.there.says) (before prices) (leads price prices said is right.prices) in (
        found.0,
        found.1,
        found.2,
        lead_on rules input at (at + 1) row (before (price ∷ prices)) (before prices) (before (found.0 ∷ found.1)) one
            found.3,
      )
