-- Beside a cost there has to be a bound.
use Rattle.std.proofs.Common.{◌≡◌, ◌<◌, List, [], ℕ, ◌+◌, ℤ, Option, Some, None, get_or, sym, ap, ◌∙◌, arith, length, inl, refl, true, false}
use Rattle.std.specs.Option.{is_some}
use Rattle.std.proofs.lemmas.Bool.{false≢true}
use Rattle.vs_reader.specs.Rows.{Row, row_of}
use Rattle.vs_reader.specs.Names.{NameLists}
use Rattle.vs_reader.specs.declared.input.Input.{Input}
use Rattle.vs_document.specs.declared.refused.DocWhy.TheVariants.{BadRow}
use Rattle.vs_document.specs.declared.refused.DocError.TheVariants as error
use Rattle.vs_rows.specs.DocumentRows.{DocumentRow, BoundRow, Says}
use Rattle.vs_rows.specs.RowRules.{SaysAt}
use Rattle.vs_document.specs.DocumentRefusals.{documents}
use Rattle.vs_document.specs.Places.{AtBound, SuitsCost}
use Rattle.vs_document.specs.Reading.{IsRefusedAt}
use Rattle.vs_rows.proofs.CallerLemmas.{first_word, none_is_no_number, refused_at, word_of}

-- a row that says that there is no bound says nothing else
only_none : (names : NameLists) (row : Row) (cost : ℤ) → Says names row (BoundRow None) → (said : DocumentRow)
    → ¬ (SaysAt documents names (AtBound (Some cost)) row said)
only_none names row cost says (BoundRow None) is = is.1
only_none names row cost says (BoundRow (Some n)) is =
    none_is_no_number n is.0.form (ap (λ (r : Row). get_or r 1 []) (sym says.written ∙ is.0.written))
only_none names row cost says said is =
    let e : word_of (BoundRow None) ≡ word_of said =
    sym (first_word names row (BoundRow None) says) ∙ first_word names row said is.0 in
    omega (arith, ap (λ (bs : List ℕ). get_or bs 0 0) e, ap (λ (bs : List ℕ). get_or bs 1 0) e)

pub no_bound : (input : Input) (cost bound : Option ℤ) → 2 < length input.rest → true ≡ is_some cost
    → is_some bound ≡ false
    → Says input.names (row_of input.rest 2) (BoundRow bound)
    → IsRefusedAt input 2 (AtBound cost) (error.Refused (input.before + 1 + 2) BadRow)
no_bound input (Some cost) None lt some none says =
    refused_at documents input 2 lt (AtBound (Some cost)) BadRow (λ e. cc)
    (inl (only_none input.names (row_of input.rest 2) cost says, refl))
no_bound input (Some cost) (Some n) lt some none says = absurd (false≢true (sym none))
no_bound input None bound lt some none says = absurd (false≢true (sym some))

-- a bound beside a cost, or any beside none
pub suits : (cost bound : Option ℤ) → (bound ≡ None → cost ≡ None) → SuitsCost (AtBound cost) (BoundRow bound)
suits (Some cost) None fits = let none = fits refl in absurd (cc)
suits (Some cost) (Some n) fits = tt
suits None bound fits = tt

pub no_cost : (cost : Option ℤ) → false ≡ is_some cost → cost ≡ None
no_cost None e = refl
no_cost (Some n) e = absurd (false≢true e)

pub some_bound : (cost bound : Option ℤ) → is_some bound ≡ true → bound ≡ None → cost ≡ None
some_bound cost bound e none = absurd (false≢true (sym (ap is_some none) ∙ e))
