-- Rows that stand there and are accepted one by one are read.
use Rattle.std.proofs.Common.{ℕ, ◌+◌, List, [], ◌∷◌, subst, arith}
use Rattle.vs_reader.specs.declared.input.Input.{Input}
use Rattle.vs_rows.specs.DocumentRows.{DocumentRow}
use Rattle.vs_rows.specs.RowReading.{LeadTo, ReadsTo}
use Rattle.vs_rows.specs.Standing.{StandFrom}
use Rattle.vs_document.specs.DocumentRefusals.{documents}
use Rattle.vs_document.specs.Places.{Place}
use Rattle.vs_document.specs.Reading.{IsRefusedAt}
use Rattle.vs_document.specs.declared.refused.DocError.{DocError}
use Rattle.vs_document.specs.declared.refused.DocError.TheVariants as error
use Rattle.vs_rows.proofs.CallerLemmas.{LeadsTo, read_on, reads_none, reads_one}

module _ (input : Input) where
  -- what an error tells of the rows behind others, it tells of those
  pub passes : {at to : ℕ} {place next : Place} (e : DocError) → LeadTo documents input at place to next
      → IsRefusedAt input to next e → IsRefusedAt input at place e
  passes (error.Refused row why) lead refused = lead.refused row why refused
  passes error.Memory lead refused = tt

  pub reads_through : (said : List DocumentRow) (place last : Place) (at to : ℕ)
      → LeadsTo documents input.instance place said last → StandFrom input at said to
      → ReadsTo documents input at place said to last
  reads_through [] place last at to leads stand =
      let P : Place → Type 0 = λ x. ReadsTo documents input at place [] to x in
      let Q : ℕ → Type 0 = λ n. ReadsTo documents input at place [] n place in
      subst P leads (subst Q stand.0 (reads_none documents input at place (omega (arith, stand.0, stand.1))))
  reads_through (s ∷ said) place last at to leads stand =
      read_on documents input at (at + 1) to place leads.0 last (s ∷ []) said
      (reads_one documents input at stand.0 place s stand.1 leads.0 leads.1)
      (reads_through said leads.0 last (at + 1) to leads.2 stand.2)
