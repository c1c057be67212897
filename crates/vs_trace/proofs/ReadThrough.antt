-- Rows that stand there and are accepted one by one are read.
use Rattle.std.proofs.Common.{◌≡◌, ℕ, ◌+◌, ◌≤◌, List, [], ◌∷◌, Some, subst, arith}
use Rattle.vs_instance.specs.Problem.{Problem}
use Rattle.vs_reader.specs.declared.input.Input.{Input}
use Rattle.vs_rows.specs.DocumentRows.{BlockRow, DocumentRow, EndRow, FleetRow, PriceRow, TableRow}
use Rattle.vs_rows.specs.PriceOrder.{Trip, Vehicle}
use Rattle.vs_rows.specs.RowReading.{LeadTo, ReadsTo}
use Rattle.vs_rows.specs.Standing.{StandFrom}
use Rattle.vs_rows.proofs.CallerLemmas.{LeadsTo, read_on, reads_none, reads_one}
use Rattle.vs_trace.specs.TraceRows.{IsPart, PartRow, parts}
use Rattle.vs_trace.specs.Places.{AtBlocks, AtEnd, AtFirst, AtOpening, AtTable, InTable, Place, behind}
use Rattle.vs_trace.specs.Reading.{IsRefusedAt}
use Rattle.vs_trace.specs.TraceRefusals.{traces}
use Rattle.vs_trace.specs.declared.refused.TraceError.{TraceError}
use Rattle.vs_trace.specs.declared.refused.TraceError.TheVariants as error

-- a row of a document that may come in a trace is one that traces have
comes : (p : Problem) (place next : Place) (said : DocumentRow) → behind p place (PartRow said) ≡ Some next
    → IsPart said
comes p place next (BlockRow b) order = tt
comes p place next (TableRow number ray) order = tt
comes p place next (FleetRow l price) order = tt
comes p place next (PriceRow l i into from) order = tt
comes p place next EndRow order = tt
comes p AtOpening next _ order = absurd (cc)
comes p AtFirst next _ order = absurd (cc)
comes p (AtBlocks n) next _ order = absurd (cc)
comes p (AtTable n) next _ order = absurd (cc)
comes p (InTable n []) next _ order = absurd (cc)
comes p (InTable n (Vehicle l ∷ prices)) next _ order = absurd (cc)
comes p (InTable n (Trip l i ∷ prices)) next _ order = absurd (cc)
comes p AtEnd next _ order = absurd (cc)

module _ (input : Input) where
  -- what an error tells of the rows behind others, it tells of those
  pub passes : {at to : ℕ} {place next : Place} (e : TraceError) → LeadTo traces input at place to next
      → IsRefusedAt input to next e → IsRefusedAt input at place e
  passes (error.Refused row why) lead refused = lead.refused row why refused
  passes error.Memory lead refused = tt

  pub reads_through : (said : List DocumentRow) (place last : Place) (at to : ℕ)
      → LeadsTo traces input.instance place (parts said) last → StandFrom input at said to
      → ReadsTo traces input at place (parts said) to last
  reads_through [] place last at to leads stand =
      let P : Place → Type 0 = λ x. ReadsTo traces input at place [] to x in
      let Q : ℕ → Type 0 = λ n. ReadsTo traces input at place [] n place in
      subst P leads (subst Q stand.0 (reads_none traces input at place (omega (arith, stand.0, stand.1))))
  reads_through (s ∷ said) place last at to leads stand =
      read_on traces input at (at + 1) to place leads.0 last (PartRow s ∷ []) (parts said)
      (reads_one traces input at stand.0 place (PartRow s)
      (comes input.instance place leads.0 s leads.1.order, stand.1) leads.0 leads.1)
      (reads_through said leads.0 last (at + 1) to leads.2 stand.2)

  -- rows don't stand before their first
  pub stand_further : (said : List DocumentRow) (at to : ℕ) → StandFrom input at said to → at ≤ to
  stand_further [] at to stand = omega (arith, stand.0)
  stand_further (s ∷ said) at to stand = omega (arith, stand_further said (at + 1) to stand.2)
