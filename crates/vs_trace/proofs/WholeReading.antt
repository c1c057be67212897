-- A trace whose rows have all been read.
use Rattle.std.proofs.Common.{◌≡◌, ℕ, ◌+◌, ◌<◌, ◌≤◌, List, [], ◌∷◌, ◌++◌, length, drop, refl, sym, subst, inl, inr, arith, Option, ℤ}
use Rattle.std.specs.Prelude.{flat_map}
use Rattle.std.proofs.lemmas.List.{append_assoc, drop_all, drop_more}
use Rattle.std.proofs.lemmas.List.Elements.{All-weaker}
use Rattle.vs_instance.specs.Problem.{Problem}
use Rattle.vs_plan.specs.declared.block.Plan.{Plan}
use Rattle.vs_reader.specs.Rows.{Row, row_of}
use Rattle.vs_reader.specs.declared.input.Input.{Input}
use Rattle.vs_rows.specs.DocumentRows.{EndRow}
use Rattle.vs_rows.specs.RowForms.{IsInput}
use Rattle.vs_trace.specs.TraceRows.{HeadRow, OpeningRow, PartRow, SayAllSo, TraceRow, first_rows, head_row, step_rows}
use Rattle.vs_trace.specs.Traces.{HasFitting, IsReadFor, IsReadStep, first_plans, told_first, told_steps}
use Rattle.vs_trace.specs.declared.trace.Full.{Full}
use Rattle.vs_trace.specs.declared.trace.Full.TheVariants.{Took, Split, Closed, Offered, GaveBack}
use Rattle.vs_trace.specs.declared.trace.Trace.{Trace}
use Rattle.vs_trace.specs.declared.refused.TraceWhy.TheVariants.{NoTrace, RowsAfterEnd}
use Rattle.vs_trace.specs.declared.refused.TraceError.{TraceError}
use Rattle.vs_trace.specs.declared.refused.TraceError.TheVariants as error
use Rattle.vs_trace.specs.Places.{AtEnd, AtOpening, InTable}
use Rattle.vs_trace.specs.TraceRefusals.{AreRefused, traces}
use Rattle.vs_trace.specs.Reading.{IsEnd, IsRefusalOf, IsRefusedAt, IsTraceOf, ReadsFirst, ReadsOpening, ReadsSteps}
use Rattle.vs_rows.specs.RowRules.{AreRefusedFrom}
use Rattle.vs_rows.proofs.CallerLemmas.{leads_one, refused_after_end}
use Rattle.vs_trace.proofs.ReadThrough.{passes}

-- the first row is another one, or there is none
pub no_trace : (input : Input) → ¬ ((0 < length input.rest) × (row_of input.rest 0 ≡ head_row))
    → IsRefusalOf input (error.Refused (input.before + 1 + 0) NoTrace)
no_trace input other = by_rows input.rest other
  where
    by_rows : (rows : List Row) → ¬ ((0 < length rows) × (row_of rows 0 ≡ head_row))
        → AreRefused input.instance input.names input.before rows (input.before + 1 + 0) NoTrace
    by_rows [] other = (omega arith, refl)
    by_rows (row ∷ rows) other = inl ((λ is. other (omega arith, is)), omega arith, refl)

-- what is refused behind the first row
pub behind_the_head : (input : Input) (e : TraceError) → 0 < length input.rest → row_of input.rest 0 ≡ head_row
    → IsRefusedAt input 1 AtOpening e → IsRefusalOf input e
behind_the_head input error.Memory some head refused = tt
behind_the_head input (error.Refused at why) some head refused = by_rows input.rest some head refused
  where
    by_rows : (rows : List Row) → 0 < length rows → row_of rows 0 ≡ head_row
        → AreRefusedFrom traces input.instance input.names (input.before + 1 + 1) AtOpening (drop 1 rows) at why
        → AreRefused input.instance input.names input.before rows at why
    by_rows [] less is refused = absurd (omega (arith, less))
    by_rows (row ∷ rows) less is refused = inr (is, refused)

-- a row behind the end
pub after_end : (input : Input) (end tables : ℕ) → IsEnd input end → end + 1 < length input.rest
    → IsRefusedAt input end (InTable tables []) (error.Refused (input.before + 1 + (end + 1)) RowsAfterEnd)
after_end input end tables ends more =
    let lead = leads_one traces input end ends.says.0 (InTable tables []) (PartRow EndRow) ends.says.1 AtEnd
    (record { suits = tt; order = refl; right = (tt, tt) }) in
    lead.refused (input.before + 1 + (end + 1)) RowsAfterEnd (refused_after_end traces input (end + 1) more)

fitting : (p : Problem) (step : Full) → IsReadStep p step → HasFitting p step
fitting p (Took worker spot) is = tt
fitting p (Split worker spot trip left table) is = is
fitting p (Closed worker spot table) is = is
fitting p (Offered worker cost plan) is = tt
fitting p (GaveBack worker spot) is = tt

-- all rows are read
module _ (input : Input) (t : Trace) (at end : ℕ) (some : 0 < length input.rest)
    (head : row_of input.rest 0 ≡ head_row) (opening : ReadsOpening input t.budget t.workers)
    (first : ReadsFirst input at t.first) (steps : ReadsSteps input at end t.steps.items)
    (last : length input.rest ≤ end + 1) where
  ends : SayAllSo input.names (drop end input.rest) (PartRow EndRow ∷ [])
  ends =
      let lt = steps.ends.says.0 in
      let none : drop (end + 1) input.rest ≡ [] = drop_all (end + 1) input.rest last in
      let P : List Row → Type 0 = λ rows. SayAllSo input.names rows (PartRow EndRow ∷ []) in
      let Q : List Row → Type 0 = λ rows. SayAllSo input.names (row_of input.rest end ∷ rows) (PartRow EndRow ∷ []) in
      subst P (sym (drop_more input.rest end [] lt)) (subst Q (sym none) (steps.ends.says.1, tt))

  pub all_read : IsTraceOf input t
  all_read =
      let p = input.instance in
      let firsts = first_rows (told_first p t.first) in
      let rows : List TraceRow = flat_map (step_rows p) (told_steps p t) in
      let end_row : List TraceRow = PartRow EndRow ∷ [] in
      let behind : SayAllSo input.names (drop 1 input.rest) (OpeningRow t.budget t.workers ∷ (firsts
      ++ (rows ++ end_row))) =
      opening.reads.say.say (firsts ++ (rows ++ end_row)) (first.reads.say.say (rows ++ end_row)
      ((steps.say (first_plans t.first)).say end_row ends)) in
      let P : List TraceRow → Type 0 = λ said. SayAllSo input.names (drop 1 input.rest) (OpeningRow t.budget t.workers
      ∷ said) in
      let Q : List Row → Type 0 = λ all. SayAllSo input.names all (HeadRow ∷ OpeningRow t.budget t.workers ∷ ((firsts
      ++ rows) ++ end_row)) in
      record {
        fits = All-weaker (IsReadStep p) (HasFitting p) (fitting p) t.steps.items steps.can_read;
        rows_say = subst Q (sym (drop_more input.rest 0 [] some))
            (head, subst P (sym (append_assoc firsts rows end_row)) behind);
      }

  pub read_for : IsInput input → IsReadFor input.instance t
  read_for is = record {
    few_leaves = opening.form.few_leaves;
    some_workers = opening.form.some_workers;
    few_workers = opening.form.few_workers;
    first = first.can_judge;
    steps = steps.can_read;
    few_steps = omega (arith, steps.few, steps.ends.says.0, first.further, is.counted.few_rows);
  }

-- a row stands behind the end
pub behind_end : (input : Input) (at end budget workers : ℕ) (first : Option (ℤ × Plan)) (steps : List Full)
    → 0 < length input.rest → row_of input.rest 0 ≡ head_row → ReadsOpening input budget workers
    → ReadsFirst input at first → ReadsSteps input at end steps → end + 1 < length input.rest
    → IsRefusalOf input (error.Refused (input.before + 1 + (end + 1)) RowsAfterEnd)
behind_end input at end budget workers first steps some head opening firsts are more =
    let e : TraceError = error.Refused (input.before + 1 + (end + 1)) RowsAfterEnd in
    behind_the_head input e some head
    (passes input e opening.reads.lead (passes input e firsts.reads.lead
    (passes input e are.lead (after_end input end are.tables are.ends more))))
