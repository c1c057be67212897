use Rattle.std.proofs.Common.{◌≡◌, ℕ, List, [], ◌∷◌, ◌++◌, sym, ap, ◌∙◌, subst, Option, IfSome}
use Rattle.std.specs.List.{All}
use Rattle.std.specs.Prelude.{codes, decimal, flat_map}
use Rattle.vs_plan.specs.CheckedPlan.{Checked}
use Rattle.vs_reader.specs.Rows.{lines}
use Rattle.vs_rows.specs.DocumentRows.{IsNamedBlock}
use Rattle.vs_trace.specs.TraceRows.{first_rows, head_row, opening_rows, step_rows, written_traces}
use Rattle.vs_trace.proofs.NamedSteps.{first_named}
use Rattle.vs_trace.proofs.WrittenSteps.{trace_in_turn}
use Rattle.vs_trace.proofs.writing.whole.write.Goals as goal

pub write_first-requires : goal.write_first-requires
write_first-requires c =
    let o = c.args.tree.now.opening in
    let known = c.instance-instance.ensures in
    let names = c.args.names.now in
    subst (λ (first : Option Checked). IfSome first (λ plan. All (IsNamedBlock names) plan.blocks))
    (sym c.first.ensures)
    (first_named o known.opening names c.requires o.first known.opening.first)

pub returns : goal.returns
returns c =
    let t = c.args.tree.now in
    let o = t.opening in
    let names = c.args.names.now in
    let counts : ℕ → ℕ → List ℕ = λ b w. lines (head_row ∷ (codes "opening" ∷ decimal b ∷ decimal w ∷ []) ∷ []) in
    let begun : c.write_opening.new.text ≡ lines (written_traces names (opening_rows o)) =
    c.in_ok-write_opening.ensures ∙ ap (λ (text : List ℕ). text ++ counts c.budget.result c.workers.result)
    c.new-text.ensures
    ∙ ap (λ (b : ℕ). counts b c.workers.result) c.budget.ensures
    ∙ ap (λ (w : ℕ). counts o.budget w) c.workers.ensures in
    let first : c.write_first.new.text
    ≡ c.write_opening.new.text ++ lines (written_traces names (first_rows o.first)) =
    c.in_ok-write_first.ensures
    ∙ ap (λ (f : Option Checked). c.write_opening.new.text ++ lines (written_traces names (first_rows f)))
    c.first.ensures in
    trace_in_turn names (opening_rows o) (first_rows o.first) (flat_map (step_rows o.problem) t.steps)
    c.write_opening.new.text c.write_first.new.text c.write_steps.new.text c.into_bytes.result.items begun first
    c.in_ok-write_steps.ensures
    (c.into_bytes.ensures ∙ c.in_ok-end_row.ensures
    ∙ ap (λ (text : List ℕ). text ++ 10 ∷ []) c.in_ok-begin_row.ensures)
