use Rattle.std.proofs.Common.{◌≡◌, List, [], ◌∷◌, ◌++◌, map, sym, ap, ◌∙◌, Some, ℤ, rules, SFits, w64}
use Rattle.std.proofs.lemmas.Int.{to_z-of_z}
use Rattle.vs_instance.specs.Plan.{LayerBlock}
use Rattle.vs_reader.specs.Rows.{Row, lines}
use Rattle.vs_rows.specs.DocumentRows.{BlockRow, written_rows}
use Rattle.vs_trace.specs.TraceRows.{FirstRow, block_rows, written_trace, written_traces}
use Rattle.vs_trace.proofs.WrittenSteps.{parts_written, rows_more}
use Rattle.vs_trace.proofs.writing.beginning.write_plan.Goals as goal

pub returns : goal.returns
returns c =
    let names = c.args.names.now in
    let checked = c.args.checked.now in
    let old = c.args.text.now in
    let middle = c.write_cost.new.text in
    let fits : SFits w64 c.cost-cost.result = search rules in
    let cost : middle ≡ old ++ lines (written_trace names (FirstRow (Some checked.cost)) ∷ []) =
    (rw to_z-of_z at c.in_ok-write_cost.ensures)
    ∙ ap (λ (x : ℤ). old ++ lines (written_trace names (FirstRow (Some x)) ∷ [])) c.cost-cost.ensures.value in
    let blocks : c.write_blocks.new.text ≡ middle ++ lines (written_traces names (block_rows checked.blocks)) =
    c.in_ok-write_blocks.ensures
    ∙ ap (λ (bs : List LayerBlock). middle ++ lines (written_rows names (map BlockRow bs))) c.plan-plan.ensures.blocks
    ∙ ap (λ (rows : List Row). middle ++ lines rows) (sym (parts_written names (map BlockRow checked.blocks))) in
    rows_more old middle c.write_blocks.new.text (written_trace names (FirstRow (Some checked.cost)) ∷ [])
    (written_traces names (block_rows checked.blocks)) cost blocks
