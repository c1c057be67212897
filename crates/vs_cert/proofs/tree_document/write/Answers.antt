use Rattle.std.proofs.Common.{◌≡◌, ◌++◌, ◌∷◌, [], List, map, length, sym, ap, ◌∙◌, subst, arith}
use Rattle.std.specs.List.{All}
use Rattle.std.proofs.lemmas.List.Elements.{All-weaker}
use Rattle.vs_plan.specs.Blocks.{IsOfInstance, blocks_of}
use Rattle.vs_reader.specs.Rows.{lines}
use Rattle.vs_tree.specs.Search.{state}
use Rattle.vs_tree.proofs.CallerLemmas.{histories_are_sound}
use Rattle.vs_rows.specs.DocumentRows.{BlockRow, DocumentRow, HasForm, IsNamedBlock, head_of, shape_row, written_rows}
use Rattle.vs_rows.specs.Shapes.{IsShapeOf}
use Rattle.vs_cert.specs.TreeText.{numbered_rows}
use Rattle.vs_cert.proofs.states.StateRanges.{blocks_of_instance}
use Rattle.vs_cert.proofs.states.TreeDocument.{document, document_says, few_numbers, has_text, of_state, shapes_are}
use Rattle.vs_cert.proofs.states.TreeTables.{numbers_within}
use Rattle.vs_rows.proofs.CallerLemmas.{block_form, shape_form, written_in_turn}
use Rattle.vs_cert.proofs.tree_document.write.Goals as goal

pub write_blocks-requires : goal.write_blocks-requires
write_blocks-requires c =
    let t = c.args.tree.now in let p = t.opening.problem in
    let known = c.instance-instance.ensures in
    let sound = histories_are_sound t.opening t.steps known.opening known.history in
    let blocks = blocks_of c.known_plan-plan.result.now in
    All-weaker (IsOfInstance p) (IsNamedBlock c.args.names.now)
    (block_form p c.args.names.now known.opening.instance c.requires) blocks
    (subst (All (IsOfInstance p)) (sym c.known_plan-plan.ensures)
    (blocks_of_instance t.opening (state t) known.opening.instance sound))

pub write_numbered-requires-clause-tables : goal.write_numbered-requires-clause-tables
write_numbered-requires-clause-tables c =
    let t = c.args.tree.now in
    let known = c.instance-instance.ensures in
    let sound = histories_are_sound t.opening t.steps known.opening known.history in
    numbers_within t.opening (state t) sound c.in_ok-all.all.tables.items c.in_ok-all.all.rows.items c.in_ok-all.ensures

pub write_shapes-requires : goal.write_shapes-requires
write_shapes-requires c =
    let t = c.args.tree.now in let p = t.opening.problem in let names = c.args.names.now in
    let known = c.instance-instance.ensures in
    let sound = histories_are_sound t.opening t.steps known.opening known.history in
    let numbers = c.in_ok-all.all.tables.items in let rows = c.in_ok-all.all.rows.items in
    let few = few_numbers t.opening (state t) known.opening.instance known.budget sound numbers rows
    c.in_ok-all.ensures in
    All-weaker (IsShapeOf p (length numbers)) (λ s. HasForm names (shape_row s))
    (λ s is. shape_form p names known.opening.instance c.requires (length numbers) s (omega (arith, few)) is) rows
    (shapes_are t.opening (state t) known.opening.instance known.budget sound numbers rows c.in_ok-all.ensures)

pub returns : goal.returns
returns c =
    let t = c.args.tree.now in let p = t.opening.problem in let names = c.args.names.now in
    let known = c.instance-instance.ensures in
    let sound = histories_are_sound t.opening t.steps known.opening known.history in
    let r = c.report-report.result in let plan = c.known_plan-plan.result.now in
    let numbers = c.in_ok-all.all.tables.items in let rows = c.in_ok-all.all.rows in
    let head = head_of r.claim r.cost r.bound in
    let begun : c.write_head.new.text ≡ lines (written_rows names (head r.finished)) =
    c.in_ok-write_head.ensures ∙ ap (λ text. text ++ lines (written_rows names (head c.from-nodes.result)))
    c.new-text.ensures
    ∙ ap (λ n. lines (written_rows names (head n))) c.from-nodes.ensures in
    let bytes = written_in_turn names (head r.finished) (map BlockRow (blocks_of plan))
    (numbered_rows p (state t) numbers) (map shape_row rows.items) c.write_head.new.text c.write_blocks.new.text
    c.write_numbered.new.text c.write_shapes.new.text c.into_bytes.result.items begun c.in_ok-write_blocks.ensures
    c.in_ok-write_numbered.ensures c.in_ok-write_shapes.ensures
    (c.into_bytes.ensures ∙ c.in_ok-end_row.ensures ∙ ap (λ text. text ++ 10 ∷ []) c.in_ok-begin_row.ensures) in
    let says = document_says t.opening (state t) known.opening.instance known.budget sound r
    c.report-report.ensures plan
    c.known_plan-plan.ensures numbers rows c.in_ok-all.ensures in
    record {
      document = document t.opening (state t) known.opening.instance known.budget sound r c.report-report.ensures plan
          c.known_plan-plan.ensures numbers rows c.in_ok-all.ensures;
      of_state = of_state t.opening (state t) known.opening.instance known.budget sound r c.report-report.ensures plan
          c.known_plan-plan.ensures numbers rows c.in_ok-all.ensures;
      has_text = has_text t.opening (state t) known.opening.instance known.budget sound r c.report-report.ensures plan
          c.known_plan-plan.ensures numbers rows c.in_ok-all.ensures;
      bytes_are = bytes ∙ sym (ap (λ (said : List DocumentRow). lines (written_rows names said)) says);
    }
