use Rattle.std.proofs.Common.{◌≡◌, List, [], ◌∷◌, ◌++◌, map, sym, ap, ◌∙◌, subst, Option, rules, SFits, w64}
use Rattle.std.proofs.lemmas.Int.{to_z-of_z}
use Rattle.std.specs.List.{All}
use Rattle.vs_instance.specs.Plan.{LayerBlock}
use Rattle.vs_plan.specs.CheckedPlan.{Checked}
use Rattle.vs_reader.specs.Rows.{Row, lines}
use Rattle.vs_rows.specs.DocumentRows.{BlockRow, IsNamedBlock, written_rows}
use Rattle.vs_rows.proofs.CallerLemmas.{all_at}
use Rattle.vs_tree.specs.Search.{state}
use Rattle.vs_tree.specs.Sound.{IsPlanOf}
use Rattle.vs_tree.proofs.CallerLemmas.{histories_are_sound}
use Rattle.vs_trace.specs.TraceRows.{OfferedRow, block_rows, offered_rows, written_trace, written_traces}
use Rattle.vs_trace.proofs.NamedSteps.{blocks_named}
use Rattle.vs_trace.proofs.WrittenSteps.{parts_written, rows_more}
use Rattle.vs_trace.proofs.writing.steps.write_offer.Goals as goal

pub write_blocks-requires : goal.write_blocks-requires
write_blocks-requires c =
    let t = c.args.tree.now in
    let o = t.opening in
    let names = c.args.names.now in
    let known = c.instance-instance.ensures in
    let sound = histories_are_sound o t.steps known.opening known.history in
    let checked = c.accepted-checked.result.now in
    let is : IsPlanOf o.problem checked =
    all_at (IsPlanOf o.problem) (state t).accepted c.args.plan checked sound.plans c.accepted-checked.ensures in
    subst (λ (blocks : List LayerBlock). All (IsNamedBlock names) blocks) (sym c.plan-plan.ensures.blocks)
    (blocks_named o known.opening names c.requires.names checked is)

pub returns : goal.returns
returns c =
    let t = c.args.tree.now in
    let names = c.args.names.now in
    let checked = c.accepted-checked.result.now in
    let old = c.args.text.now in
    let worker = c.args.worker in
    let cost = c.args.cost in
    let fits : SFits w64 cost = search rules in
    let blocks : c.write_blocks.new.text
    ≡ c.write_offer_row.new.text ++ lines (written_traces names (block_rows checked.blocks)) =
    c.in_ok-write_blocks.ensures
    ∙ ap (λ (bs : List LayerBlock). c.write_offer_row.new.text ++ lines (written_rows names (map BlockRow bs)))
    c.plan-plan.ensures.blocks
    ∙ ap (λ (rows : List Row). c.write_offer_row.new.text ++ lines rows)
    (sym (parts_written names (map BlockRow checked.blocks))) in
    rows_more old c.write_offer_row.new.text c.write_blocks.new.text
    (written_trace names (OfferedRow worker cost) ∷ []) (written_traces names (block_rows checked.blocks))
    (rw to_z-of_z at c.in_ok-write_offer_row.ensures) blocks
    ∙ ap (λ (plan : Option Checked). old ++ lines (written_traces names (offered_rows worker cost plan)))
    (sym c.accepted-checked.ensures)
