use Rattle.std.proofs.Common.{◌∙◌, subst, sym}
use Rattle.std.proofs.lemmas.List.{with_items_is}
use Rattle.vs_multi.specs.Multipliers.{AreMultipliers}
use Rattle.vs_multi.proofs.Places.{of_table_within}
use Rattle.vs_multi.proofs.starting.multipliers_of.Goals as goal

pub returns : goal.returns
returns c =
    let p = c.args.case.now.instance.now in
    let new = c.of_table.new.multipliers in
    let size = c.of_table.auto.multipliers ∙ c.deref_mut.ensures.len in
    subst (AreMultipliers p) (sym (with_items_is c.in_ok-multipliers.multipliers new size))
    (of_table_within p c.args.case.now.sets.now c.args.table.now new c.of_table.ensures)
