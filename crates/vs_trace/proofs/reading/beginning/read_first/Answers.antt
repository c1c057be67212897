use Rattle.std.proofs.Common.{ℤ, Some, FitsSigned, rules, sym, subst, w64}
use Rattle.std.proofs.lemmas.Int.{to_z-of_z}
use Rattle.vs_plan.specs.declared.block.Plan.{Plan}
use Rattle.vs_trace.specs.Reading.{ReadsFirst}
use Rattle.vs_trace.proofs.PartReading.{first_none, first_some}
use Rattle.vs_trace.proofs.reading.beginning.read_first.Goals as goal

pub returns-in_default-clause-found : goal.returns-in_default-clause-found
returns-in_default-clause-found c =
    first_none c.args.input.now (rw c.in_default.is at c.in_ok-told.ensures.found)

pub returns-clause-found : goal.returns-clause-found
returns-clause-found c =
    let input = c.args.input.now in
    let plan : Plan = record { blocks = c.in_ok-blocks.blocks } in
    let fits : FitsSigned w64 c.in-Some.cost = search rules in
    let P : ℤ → Type 0 = λ x. ReadsFirst input c.in_ok-blocks.next (Some (x, plan)) in
    subst P (sym (to_z-of_z w64 c.in-Some.cost fits))
    (first_some input c.in-Some.cost plan c.in_ok-blocks.next c.requires.input
    (rw c.in-Some.is at c.in_ok-told.ensures.found) c.in_ok-blocks.ensures)
