use Rattle.std.proofs.Common.{ℕ, ◌<◌, ◌↔◌, Bool, length, IsTrue, sym, subst}
use Rattle.vs_node.specs.SplitRule.{HasChoice}
use Rattle.vs_node.proofs.sets.Leads.{choice_known}
use Rattle.vs_node.proofs.working.has_choice.Goals as goal

pub returns : goal.returns
returns c =
    let sets = c.args.sets.now in
    subst (λ (b : Bool). IsTrue b ↔ ((i : ℕ) × (i < length sets) × HasChoice sets i)) (sym c.is_some.ensures)
    (choice_known sets c.first_with_choice.result c.first_with_choice.ensures)
