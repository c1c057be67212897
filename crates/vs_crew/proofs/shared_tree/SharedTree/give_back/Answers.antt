use Rattle.std.proofs.Common.{sym, subst}
use Rattle.vs_crew.specs.Sharing.{HeldWhenLeft, IsHolding, Shared}
use Rattle.vs_crew.proofs.leaves.Finished.{still_holding}
use Rattle.vs_crew.proofs.leaves.SharedSteps.{gave_back_left, gave_back_makes, makes_shared}
use Rattle.vs_crew.proofs.shared_tree.SharedTree.give_back.Goals as goal

pub give_back-requires : goal.give_back-requires
give_back-requires c =
    let known = c.instance-instance.ensures in
    still_holding c.self.inside.tree c.args.w known.opening known.history
    (subst (λ (a : Shared). HeldWhenLeft c.args.w (IsHolding c.args.w) a.search) (sym c.self.view_is) c.requires.holds)

pub invariant_of-self : goal.invariant_of-self
invariant_of-self c =
    let gives = c.give_back.ensures in
    makes_shared c.args.w c.self.inside.before c.self.inside.tree c.give_back.new.self
    (gave_back_makes c.args.w gives.leaf c.self.inside.tree c.give_back.new.self gives.adds) c.self.invariant

pub returns-clause-left : goal.returns-clause-left
returns-clause-left c =
    let gives = c.give_back.ensures in
    gave_back_left c.args.w gives.leaf c.self.inside.tree c.give_back.new.self gives.adds
