use Rattle.std.proofs.Common.{sym, subst}
use Rattle.vs_crew.specs.Leaves.{HasFound}
use Rattle.vs_crew.specs.Sharing.{GoesOnBy, HeldWhenLeft, Shared}
use Rattle.vs_crew.proofs.leaves.HandedIn.{hand_in_idle, hand_in_makes, may_finish_as, ready, step_as, worths_then}
use Rattle.vs_crew.proofs.leaves.SharedSteps.{Makes, makes_goes_on, makes_shared}
use Rattle.vs_crew.proofs.shared_tree.SharedTree.finish.Goals as goal

pub offer_found-requires-clause-holds : goal.offer_found-requires-clause-holds
offer_found-requires-clause-holds c =
    let known = c.instance-instance.ensures in
    let was = subst (λ (a : Shared). HeldWhenLeft c.args.w (HasFound c.args.w c.args.leaf c.args.finding) a.search)
    (sym c.self.view_is) c.requires.found in
    (c.args.leaf, (ready c.self.inside.tree c.args.w c.args.leaf c.args.finding known.opening known.history was).holds)

pub offer_found-requires-clause-fresh : goal.offer_found-requires-clause-fresh
offer_found-requires-clause-fresh c =
    let known = c.instance-instance.ensures in
    let was = subst (λ (a : Shared). HeldWhenLeft c.args.w (HasFound c.args.w c.args.leaf c.args.finding) a.search)
    (sym c.self.view_is) c.requires.found in
    (ready c.self.inside.tree c.args.w c.args.leaf c.args.finding known.opening known.history was).fresh

pub finish_as-requires-clause-may : goal.finish_as-requires-clause-may
finish_as-requires-clause-may c =
    let known = c.instance-instance.ensures in
    let was = subst (λ (a : Shared). HeldWhenLeft c.args.w (HasFound c.args.w c.args.leaf c.args.finding) a.search)
    (sym c.self.view_is) c.requires.found in
    may_finish_as c.self.inside.tree c.args.w c.args.leaf c.args.finding known.opening known.history was
    c.offer_found.new.tree c.offer_found.ensures

pub finish_as-requires-clause-worths : goal.finish_as-requires-clause-worths
finish_as-requires-clause-worths c =
    let known = c.instance-instance.ensures in
    let was = subst (λ (a : Shared). HeldWhenLeft c.args.w (HasFound c.args.w c.args.leaf c.args.finding) a.search)
    (sym c.self.view_is) c.requires.found in
    worths_then c.self.inside.tree c.args.w c.args.leaf c.args.finding known.opening known.history was
    c.offer_found.new.tree c.offer_found.ensures

makes : (c : goal.After-finish_as) → Makes c.args.w c.self.inside.tree c.finish_as.new.self
makes c =
    let known = c.instance-instance.ensures in
    let was = subst (λ (a : Shared). HeldWhenLeft c.args.w (HasFound c.args.w c.args.leaf c.args.finding) a.search)
    (sym c.self.view_is) c.requires.found in
    hand_in_makes c.self.inside.tree c.args.w c.args.leaf c.args.finding known.opening known.history was
    c.offer_found.new.tree c.offer_found.ensures c.finish_as.new.self
    (step_as c.self.inside.tree c.args.w c.args.leaf c.args.finding known.opening known.history was
    c.offer_found.new.tree c.offer_found.ensures c.finish_as.new.self c.finish_as.ensures)

pub invariant_of-self : goal.invariant_of-self
invariant_of-self c =
    makes_shared c.args.w c.self.inside.before c.self.inside.tree c.finish_as.new.self (makes c) c.self.invariant

pub returns-clause-steps : goal.returns-clause-steps
returns-clause-steps c =
    subst (λ (a : Shared).
    GoesOnBy c.args.w a (record { before = c.self.inside.before; search = c.finish_as.new.self })) c.self.view_is
    (makes_goes_on c.args.w c.self.inside.before c.self.inside.tree c.finish_as.new.self (makes c))

pub returns-clause-idle : goal.returns-clause-idle
returns-clause-idle c =
    let known = c.instance-instance.ensures in
    let was = subst (λ (a : Shared). HeldWhenLeft c.args.w (HasFound c.args.w c.args.leaf c.args.finding) a.search)
    (sym c.self.view_is) c.requires.found in
    hand_in_idle c.self.inside.tree c.args.w c.args.leaf c.args.finding known.opening known.history was
    c.offer_found.new.tree c.offer_found.ensures c.finish_as.new.self
    (step_as c.self.inside.tree c.args.w c.args.leaf c.args.finding known.opening known.history was
    c.offer_found.new.tree c.offer_found.ensures c.finish_as.new.self c.finish_as.ensures)
