use Rattle.std.proofs.Common.{◌≡◌, ap, sym, ◌∙◌, subst}
use Rattle.std.proofs.lemmas.List.{with_items_is}
use Rattle.vs_instance.specs.Problem.{Problem}
use Rattle.vs_tree.specs.Search.{Search, state}
use Rattle.vs_tree.specs.Takes.{IsSized, IsTake, taking}
use Rattle.vs_tree.specs.declared.calls.Take.{Take}
use Rattle.vs_node.specs.declared.outcome.Task.{Task}
use Rattle.vs_crew.specs.Leaves.{IsTold}
use Rattle.vs_crew.specs.Sharing.{GoesOnBy, HeldWhenLeft, IsIdle, Shared}
use Rattle.vs_crew.proofs.leaves.Finished.{still_idle}
use Rattle.vs_crew.proofs.leaves.SharedSteps.{makes_goes_on, makes_shared, take_makes}
use Rattle.vs_crew.proofs.leaves.Taking.{fits_sized, kept_buffers, told_node, told_other}
use Rattle.vs_crew.proofs.shared_tree.SharedTree.take.Goals as goal
use Rattle.vs_crew.proofs.shared_tree.SharedTree.take.Goals.{in-Node, in_default}

pub take-requires-clause-idle : goal.take-requires-clause-idle
take-requires-clause-idle c =
    let known = c.instance-instance.ensures in
    (still_idle c.self.inside.tree c.args.w known.opening known.history
    (subst (λ (a : Shared). HeldWhenLeft c.args.w (IsIdle c.args.w) a.search) (sym c.self.view_is)
    c.requires.idle)).holds_none

pub take-requires-clause-stays : goal.take-requires-clause-stays
take-requires-clause-stays c =
    let known = c.instance-instance.ensures in
    (still_idle c.self.inside.tree c.args.w known.opening known.history
    (subst (λ (a : Shared). HeldWhenLeft c.args.w (IsIdle c.args.w) a.search) (sym c.self.view_is)
    c.requires.idle)).stays

pub invariant_of-self : goal.invariant_of-self
invariant_of-self c =
    makes_shared c.args.w c.self.inside.before c.self.inside.tree c.take.new.self
    (take_makes c.args.w c.self.inside.tree c.take.new.self c.take.result c.take.ensures.search) c.self.invariant

pub returns-clause-steps : goal.returns-clause-steps
returns-clause-steps c =
    subst (λ (a : Shared).
    GoesOnBy c.args.w a (record { before = c.self.inside.before; search = c.take.new.self })) c.self.view_is
    (makes_goes_on c.args.w c.self.inside.before c.self.inside.tree c.take.new.self
    (take_makes c.args.w c.self.inside.tree c.take.new.self c.take.result c.take.ensures.search))

idle : (c : goal.Joined-take) → IsIdle c.args.w c.self.inside.tree.opening (state c.self.inside.tree)
idle c =
    let known = c.instance-instance.ensures in
    still_idle c.self.inside.tree c.args.w known.opening known.history
    (subst (λ (a : Shared). HeldWhenLeft c.args.w (IsIdle c.args.w) a.search) (sym c.self.view_is) c.requires.idle)

pub returns-clause-told : goal.returns-clause-told
returns-clause-told c =
    let known = c.instance-instance.ensures in
    let old = c.self.inside.tree in
    let new = c.take.new.self in
    let written = with_items_is c.args.task.now.sets c.take.new.sets (c.take.auto.sets ∙ c.deref_mut.ensures.len) in
    let told : Take → Type 0 = λ t. IsTold c.args.w c.match-take.task t new.opening (state new) in
    elim c.match-take.branch [
      | in-Node w ↦
          subst told (sym w.result-is)
          (told_node old new c.args.w c.take.new.sets c.take.new.table c.match-take.task w.in-Node.leaf w.in-Node.known
          known.opening known.history (idle c).is_worker
          (subst (IsTake old.opening (state old) c.take.new.sets c.take.new.table) w.in-Node.is c.take.ensures.answer)
          (ap (λ (t : Task). t.sets.items) w.task-is ∙ written) (ap (λ (t : Task). t.table) w.task-is)
          (ap (λ (t : Task). t.known) w.task-is) (ap (λ (t : Task). t.root) w.task-is)
          (c.take.ensures.search ∙ ap (λ (t : Take). record old { steps = taking c.args.w old.steps t }) w.in-Node.is))
      | in_default w ↦
          subst told (sym w.result-is)
          (told_other old new c.args.w c.take.new.sets c.take.new.table c.match-take.task c.take.result (idle c)
          c.take.ensures.answer w.in_default.not-Node c.take.ensures.search)
    ]

pub returns-clause-table : goal.returns-clause-table
returns-clause-table c =
    let problem = ap (λ (a : Shared). a.search.opening.problem) c.self.view_is in
    elim c.match-take.branch [
      | in-Node w ↦
          let known = c.instance-instance.ensures in
          let old = c.self.inside.tree in
          let written =
          with_items_is c.args.task.now.sets c.take.new.sets (c.take.auto.sets ∙ c.deref_mut.ensures.len) in
          let holds = told_node old c.take.new.self c.args.w c.take.new.sets c.take.new.table c.match-take.task
          w.in-Node.leaf w.in-Node.known known.opening known.history (idle c).is_worker
          (subst (IsTake old.opening (state old) c.take.new.sets c.take.new.table) w.in-Node.is c.take.ensures.answer)
          (ap (λ (t : Task). t.sets.items) w.task-is ∙ written) (ap (λ (t : Task). t.table) w.task-is)
          (ap (λ (t : Task). t.known) w.task-is) (ap (λ (t : Task). t.root) w.task-is)
          (c.take.ensures.search ∙ ap (λ (t : Take). record old { steps = taking c.args.w old.steps t })
          w.in-Node.is) in
          subst (λ (p : Problem). IsSized p c.match-take.task.table)
          (ap (λ (t : Search). t.opening.problem) c.take.ensures.search ∙ problem)
          (fits_sized c.take.new.self.opening.problem c.match-take.task.table holds.lawful.fits)
      | in_default w ↦
          let same : c.match-take.task.table ≡ c.args.task.now.table =
          ap (λ (t : Task). t.table) w.task-is
          ∙ kept_buffers c.take.result _ c.take.new.sets c.args.task.now.table c.take.new.table c.take.ensures.buffers
          w.in_default.not-Node in
          subst (IsSized c.args.self.now.search.opening.problem) (sym same) c.requires.table
    ]
