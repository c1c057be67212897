use Rattle.std.proofs.Common.{◌≡◌, ◌+◌, [], length, sym, ap, ◌∙◌, subst, arith}
use Rattle.vs_instance.specs.Problem.{Problem}
use Rattle.vs_tree.specs.History.{Opening}
use Rattle.vs_tree.specs.Search.{Search, state}
use Rattle.vs_tree.specs.Takes.{IsOver, IsSized}
use Rattle.vs_crew.specs.Found.{IsFound}
use Rattle.vs_crew.proofs.CallerLemmas.{fits_sized, plan_of}
use Rattle.test_resume.specs.Alone.{IsBetweenLeaves, begun_alone}
use Rattle.test_resume.proofs.AloneSearches.{begins}
use Rattle.test_resume.proofs.Ends.{spent, stopped}
use Rattle.vs_crew.proofs.leaves.Finding.{next-worked}
use Rattle.test_resume.proofs.HandedIn.{taken_leaf, taken_task}
use Rattle.test_resume.proofs.searching.searched.Goals as goal
use Rattle.test_resume.proofs.searching.searched.Goals.{else-loop-left-test, then-loop-left-test+in_default}

pub loop-left-init : goal.loop-left-init
loop-left-init c =
    let p = c.args.instance.now in
    let budget = c.args.budget in
    let is : c.in_ok-tree.tree ≡ record { opening = begun_alone p budget; steps = [] } =
    c.in_ok-tree.ensures
    ∙ ap {B = Search} (λ (q : Problem). record { opening = begun_alone q budget; steps = [] }) c.in_ok-copy.ensures in
    record {
      opening = ap (λ (t : Search). t.opening) is;
      between = begins p budget c.in_ok-tree.tree is;
      finished = let none = ap (λ (t : Search). (state t).finished) is in omega (arith, none);
      first = λ _. ap (λ (t : Search). t.steps) is;
      sets = c.in_ok-task.ensures.sets;
      table = c.in_ok-task.ensures.table;
    }

pub take-requires-clause-between : goal.take-requires-clause-between
take-requires-clause-between c = c.loop-left.invariant.between

pub take-requires-clause-sets : goal.take-requires-clause-sets
take-requires-clause-sets c =
    let now = c.loop-left.invariant in
    now.sets ∙ sym (ap (λ (o : Opening). length o.problem.trips) now.opening)

pub take-requires-clause-table : goal.take-requires-clause-table
take-requires-clause-table c =
    let now = c.loop-left.invariant in
    subst (λ (o : Opening). IsSized o.problem c.loop-left.task.table) (sym now.opening) now.table

pub work-requires-clause-restriction : goal.work-requires-clause-restriction
work-requires-clause-restriction c =
    let at = taken_leaf c.take.new.tree c.take.new.task c.take.result c.in-Some.leaf c.in-Some.is
    c.take.ensures.leaf in
    (taken_task c.args.instance.now c.args.budget c.loop-left.tree c.take.new.tree c.take.new.task c.in-Some.leaf
    c.loop-left.invariant.opening c.take.ensures.opening at).restriction

pub work-requires-clause-fits : goal.work-requires-clause-fits
work-requires-clause-fits c =
    let at = taken_leaf c.take.new.tree c.take.new.task c.take.result c.in-Some.leaf c.in-Some.is
    c.take.ensures.leaf in
    (taken_task c.args.instance.now c.args.budget c.loop-left.tree c.take.new.tree c.take.new.task c.in-Some.leaf
    c.loop-left.invariant.opening c.take.ensures.opening at).fits

pub work-requires-clause-holds : goal.work-requires-clause-holds
work-requires-clause-holds c =
    let at = taken_leaf c.take.new.tree c.take.new.task c.take.result c.in-Some.leaf c.in-Some.is
    c.take.ensures.leaf in
    (taken_task c.args.instance.now c.args.budget c.loop-left.tree c.take.new.tree c.take.new.task c.in-Some.leaf
    c.loop-left.invariant.opening c.take.ensures.opening at).holds

pub hand_in-requires : goal.hand_in-requires
hand_in-requires c =
    let p = c.args.instance.now in
    let task = c.take.new.task in
    let outcome = c.in_ok-outcome.outcome in
    let made = c.in_ok-outcome.ensures in
    record {
      task = task;
      at_leaf = taken_leaf c.take.new.tree task c.take.result c.in-Some.leaf c.in-Some.is c.take.ensures.leaf;
      found = subst (λ (o : Opening). IsFound o.problem task outcome)
          (sym (c.take.ensures.opening ∙ c.loop-left.invariant.opening))
          (record {
            fits = made.fits;
            holds = made.holds;
            no_less = made.no_less;
            worked = made.worked;
            plan = plan_of p task.sets.items outcome.table outcome.plan made.plan;
            next = next-worked p task outcome.table outcome.plan outcome.next made.next;
          });
    }

pub loop-left-preserved : goal.loop-left-preserved
loop-left-preserved c =
    let p = c.args.instance.now in
    let before = c.loop-left.invariant in
    let at = taken_leaf c.take.new.tree c.take.new.task c.take.result c.in-Some.leaf c.in-Some.is
    c.take.ensures.leaf in
    let task = taken_task p c.args.budget c.loop-left.tree c.take.new.tree c.take.new.task c.in-Some.leaf before.opening
    c.take.ensures.opening at in
    let finished = before.finished in
    let more = c.hand_in.ensures.finished in
    let taken = c.take.ensures.finished in
    let some = c.loop-left-test.true in
    record {
      opening = c.hand_in.ensures.opening ∙ c.take.ensures.opening ∙ before.opening;
      between = c.hand_in.ensures.between;
      finished = omega (arith, finished, more, taken, some);
      first = λ all. absurd (omega (arith, all, finished, some));
      sets = task.restriction.each_trip;
      table = fits_sized p c.take.new.task.table task.fits;
    }

pub returns : goal.returns
returns c =
    let p = c.args.instance.now in
    let budget = c.args.budget in
    let t = c.loop-left-test.tree in
    let now = c.loop-left.invariant in
    let own = c.instance-instance.ensures in
    let finished = now.finished in
    let Ends : Search → Type 0 = λ n. (n.opening ≡ begun_alone p budget) × IsBetweenLeaves n
    × ((state n).finished + c.loop-left.left ≡ budget) × (c.loop-left.left ≡ budget → n.steps ≡ []) in
    let before : Ends c.loop-left.tree = (now.opening, now.between, now.finished, now.first) in
    elim c.loop-left-test.branch [
      | else-loop-left-test w ↦
          let none = w.loop-left-test.false in
          let then = subst Ends (sym w.tree-is) before in
          spent p budget c.requires.some t then.0 own.opening own.history then.1
          (let count = then.2 in omega (arith, none, count))
      | then-loop-left-test+in_default w ↦
          let then = subst Ends (sym (w.tree-is ∙ w.in_default.ensures.same)) before in
          let over = subst (λ (n : Search). IsOver n.opening (state n)) (sym w.tree-is) w.in_default.ensures.over in
          stopped p budget c.requires.some t then.0 own.opening own.history then.1 c.loop-left.left then.2 then.3 over
    ]
