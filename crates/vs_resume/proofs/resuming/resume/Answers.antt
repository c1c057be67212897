use Rattle.std.proofs.Common.{◌≡◌, ◌⊎◌, ◌-◌, Bool, true, false, not, inl, inr, refl, arith}
use Rattle.std.proofs.lemmas.Result.{IfOk-weaker}
use Rattle.vs_instance.specs.Restriction.{permitted_sets}
use Rattle.vs_prices.specs.Tree.{leaves}
use Rattle.vs_resume.specs.Answers.{ResumeAnswer, StoppedResume}
use Rattle.vs_resume.specs.Courses.{NoneIsBelow}
use Rattle.vs_resume.specs.Writing.{IsPrintedOf}
use Rattle.vs_resume.proofs.documents.OnCourse.{further}
use Rattle.vs_resume.proofs.documents.Resumed.{answers, cases_named, so_far}
use Rattle.vs_resume.proofs.resuming.resume.Goals as goal
use Rattle.vs_resume.proofs.resuming.resume.Goals.{else-loop-goes_on-test, then-loop-goes_on-test+else-left-gt0}

pub loop-goes_on-preserved : goal.loop-goes_on-preserved
loop-goes_on-preserved g c =
    let before = c.loop-goes_on.invariant in
    let few = before.within in
    record {
      on_course = further c.args.instance.now c.args.budget c.args.document c.loop-goes_on.course c.next_turn.new.course
          c.loop-goes_on.left c.in_ok-ended.ended before.on_course c.in_ok-ended.ensures.turn
          c.in_ok-ended.ensures.few;
      within = omega (arith, few);
      can = c.next_turn.ensures.stays;
      may = λ stops. before.may (c.next_turn.ensures.may stops);
      ends = λ never last. c.in_ok-ended.ensures.ends (λ stops. never (before.may stops))
          (was_stopped c.in_ok-ended.ended.stopped last);
    }
  where
    -- the last turn was stopped
    was_stopped : (b : Bool) → not b ≡ false → b ≡ true
    was_stopped true last = refl
    was_stopped false last = absurd cc

pub document_of-requires-clause-named : goal.document_of-requires-clause-named
document_of-requires-clause-named g c =
    let p = c.args.instance.now in
    let on = c.loop-goes_on.invariant.on_course in
    cases_named p c.loop-goes_on.course.tables.items (leaves (permitted_sets p) on.last.tree)
    c.loop-goes_on.course.cases.items on.course.cases

pub returns-clause-stopped : goal.returns-clause-stopped
returns-clause-stopped g c =
    let p = c.args.instance.now in
    let now = c.loop-goes_on.course in
    let left = c.loop-goes_on.left in
    IfOk-weaker c.document_of.result (IsPrintedOf now (c.args.budget - left)) (StoppedResume p c.args.budget
    c.args.document)
    (λ e prints. so_far p c.trips.ensures.instance c.args.budget c.requires.budget c.args.document c.requires.text
    c.requires.holds c.requires.room now left c.loop-goes_on.invariant.on_course e prints) c.document_of.ensures

pub returns-clause-answers : goal.returns-clause-answers
returns-clause-answers g c never =
    let p = c.args.instance.now in
    let d = c.args.document in
    let now = c.loop-goes_on.course in
    let left = c.loop-goes_on.left in
    let done : (left ≡ 0) ⊎ NoneIsBelow now =
    elim c.loop-goes_on-test.branch [
      | else-loop-goes_on-test w ↦ inr (c.loop-goes_on.invariant.ends never w.loop-goes_on-test.false)
      | then-loop-goes_on-test+else-left-gt0 w ↦ inl (let none = w.if-left-gt0.false in omega (arith, none))
    ] in
    IfOk-weaker c.document_of.result (IsPrintedOf now (c.args.budget - left)) (ResumeAnswer p c.args.budget d)
    (λ e prints. answers p c.trips.ensures.instance c.args.budget c.requires.budget d c.requires.text c.requires.holds
    c.requires.room now left c.loop-goes_on.invariant.on_course e prints done) c.document_of.ensures
