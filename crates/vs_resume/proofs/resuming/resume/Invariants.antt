use Rattle.std.proofs.Common.{◌≡◌, ◌+◌, ◌*◌, ◌≤◌, false, cond}
use Rattle.vs_resume.specs.Courses.{NoneIsBelow}
use Rattle.vs_resume.proofs.documents.OnCourse.{IsOnCourse}
use Rattle.vs_resume.proofs.resuming.resume.Given as goal

-- turns have led to what is known, and so many nodes are left; where none follows, and the solver may not end them, no
-- leaf is below the cost
abbrev pub invariant-loop-goes_on : goal.invariant-loop-goes_on
invariant-loop-goes_on g l = record {
  on_course : IsOnCourse l.instance l.budget l.fn.document l.course l.left;
  within : l.left ≤ l.budget;
  can : g.S.Deepen.can_deepen l.solver;
  may : g.S.Deepen.may_stop l.solver → g.S.Deepen.may_stop l.fn.solver;
  ends : ¬ (g.S.Deepen.may_stop l.fn.solver) → l.goes_on ≡ false → NoneIsBelow l.course;
}

-- a turn finishes a node, or is the last one
abbrev pub decreases-loop-goes_on : goal.decreases-loop-goes_on
decreases-loop-goes_on g l = 2 * l.left + cond l.goes_on 1 0
