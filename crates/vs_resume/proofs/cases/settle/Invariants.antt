use Rattle.std.proofs.Common.{◌≡◌, drop, take}
use Rattle.vs_resume.specs.Cases.{AreSettled}
use Rattle.vs_resume.proofs.cases.settle.Given as goal

-- the leaves before are settled, and the others are as they were
abbrev pub invariant-loop-case : goal.invariant-loop-case
invariant-loop-case l = record {
  before : AreSettled l.instance l.old l.number l.base (take l.case-index l.fn.cases) (take l.case-index l.cases);
  after : drop l.case-index l.cases ≡ drop l.case-index l.fn.cases;
}
