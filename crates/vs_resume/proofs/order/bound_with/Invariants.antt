use Rattle.std.proofs.Common.{take}
use Rattle.vs_resume.specs.Order.{IsLeastWith, worths_in}
use Rattle.vs_resume.proofs.order.bound_with.Given as goal

-- the least of the leaves before and of the cost
abbrev pub invariant-loop-case : goal.invariant-loop-case
invariant-loop-case l = IsLeastWith l.fn.cost (worths_in (take l.case-index l.cases)) l.least
