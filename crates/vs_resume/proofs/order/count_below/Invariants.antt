use Rattle.std.proofs.Common.{◌≡◌, ◌-◌, ◌^◌, min, take}
use Rattle.vs_resume.specs.Order.{below_in}
use Rattle.vs_resume.proofs.order.count_below.Given as goal

-- those below the cost among the leaves before
abbrev pub invariant-loop-case : goal.invariant-loop-case
invariant-loop-case l = l.count ≡ min (below_in l.fn.cost (take l.case-index l.cases)) (2 ^ 32 - 1)
