use Rattle.vs_resume.specs.Order.{IsFirstLeast, worths_in}
use Rattle.vs_resume.proofs.order.first_least.Given as goal

abbrev pub invariant-loop-k : goal.invariant-loop-k
invariant-loop-k l = IsFirstLeast (worths_in l.cases) l.k l.best
