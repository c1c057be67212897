use Rattle.std.proofs.Common.{◌+◌, ◌<◌, length, sym, subst, arith, rules}
use Rattle.vs_resume.specs.Order.{IsFirstLeast, worths_in}
use Rattle.vs_resume.proofs.worths.LeastWorths.{lesser_leaf, other_leaf}
use Rattle.vs_resume.proofs.order.first_least.Goals as goal
use Rattle.vs_resume.proofs.order.first_least.Goals.{then-not-is_no_less, else-not-is_no_less}

pub loop-k-preserved : goal.loop-k-preserved
loop-k-preserved c =
    let cases = c.args.cases.now in
    let k = c.loop-k.k in
    let best = c.loop-k.best in
    let x = c.index-cases-k.result in
    let y = c.index-cases-best.result in
    let inside : k < length cases = omega arith in
    let also : best < length cases = let low = c.loop-k.invariant.within in omega (arith, low, inside) in
    elim c.if-not-is_no_less.branch [
      | then-not-is_no_less w ↦
          subst (IsFirstLeast (worths_in cases) (k + 1)) (sym w.best-is)
          (lesser_leaf cases k best x y inside also c.index-cases-k.is c.index-cases-best.is c.loop-k.invariant
          (λ no_less. search rules))
      | else-not-is_no_less w ↦
          subst (IsFirstLeast (worths_in cases) (k + 1)) (sym w.best-is)
          (other_leaf cases k best x y inside also c.index-cases-k.is c.index-cases-best.is c.loop-k.invariant
          (search rules))
    ]
