use Rattle.std.proofs.Common.{◌∙◌, inr, refl, sym}
use Rattle.vs_multi.proofs.best.keep_better.Goals as goal

pub returns : goal.returns
returns c =
    inr (
      λ more. let now = sym c.if-is_no_less.false ∙ c.is_no_less.ensures.1 more in absurd cc,
      refl,
      c.swap.ensures.x_after,
      c.swap.ensures.y_after,
    )
