use Rattle.std.proofs.Common.{◌≡◌, sym, ◌∙◌, arith}
use Rattle.std.proofs.lemmas.Int.{ints}
use Rattle.vs_rows.specs.DocumentRows.{IsWithin}
use Rattle.vs_rows.specs.declared.limits.TheConstants.{MAX_BOUND}
use Rattle.vs_rows.proofs.words.Numbers.{same_signed}
use Rattle.vs_rows.proofs.numbers.between.Goals as goal
use Rattle.vs_rows.proofs.numbers.between.Goals.{then-z-low-via-then-z-low, then-z-low-via-else-z-low+then-z-high}

pub returns-then-z-low-clause-none : goal.returns-then-z-low-clause-none
returns-then-z-low-clause-none c = λ z range e.
    let found = c.in_ok-z.ensures.found in
    let wide : IsWithin MAX_BOUND z =
    (omega (arith, ints, range.0), omega (arith, ints, range.1)) in
    let same : z ≡ c.in_ok-z.z = same_signed z c.in_ok-z.z wide found.1 (sym e ∙ found.0) in
    elim c.then-z-low.branch [
      | then-z-low-via-then-z-low w ↦ let low = w.if-z-low.true in grind (arith, ints, range.0)
      | then-z-low-via-else-z-low+then-z-high w ↦ let high = w.if-z-high.true in grind (arith, ints, range.1)
    ]
