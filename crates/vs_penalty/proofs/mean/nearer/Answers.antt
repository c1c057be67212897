use Rattle.std.proofs.Common.{◌≡◌, arith, ℤ, pos, ◌-ℤ◌, ◌<ℤ◌, FitsSigned, to_z, of_z, w64}
use Rattle.std.proofs.lemmas.Int.{ints, clamps, to_z-of_z, quot_is, quot_fits}
use Rattle.vs_penalty.proofs.Quotients.{quotient_between, quotient_whole}
use Rattle.vs_penalty.proofs.mean.nearer.Goals as goal

pub returns-clause-between : goal.returns-clause-between
returns-clause-between c =
    let first = c.requires.mean in
    let last = c.requires.newest in
    let start = to_z-of_z w64 c.args.mean c.ranges.mean in
    let end = to_z-of_z w64 c.args.newest c.ranges.newest in
    let way : ℤ = to_z w64 (of_z w64 c.args.newest) -ℤ to_z w64 (of_z w64 c.args.mean) in
    let part : ℤ = c.from.result in
    let way_fits : FitsSigned w64 way = omega (arith, ints, start, end, first.0, first.1, last.0, last.1) in
    let part_fits : FitsSigned w64 part = omega (arith, ints, c.from.ensures, c.ranges.part) in
    let above : pos 0 <ℤ part = omega (arith, ints, c.from.ensures, c.requires.part) in
    let step = quot_is w64 way part way_fits part_fits (quot_fits w64 way part way_fits above) in
    let near = quotient_between way part above in (
      omega (arith, ints, clamps, start, end, step, near.0, near.1, first.0, first.1, last.0, last.1),
      omega (arith, ints, clamps, start, end, step, near.0, near.1, first.0, first.1, last.0, last.1),
    )

pub returns-clause-whole : goal.returns-clause-whole
returns-clause-whole c whole =
    let first = c.requires.mean in
    let last = c.requires.newest in
    let start = to_z-of_z w64 c.args.mean c.ranges.mean in
    let end = to_z-of_z w64 c.args.newest c.ranges.newest in
    let way : ℤ = to_z w64 (of_z w64 c.args.newest) -ℤ to_z w64 (of_z w64 c.args.mean) in
    let part : ℤ = c.from.result in
    let way_fits : FitsSigned w64 way = omega (arith, ints, start, end, first.0, first.1, last.0, last.1) in
    let one : part ≡ pos 1 = omega (arith, ints, c.from.ensures, whole) in
    let part_fits : FitsSigned w64 part = omega (arith, ints, one) in
    let above : pos 0 <ℤ part = omega (arith, ints, one) in
    let step = quot_is w64 way part way_fits part_fits (quot_fits w64 way part way_fits above) in
    let same = quotient_whole way part one in
    omega (arith, ints, start, end, step, same, first.0, first.1, last.0, last.1)
