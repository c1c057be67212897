use Rattle.std.proofs.Common.{◌≡◌, arith, get_or}
use Rattle.vs_rows.proofs.words.Numbers.{no_number_from_zero, no_number_behind_minus}
use Rattle.vs_rows.proofs.numbers.signed.Goals as goal

pub returns-in_default-natural-clause-none : goal.returns-in_default-natural-clause-none
returns-in_default-natural-clause-none c =
    let first : get_or c.args.field.now 0 0 ≡ 45 = omega arith in
    no_number_from_zero c.args.field.now c.in-Some.n first c.if-n-gt0.false c.in-Some.ensures.found.1

pub returns-in-None-clause-none : goal.returns-in-None-clause-none
returns-in-None-clause-none c =
    let first : get_or c.args.field.now 0 0 ≡ 45 = omega arith in
    no_number_behind_minus c.args.field.now first (λ n some few. c.in-None.ensures.none n few)
