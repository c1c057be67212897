use Rattle.std.proofs.Common.{◌≡◌, ◌≢◌, ◌∙◌, ◌+ℤ◌, ◌-ℤ◌, ℤ, SFits, ap, arith, of_z, pos, rules, set, to_z, w64}
use Rattle.std.proofs.lemmas.Int.{ints}
use Rattle.std.proofs.lemmas.List.{get_or-set_other}
use Rattle.vs_path.specs.Residual.{price_at}
use Rattle.vs_ship.proofs.draining.move_unit.Goals as goal

pub returns : goal.returns
returns c =
    let s = c.args.surplus.now in
    let from = c.args.source in
    let to = c.args.goal in
    let fits : SFits w64 (price_at s from) = search rules in
    let less : to_z w64 (of_z w64 (to_z w64 (of_z w64 (price_at s from)) -ℤ pos 1)) ≡ price_at s from -ℤ pos 1 =
    omega (arith, ints, fits) in
    let left = set s from (price_at s from -ℤ pos 1) in
    let apart : to ≢ from = λ is. absurd (omega (arith, ints, ap (price_at s) is, c.requires.some, c.requires.lacks)) in
    let here = get_or-set_other s from to (price_at s from -ℤ pos 1) (pos 0) apart in
    let lacks : SFits w64 (price_at s to) = search rules in
    let more : to_z w64 (of_z w64 (to_z w64 (of_z w64 (price_at left to)) +ℤ pos 1)) ≡ price_at left to +ℤ pos 1 =
    omega (arith, ints, lacks, here, c.requires.lacks) in
    ap (λ (z : ℤ).
    let now = set s from z in set now to (to_z w64 (of_z w64 (to_z w64 (of_z w64 (price_at now to)) +ℤ pos 1)))) less
    ∙ ap (set left to) more
