use Rattle.std.proofs.Common.{◌≡◌, ◌↔◌, Bool, IsTrue, nat_lt, sym, subst, rules}
use Rattle.vs_types.specs.Parts.{IsProperPart, is_proper_part}
use Rattle.vs_types.proofs.ProperParts.{proper_decided}
use Rattle.vs_types.proofs.layer_set.LayerSet.is_proper_part.Goals as goal

pub returns-then-count-eq0-clause-part : goal.returns-then-count-eq0-clause-part
returns-then-count-eq0-clause-part c =
    let is : nat_lt 0 c.count-then-count-eq0.result ≡ is_proper_part c.args.self c.args.whole = search rules in
    subst (λ (b : Bool). IsTrue b ↔ IsProperPart c.args.self c.args.whole) (sym is)
    (proper_decided c.args.self c.args.whole (search rules))

pub returns-else-count-eq0-clause-part : goal.returns-else-count-eq0-clause-part
returns-else-count-eq0-clause-part c =
    let is : c.if-count-gt0.value ≡ is_proper_part c.args.self c.args.whole = search rules in
    subst (λ (b : Bool). IsTrue b ↔ IsProperPart c.args.self c.args.whole) (sym is)
    (proper_decided c.args.self c.args.whole (search rules))
