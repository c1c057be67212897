use Rattle.std.proofs.Common.{◌^◌, ◌<◌, rules}
use Rattle.vs_types.proofs.CallerLemmas.{Has-below, members-some}
use Rattle.vs_walk.proofs.scope.narrowed.Goals as goal

pub returns-in-Some-clause-some : goal.returns-in-Some-clause-some
returns-in-Some-clause-some c =
    members-some c.minus-common.result c.in-Some._lowest.0 c.in-Some.ensures.named c.in-Some.ensures.least.0

pub returns-in-Some-clause-part : goal.returns-in-Some-clause-part
returns-in-Some-clause-part c l has =
    let common = c.minus-common.result in
    let fits : common.0 < 2 ^ 16 = search (rules, c.well_formed) in
    ((c.minus-common.ensures.layers l (Has-below common l fits has)).0 has).0
