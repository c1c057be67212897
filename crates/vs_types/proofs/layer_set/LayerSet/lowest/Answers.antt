use Rattle.std.proofs.Common.{◌<◌, arith, rules}
use Rattle.vs_types.proofs.Members.{members-empty, IsLowest-trailing_zeros}
use Rattle.vs_types.proofs.layer_set.LayerSet.lowest.Goals as goal

pub returns-then-self-eq0 : goal.returns-then-self-eq0
returns-then-self-eq0 c = record { least = members-empty c.args.self c.if-self-eq0.true; named = tt }

pub returns-else-self-eq0 : goal.returns-else-self-eq0
returns-else-self-eq0 c =
    let some : 0 < c.args.self.0 = omega arith in
    let first = IsLowest-trailing_zeros c.args.self.0 some (search rules) in
    record { least = (first.1, first.2); named = first.0 }
