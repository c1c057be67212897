use Rattle.std.proofs.Common.{arith}
use Rattle.std.proofs.lemmas.Int.{ints, clamps}
use Rattle.vs_circ.specs.PricedFlows.{end_node}
use Rattle.vs_circ.proofs.price_tables.table_of.Goals as goal

pub returns : goal.returns
returns c =
    let first = c.requires.within 0 in
    let last = c.requires.within (end_node c.args.net.now) in
    record {
      vehicle = omega (arith, ints, clamps, first.low, first.high, last.low, last.high, c.base_of-base.ensures);
      into = c.in_ok-into.ensures;
      from = c.in_ok-from.ensures;
    }
