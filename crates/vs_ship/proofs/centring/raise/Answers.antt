use Rattle.std.proofs.Common.{inl, inr, arith}
use Rattle.std.proofs.lemmas.Int.{ints}
use Rattle.vs_path.proofs.CallerLemmas.{steps-few}
use Rattle.vs_ship.proofs.centring.raise.Goals as goal

pub returns-clause-raised : goal.returns-clause-raised
returns-clause-raised c =
    let raised = c.raise.ensures.raised in
    let nodes = c.args.residual.now.graph.nodes in
    let path = steps-few nodes nodes (omega arith) in
    let source = c.requires.within c.args.source in
    record {
      each_node = omega (arith, c.requires.small.each_node);
      rose = raised.rose;
      within = λ v.
          let here = c.requires.within v in
          let rose = raised.rose v in
          let most = raised.no_further v in
          elim raised.not_far [
            | inl same ↦ record {
              low = omega (arith, ints, here.low, rose);
              high = omega (arith, ints, here.high, most, same);
            }
            | inr far ↦
                let at = c.requires.within far.0 in
                record {
                  low = omega (arith, ints, here.low, rose);
                  high = omega (arith, ints, here.high, most, far.2, at.low, source.high, path);
                }
          ];
      sign_rule = c.raise.ensures.sign_rule;
    }
