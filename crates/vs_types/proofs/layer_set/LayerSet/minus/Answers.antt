use Rattle.std.proofs.Common.{◌↔◌, sym, subst, rules}
use Rattle.vs_types.specs.LayerSet.{Has}
use Rattle.vs_types.specs.declared.layer_set.LayerSet.{LayerSet}
use Rattle.vs_types.proofs.Rests.{Has-rest, rest-is_and}
use Rattle.vs_types.proofs.layer_set.LayerSet.minus.Goals as goal

pub returns-clause-value : goal.returns-clause-value
returns-clause-value c = rest-is_and c.args.self c.args.other (search rules) (search rules)

pub returns-clause-layers : goal.returns-clause-layers
returns-clause-layers c =
    λ l layer. subst (λ (s : LayerSet). Has s l ↔ (Has c.args.self l × ¬ (Has c.args.other l)))
    (sym (returns-clause-value c)) (Has-rest c.args.self c.args.other l layer)
