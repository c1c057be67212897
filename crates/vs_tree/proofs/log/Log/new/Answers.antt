use Rattle.std.proofs.Common.{◌∙◌, ap, map, List, ◌∷◌, [], ◌++◌}
use Rattle.vs_prices.specs.declared.table.Table.{Table}
use Rattle.vs_tree.specs.Prices.{Prices, prices_of}
use Rattle.vs_tree.proofs.LogSteps.{zeros-are}
use Rattle.vs_tree.proofs.log.Log.new.Goals as goal

pub returns-clause-tables : goal.returns-clause-tables
returns-clause-tables c =
    let zero = c.in_ok-zero.zero in
    let is = zeros-are c.args.instance.now zero c.in_ok-zero.ensures.fits c.in_ok-zero.ensures.zero
    c.in_ok-zero.ensures.costs in
    ap (λ (x : List Table). map prices_of x)
    (c.in_ok-push.ensures.items ∙ ap (λ (x : List Table). x ++ zero ∷ []) c.in_ok-tables.ensures.items)
    ∙ ap (λ (x : Prices). x ∷ []) is
