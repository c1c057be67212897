use Rattle.std.proofs.Common.{ap, ◌∙◌, List}
use Rattle.vs_types.specs.declared.layer_set.LayerSet.{LayerSet}
use Rattle.vs_instance.specs.Firsts.{first}
use Rattle.vs_prices.specs.declared.bound.Bound.{Bound}
use Rattle.vs_prices.specs.Worth.{worth_of}
use Rattle.vs_prices.proofs.CallerLemmas.{worth_is}
use Rattle.vs_peakcheck.specs.Flaws.{weakness}
use Rattle.vs_peakcheck.proofs.checking.weak_flaw.Goals as goal

pub returns : goal.returns
returns c =
    let q = c.args.counted.now in
    let table = c.args.table.now in
    let is = worth_is q c.deref.result.now table c.worth-worth.result c.worth-worth.ensures.worth in
    c.weakness.ensures
    ∙ ap (λ (b : Bound). first (weakness b c.args.count)) is
    ∙ ap (λ (sets : List LayerSet). first (weakness (worth_of q sets table) c.args.count))
    (c.deref.ensures.value ∙ c.in_ok-sets.ensures.sets)
