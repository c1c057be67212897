use Rattle.std.proofs.Common.{◌≡◌, Option, Some, length, refl, sym, ap, ◌∙◌}
use Rattle.std.specs.List.{slice_get}
use Rattle.std.proofs.lemmas.Option.{slice_get_read}
use Rattle.vs_instance.specs.Firsts.{first}
use Rattle.vs_prices.specs.declared.bound.Bound.{Bound}
use Rattle.vs_prices.specs.declared.table.Table.{Table}
use Rattle.vs_prices.proofs.CallerLemmas.{worth_is}
use Rattle.vs_check.specs.Flaws.{leaf_flaws, named_flaws}
use Rattle.vs_check.proofs.verdict.leaf_flaw.Goals as goal

pub returns : goal.returns
returns c =
    let p = c.args.instance.now in
    let d = c.args.document.now in
    let tables = d.tables.items in
    let sets = c.args.sets.now in
    let table = c.index.result.now in
    let named : slice_get tables c.args.table ≡ Some table =
    slice_get_read tables (length tables) c.args.table table refl c.requires.named c.index.ensures in
    c.weak_flaw.ensures
    ∙ ap (λ (b : Bound). first (leaf_flaws c.args.position b d.bound))
    (worth_is p sets table c.worth-worth.result c.worth-worth.ensures.worth)
    ∙ sym (ap (λ (t : Option Table). first (named_flaws p d.bound c.args.position sets t)) named)
