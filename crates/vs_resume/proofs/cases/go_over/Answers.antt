use Rattle.std.proofs.Common.{◌<◌, List, length, refl, sym, subst}
use Rattle.std.proofs.lemmas.Option.{slice_get_read}
use Rattle.vs_types.specs.declared.layer_set.LayerSet.{LayerSet}
use Rattle.vs_prices.specs.Worth.{IsWorth}
use Rattle.vs_rows.specs.declared.document.Shape.{Shape}
use Rattle.vs_resume.specs.declared.cases.Walk.{Walk}
use Rattle.vs_resume.specs.Cases.{CanGoOver, GoesOver}
use Rattle.vs_resume.proofs.cases.go_over.Goals as goal

pub returns-in_ok-push-in-Leaf : goal.returns-in_ok-push-in-Leaf
returns-in_ok-push-in-Leaf c =
    let p = c.args.instance.now in
    let tables = c.args.tables.now in
    let here = c.args.here.items in
    let n = c.in-Leaf.table in
    let table = c.index-tables-table.result in
    let inside : n < length tables = subst (CanGoOver (length tables) here) c.in-Leaf.is c.requires.row in
    let new : Walk = record { ahead = c.args.walk.now.ahead; cases = c.push.new.self } in
    subst (λ (row : Shape). GoesOver p tables row here c.args.walk.now new) (sym c.in-Leaf.is) (record {
      ahead = refl;
      found = record { sets = c.args.here; table = n; worth = c.worth-worth.result };
      is_case = record {
        sets = refl;
        number = refl;
        table = table;
        named = slice_get_read tables (length tables) n table refl inside c.index-tables-table.is;
        worth = subst (λ (sets : List LayerSet). IsWorth p sets table c.worth-worth.result) c.deref.ensures.value
            c.worth-worth.ensures.worth;
      };
      cases = c.in_ok-push-in-Leaf.ensures.items;
    })
