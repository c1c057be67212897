use Rattle.std.proofs.Common.{◌≡◌, ◌+◌, ◌<◌, List, [], length, get_or, map, reverse, drop, refl, sym, ap, ◌∙◌, subst, arith, Vec, Global}
use Rattle.std.proofs.lemmas.List.{drop_all, drop_more, nil_from_length}
use Rattle.vs_types.specs.declared.layer_set.LayerSet.{LayerSet}
use Rattle.vs_prices.specs.Tree.{Tree, leaves}
use Rattle.vs_rows.specs.declared.document.Shape.{Shape}
use Rattle.vs_rows.specs.declared.document.Shape.TheVariants as shape
use Rattle.vs_rows.proofs.CallerLemmas.{tree_once}
use Rattle.vs_resume.specs.declared.cases.Walk.{Walk}
use Rattle.vs_resume.specs.Cases.{AreCasesOf, sets_ahead}
use Rattle.vs_resume.proofs.trees.RowWalks.{IsOnWalk, at_end, at_root, behind_row, next_comes, next_taken, taken_off}
use Rattle.vs_resume.proofs.cases.cases_of.Goals as goal

-- what stands past the end of the rows
abbrev no_row : Shape
no_row = shape.Split (record { 0 = 0 }) (record { 0 = 0 })

pub loop-row-init : goal.loop-row-init
loop-row-init c =
    let of_tree = c.requires.rows in
    record {
      tree = of_tree.tree;
      rows_are = of_tree.rows_are;
      on_walk = at_root c.args.instance.now c.args.tables.now c.args.sets.items of_tree.tree c.args.rows.now
          c.in_ok-walk.walk of_tree.rows_are
          (record { restricts = c.requires.sets; good = of_tree.good; named = of_tree.named })
          c.in_ok-walk.ensures.ahead c.in_ok-walk.ensures.cases;
    }

pub unreachable-requires : goal.unreachable-requires
unreachable-requires c =
    let rows = c.args.rows.now in
    let walk = c.loop-row.walk in
    let i = c.loop-row.row-index in
    let inside : i < length rows = c.loop-row-test.true in
    let tree = c.loop-row.invariant.tree in
    let on = subst (λ (rest : List Shape).
    IsOnWalk c.args.instance.now c.args.tables.now c.args.sets.items tree rest walk)
    (drop_more rows i no_row inside) c.loop-row.invariant.on_walk in
    let next = next_comes c.args.instance.now c.args.tables.now c.args.sets.items tree (get_or rows i no_row)
    (drop (i + 1) rows) walk on in
    let none : length walk.ahead.items ≡ 0 =
    omega (arith, c.in_default.ensures.cases.0, walk.ahead.ok.0) in
    let nothing : sets_ahead walk ≡ [] =
    ap (λ (sets : List (Vec LayerSet Global)). reverse (map (λ (s : Vec LayerSet Global). s.items) sets))
    (nil_from_length walk.ahead.items none) in
    let some = next.ahead_are in
    cc

pub go_over-requires-clause-here : goal.go_over-requires-clause-here
go_over-requires-clause-here c =
    let rows = c.args.rows.now in
    let walk = c.loop-row.walk in
    let i = c.loop-row.row-index in
    let tree = c.loop-row.invariant.tree in
    let on = subst (λ (rest : List Shape).
    IsOnWalk c.args.instance.now c.args.tables.now c.args.sets.items tree rest walk)
    (drop_more rows i no_row c.loop-row-test.true) c.loop-row.invariant.on_walk in
    (next_taken c.args.instance.now c.args.tables.now c.args.sets.items tree (get_or rows i no_row)
    (drop (i + 1) rows) walk on c.pop.new.self.items c.in-Some.here c.in-Some.ensures.items).restricts

pub go_over-requires-clause-row : goal.go_over-requires-clause-row
go_over-requires-clause-row c =
    let rows = c.args.rows.now in
    let walk = c.loop-row.walk in
    let i = c.loop-row.row-index in
    let tree = c.loop-row.invariant.tree in
    let on = subst (λ (rest : List Shape).
    IsOnWalk c.args.instance.now c.args.tables.now c.args.sets.items tree rest walk)
    (drop_more rows i no_row c.loop-row-test.true) c.loop-row.invariant.on_walk in
    (next_taken c.args.instance.now c.args.tables.now c.args.sets.items tree (get_or rows i no_row)
    (drop (i + 1) rows) walk on c.pop.new.self.items c.in-Some.here c.in-Some.ensures.items).can

pub loop-row-preserved : goal.loop-row-preserved
loop-row-preserved c =
    let rows = c.args.rows.now in
    let walk = c.loop-row.walk in
    let i = c.loop-row.row-index in
    let tree = c.loop-row.invariant.tree in
    let on = subst (λ (rest : List Shape).
    IsOnWalk c.args.instance.now c.args.tables.now c.args.sets.items tree rest walk)
    (drop_more rows i no_row c.loop-row-test.true) c.loop-row.invariant.on_walk in
    let mid : Walk = record { ahead = c.pop.new.self; cases = walk.cases } in
    record {
      tree = tree;
      rows_are = c.loop-row.invariant.rows_are;
      on_walk = behind_row c.args.instance.now c.args.tables.now c.args.sets.items tree (get_or rows i no_row)
          (drop (i + 1) rows) c.in-Some.here.items (sets_ahead mid) walk mid c.go_over.new.walk on
          (taken_off walk.ahead.items c.pop.new.self.items c.in-Some.here c.in-Some.ensures.items) refl refl
          c.in_ok-go_over.ensures;
    }

pub returns : goal.returns
returns c = λ tree rows_are.
    let rows = c.args.rows.now in
    let walk = c.loop-row.walk in
    let i = c.loop-row.row-index in
    let over = c.loop-row.invariant in
    let on = subst (λ (rest : List Shape).
    IsOnWalk c.args.instance.now c.args.tables.now c.args.sets.items over.tree rest walk)
    (drop_all i rows c.loop-row-test.false) over.on_walk in
    subst (λ (t : Tree). AreCasesOf c.args.instance.now c.args.tables.now (leaves c.args.sets.items t) walk.cases.items)
    (tree_once over.tree tree (sym over.rows_are ∙ rows_are))
    (at_end c.args.instance.now c.args.tables.now c.args.sets.items over.tree walk on)
