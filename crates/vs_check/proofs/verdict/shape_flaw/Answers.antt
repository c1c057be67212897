use Rattle.std.proofs.Common.{◌+◌, ◌<◌, ◌≤◌, List, length, drop, sym, ap, subst, arith}
use Rattle.std.specs.List.{All}
use Rattle.vs_instance.specs.Firsts.{first}
use Rattle.vs_rows.specs.Shapes.{IsShapeOf}
use Rattle.vs_rows.specs.declared.document.Shape.{Shape}
use Rattle.vs_check.specs.Flaws.{shape_flaws}
use Rattle.vs_check.proofs.Parts.{Follows, IsBefore, none_left, root_before, row_follows, walk_restricts}
use Rattle.vs_check.proofs.verdict.shape_flaw.Goals as goal

pub loop-position-init : goal.loop-position-init
loop-position-init c =
    let tree = c.requires.read.tree in
    root_before c.args.instance.now c.args.document.now c.requires.instance tree.tree tree.rows_are c.in_ok-walk.walk
    c.in_ok-walk.ensures.sets c.in_ok-walk.ensures.ahead

pub row_flaw-requires-clause-restriction : goal.row_flaw-requires-clause-restriction
row_flaw-requires-clause-restriction c =
    let rows = c.args.document.now.shape.items in
    let inside : c.loop-position.position < length rows =
    omega (arith, ap length c.deref-row-items.ensures.value, c.loop-position-test.true) in
    walk_restricts c.args.instance.now c.args.document.now rows c.loop-position.position inside c.loop-position.walk _
    c.loop-position.invariant

pub returns-in-Some : goal.returns-in-Some
returns-in-Some c =
    let p = c.args.instance.now in
    let d = c.args.document.now in
    let rows = c.deref-row-items.result.now in
    let position = c.loop-position.position in
    let walk = c.loop-position.walk in
    let all = first (shape_flaws p d) in
    let rows_are = c.deref-row-items.ensures.value in
    let before = subst (λ (rs : List Shape). IsBefore p d (drop position rs) position walk all) (sym rows_are)
    c.loop-position.invariant in
    let named : All (IsShapeOf p (length d.tables.items)) rows =
    subst (All (IsShapeOf p (length d.tables.items))) (sym rows_are) c.requires.read.shapes in
    let follows = row_follows p d c.requires.instance rows position _ c.loop-position-test.true named walk
    c.row_flaw.new.walk all before c.in_ok-found.found c.in_ok-found.ensures in
    sym (subst (Follows p d (drop (position + 1) rows) (position + 1) c.row_flaw.new.walk all) c.in-Some.is follows)

pub loop-position-preserved : goal.loop-position-preserved
loop-position-preserved c =
    let p = c.args.instance.now in
    let d = c.args.document.now in
    let rows = c.deref-row-items.result.now in
    let position = c.loop-position.position in
    let walk = c.loop-position.walk in
    let all = first (shape_flaws p d) in
    let rows_are = c.deref-row-items.ensures.value in
    let before = subst (λ (rs : List Shape). IsBefore p d (drop position rs) position walk all) (sym rows_are)
    c.loop-position.invariant in
    let named : All (IsShapeOf p (length d.tables.items)) rows =
    subst (All (IsShapeOf p (length d.tables.items))) (sym rows_are) c.requires.read.shapes in
    let follows = row_follows p d c.requires.instance rows position _ c.loop-position-test.true named walk
    c.row_flaw.new.walk all before c.in_ok-found.found c.in_ok-found.ensures in
    subst (λ (rs : List Shape). IsBefore p d (drop (position + 1) rs) (position + 1) c.row_flaw.new.walk all) rows_are
    (subst (Follows p d (drop (position + 1) rows) (position + 1) c.row_flaw.new.walk all) c.in_default.is follows)

pub returns : goal.returns
returns c =
    let rows = c.args.document.now.shape.items in
    let past : length rows ≤ c.loop-position.position =
    omega (arith, ap length c.deref-row-items.ensures.value, c.loop-position-test.false) in
    none_left c.args.instance.now c.args.document.now rows c.loop-position.position past c.loop-position.walk _
    c.loop-position.invariant
