use Rattle.std.proofs.Common.{◌≡◌, ℕ, arith, subst}
use Rattle.vs_document.specs.Places.{InTree}
use Rattle.vs_document.specs.Reading.{IsRefusedAt}
use Rattle.vs_rows.proofs.CallerLemmas.{err_passes}
use Rattle.vs_document.proofs.parts.TreeReading.{TreeSoFar, tree_none, tree_more, tree_done, tree_refused, tree_ends_early}
use Rattle.vs_document.proofs.reading.tree.read_tree.Goals as goal
use Rattle.vs_document.proofs.reading.tree.read_tree.Goals.{in-Split, in-Leaf}

pub loop-row-init : goal.loop-row-init
loop-row-init c = rw c.new-shape.ensures.items (tree_none c.args.input.now c.args.at c.args.tables c.requires.row)

pub returns-then-parts-eq0-clause-found : goal.returns-then-parts-eq0-clause-found
returns-then-parts-eq0-clause-found c =
    tree_done c.args.input.now c.args.at c.args.tables c.loop-row.row c.loop-row.parts c.loop-row.shape.items
    c.loop-row.invariant c.if-parts-eq0.true

pub returns-in_err-part-clause-refused : goal.returns-in_err-part-clause-refused
returns-in_err-part-clause-refused c =
    err_passes _ (IsRefusedAt c.args.input.now c.args.at (InTree c.args.tables 1))
    c.from_residual.ensures.1
    (tree_refused c.args.input.now c.args.at c.args.tables c.loop-row.row c.loop-row.parts c.loop-row.shape.items
    _ c.loop-row.invariant c.if-parts-eq0.false c.in_err-part.ensures.refused)

pub loop-row-preserved : goal.loop-row-preserved
loop-row-preserved c =
    rw c.in_ok-push.ensures.items
    (tree_more c.args.input.now c.args.at c.args.tables c.loop-row.row c.loop-row.parts c.match-part.parts
    c.loop-row.shape.items c.in_ok-part.part c.loop-row.invariant c.if-parts-eq0.false c.in_ok-part.ensures.found
    (elim c.match-part.branch [
      | in-Split w ↦ rw w.in-Split.is (omega (arith, w.parts-is, c.if-parts-eq0.false))
      | in-Leaf w ↦ rw w.in-Leaf.is w.parts-is
    ]))

pub returns-then-parts-gt0-clause-refused : goal.returns-then-parts-gt0-clause-refused
returns-then-parts-gt0-clause-refused c =
    rw c.refusal.ensures
    (tree_ends_early c.args.input.now c.args.at c.args.tables c.loop-row.row c.len-end.result c.loop-row.parts
    c.loop-row.shape.items c.loop-row.invariant c.if-parts-gt0.true
    (omega (
      arith,
      c.loop-row-test.false,
      c.len-end.ensures,
      c.len-row-end.ensures,
      c.loop-row.invariant.reads.say.within,
    ))
    c.len-end.ensures)

pub returns-clause-found : goal.returns-clause-found
returns-clause-found c =
    let at_len : c.loop-row.row ≡ c.len-end.result =
    omega (
      arith,
      c.loop-row-test.false,
      c.len-end.ensures,
      c.len-row-end.ensures,
      c.loop-row.invariant.reads.say.within,
    ) in
    let P : ℕ → Type 0 = λ n. TreeSoFar c.args.input.now c.args.at c.args.tables n c.loop-row.parts
    c.loop-row.shape.items in
    tree_done c.args.input.now c.args.at c.args.tables c.len-end.result c.loop-row.parts c.loop-row.shape.items
    (subst P at_len c.loop-row.invariant) (omega arith)
