use Rattle.std.proofs.Common.{◌≡◌, ℕ, ◌+◌, ◌<◌, List, length, get_or, set, refl, sym, ◌∙◌, subst, arith}
use Rattle.std.proofs.lemmas.List.{set-get_or}
use Rattle.vs_rows.specs.declared.document.Shape.{Shape}
use Rattle.vs_rows.specs.declared.document.Shape.TheVariants as shape
use Rattle.vs_resume.specs.Outlines.{with_numbers}
use Rattle.vs_resume.proofs.trees.RowSteps.{AreNumbered, left_leaf, left_split, numbered_leaf}
use Rattle.vs_resume.proofs.rows.number_leaves.Goals as goal
use Rattle.vs_resume.proofs.rows.number_leaves.Goals.{in-Leaf+then-k-numbers, in-Leaf+else-k-numbers, in_default}

-- what stands past the end of the rows
abbrev no_row : Shape
no_row = shape.Split (record { 0 = 0 }) (record { 0 = 0 })

-- the same in other words
renamed : (all : List Shape) (numbers : List ℕ) (i : ℕ) (rows also : List Shape) (k m : ℕ) → also ≡ rows → m ≡ k
    → AreNumbered all numbers rows i k → AreNumbered all numbers also i m
renamed all numbers i rows also k m same number are =
    subst (λ (rs : List Shape). AreNumbered all numbers rs i m) (sym same)
    (subst (λ (n : ℕ). AreNumbered all numbers rows i n) (sym number) are)

pub loop-row-preserved : goal.loop-row-preserved
loop-row-preserved c =
    let numbers = c.args.numbers.now in
    let all = with_numbers c.args.rows.now numbers in
    let rows = c.loop-row.rows in
    let i = c.loop-row.row-index in
    let k = c.loop-row.k in
    let so_far = c.loop-row.invariant.numbered in
    let inside : i < length rows = omega arith in
    elim c.match-row.branch [
      | in-Leaf+then-k-numbers w ↦ record {
        few = omega arith;
        numbered = renamed all numbers (i + 1) (set rows i (shape.Leaf (get_or numbers k 0))) c.match-row.rows (k + 1)
            c.match-row.k w.rows-is w.k-is
            (numbered_leaf all rows numbers i k (shape.Leaf w.in-Leaf.table) no_row inside w.in-Leaf.is so_far
            w.in-Leaf.table refl w.if-k-numbers.true);
      }
      | in-Leaf+else-k-numbers w ↦ record {
        few = omega arith;
        numbered = renamed all numbers (i + 1) rows c.match-row.rows k c.match-row.k
            (w.rows-is ∙ set-get_or rows i no_row) w.k-is
            (left_leaf all rows numbers i k (shape.Leaf w.in-Leaf.table) no_row inside w.in-Leaf.is so_far
            w.in-Leaf.table refl w.if-k-numbers.false);
      }
      | in_default w ↦ record {
        few = omega arith;
        numbered = renamed all numbers (i + 1) rows c.match-row.rows k c.match-row.k
            (w.rows-is ∙ set-get_or rows i no_row) w.k-is
            (left_split all rows numbers i k (get_or rows i no_row) no_row inside refl so_far w.in_default.not-Leaf);
      }
    ]
