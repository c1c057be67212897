-- The rows of one tree are those of no other.
use Rattle.std.proofs.Common.{◌≡◌, List, [], ◌++◌, sym, ◌∙◌, append_assoc}
use Rattle.std.proofs.lemmas.List.{append-nil}
use Rattle.vs_prices.specs.Tree.{Leaf, Split, Tree}
use Rattle.vs_rows.specs.declared.document.Shape.{Shape}
use Rattle.vs_rows.specs.declared.document.Shape.TheVariants as shape
use Rattle.vs_rows.specs.Shapes.{preorder}

-- one tree, and the same rows behind it
pub record IsSameTree (t u : Tree) (xs ys : List Shape) : Type 0 where
  pub tree : t ≡ u
  pub behind : xs ≡ ys

pub same_tree : (t u : Tree) (xs ys : List Shape) → preorder t ++ xs ≡ preorder u ++ ys → IsSameTree t u xs ys
same_tree (Leaf n) (Leaf m) xs ys same = record { tree = cc; behind = cc }
same_tree (Leaf n) (Split trip left lower upper) xs ys same = absurd cc
same_tree (Split trip left lower upper) (Leaf m) xs ys same = absurd cc
same_tree (Split trip left lower upper) (Split also set first second) xs ys same =
    let row : shape.Split trip left ≡ shape.Split also set = cc in
    let rest : (preorder lower ++ preorder upper) ++ xs ≡ (preorder first ++ preorder second) ++ ys = cc in
    let below = same_tree lower first (preorder upper ++ xs) (preorder second ++ ys)
    (sym (append_assoc (preorder lower) (preorder upper) xs) ∙ rest
    ∙ append_assoc (preorder first) (preorder second) ys) in
    let above = same_tree upper second xs ys below.behind in
    record { tree = cc (row, below.tree, above.tree); behind = above.behind }

pub tree_once : (t u : Tree) → preorder t ≡ preorder u → t ≡ u
tree_once t u same =
    (same_tree t u [] [] (append-nil (preorder t) ∙ same ∙ sym (append-nil (preorder u)))).tree
