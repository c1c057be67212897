-- A tree is found again in its rows.
use Rattle.std.proofs.Common.{◌≡◌, List, [], ◌∷◌, ◌++◌, refl, sym, ap, ◌∙◌, append_assoc}
use Rattle.std.specs.List.{flat_map}
use Rattle.std.proofs.lemmas.List.{append-nil}
use Rattle.vs_instance.specs.Problem.{Problem}
use Rattle.vs_instance.specs.Restriction.{permitted_sets}
use Rattle.vs_prices.specs.Tree.{Tree, Leaf, Split}
use Rattle.vs_rows.specs.Shapes.{preorder}
use Rattle.vs_rows.specs.declared.document.Document.{Document}
use Rattle.vs_rows.specs.declared.document.Shape.{Shape}
use Rattle.vs_check.specs.Flaws.{shape_flaws, tree_flaws}
use Rattle.vs_check.specs.Trees.{joined, trees_of}

trees_of-preorder : (tree : Tree) (rows : List Shape) → trees_of (preorder tree ++ rows) ≡ tree ∷ trees_of rows
trees_of-preorder (Leaf table) rows = refl
trees_of-preorder (Split trip left lower upper) rows =
    ap (λ (rs : List Shape). joined trip left (trees_of rs)) (append_assoc (preorder lower) (preorder upper) rows)
    ∙ ap (joined trip left) (trees_of-preorder lower (preorder upper ++ rows)
    ∙ ap (λ (ts : List Tree). lower ∷ ts) (trees_of-preorder upper rows))

-- the rows of one tree are those of no other
pub one_tree : (rows : List Shape) (tree : Tree) → rows ≡ preorder tree → trees_of rows ≡ tree ∷ []
one_tree rows tree is =
    ap trees_of is ∙ ap trees_of (sym (append-nil (preorder tree))) ∙ trees_of-preorder tree []

-- so a shape's flaws are those of its tree
pub flaws_of_tree : (p : Problem) (d : Document) (tree : Tree) → d.shape.items ≡ preorder tree
    → shape_flaws p d ≡ tree_flaws p d.tables.items d.bound 0 (permitted_sets p) tree
flaws_of_tree p d tree is =
    ap (flat_map (tree_flaws p d.tables.items d.bound 0 (permitted_sets p))) (one_tree d.shape.items tree is)
    ∙ append-nil (tree_flaws p d.tables.items d.bound 0 (permitted_sets p) tree)
