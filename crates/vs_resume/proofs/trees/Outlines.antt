-- Rows apart from the tables that leaves name, with a part in the place of a leaf.
use Rattle.std.proofs.Common.{◌≡◌, ℕ, zero, suc, ◌+◌, ◌<◌, List, [], ◌∷◌, ◌++◌, map, take, drop, refl, sym, ap, ◌∙◌}
use Rattle.std.proofs.lemmas.List.{map-append}
use Rattle.vs_prices.specs.Tree.{Tree}
use Rattle.vs_rows.specs.Shapes.{preorder}
use Rattle.vs_rows.specs.declared.document.Shape.{Shape}
use Rattle.vs_rows.specs.declared.document.Shape.TheVariants as shape
use Rattle.vs_resume.specs.InPlace.{count_leaves, in_place, row_of_leaf, with_part}
use Rattle.vs_resume.specs.Outlines.{IsOutline, plain}
use Rattle.vs_resume.proofs.trees.InPlace.{leaf_rows, rows-with_part}

map-take : {A B : Type 0} (f : A → B) (k : ℕ) (xs : List A) → map f (take k xs) ≡ take k (map f xs)
map-take f zero xs = refl
map-take f (suc k) [] = refl
map-take {B = B} f (suc k) (x ∷ xs) = ap (λ (ys : List B). f x ∷ ys) (map-take f k xs)

map-drop : {A B : Type 0} (f : A → B) (k : ℕ) (xs : List A) → map f (drop k xs) ≡ drop k (map f xs)
map-drop f zero xs = refl
map-drop f (suc k) [] = refl
map-drop f (suc k) (x ∷ xs) = map-drop f k xs

map-in_place : {A B : Type 0} (f : A → B) (xs zs : List A) (k : ℕ)
    → map f (in_place xs k zs) ≡ in_place (map f xs) k (map f zs)
map-in_place {B = B} f xs zs k =
    map-append f (take k xs) (zs ++ drop (k + 1) xs)
    ∙ ap (λ (ys : List B). map f (take k xs) ++ ys) (map-append f zs (drop (k + 1) xs))
    ∙ ap (λ (ys : List B). ys ++ (map f zs ++ map f (drop (k + 1) xs))) (map-take f k xs)
    ∙ ap (λ (ys : List B). take k (map f xs) ++ (map f zs ++ ys)) (map-drop f (k + 1) xs)

-- a leaf stands at the same row
row-plain : (rows : List Shape) (k : ℕ) → row_of_leaf (map plain rows) k ≡ row_of_leaf rows k
row-plain [] k = refl
row-plain (shape.Leaf table ∷ rows) zero = refl
row-plain (shape.Leaf table ∷ rows) (suc k) = ap suc (row-plain rows k)
row-plain (shape.Split trip left ∷ rows) k = ap suc (row-plain rows k)

pub leaf_rows-plain : (rows : List Shape) → leaf_rows (map plain rows) ≡ leaf_rows rows
leaf_rows-plain [] = refl
leaf_rows-plain (shape.Leaf table ∷ rows) = ap (λ (n : ℕ). n + 1) (leaf_rows-plain rows)
leaf_rows-plain (shape.Split trip left ∷ rows) = leaf_rows-plain rows

pub outline-with_part : (rows others : List Shape) (tree part : Tree) (k : ℕ) → k < count_leaves tree
    → IsOutline rows tree → IsOutline others part
    → IsOutline (in_place rows (row_of_leaf rows k) others) (with_part tree k part)
outline-with_part rows others tree part k below outline other =
    let row : row_of_leaf rows k ≡ row_of_leaf (preorder tree) k =
    sym (row-plain rows k) ∙ ap (λ (rs : List Shape). row_of_leaf rs k) outline ∙ row-plain (preorder tree) k in
    map-in_place plain rows others (row_of_leaf rows k)
    ∙ ap (λ (rs : List Shape). in_place rs (row_of_leaf rows k) (map plain others)) outline
    ∙ ap (λ (rs : List Shape). in_place (map plain (preorder tree)) (row_of_leaf rows k) rs) other
    ∙ ap (λ (n : ℕ). in_place (map plain (preorder tree)) n (map plain (preorder part))) row
    ∙ sym (map-in_place plain (preorder tree) (preorder part) (row_of_leaf (preorder tree) k))
    ∙ ap (map plain) (sym (rows-with_part part tree k below))
