-- A part of a tree of cases in the place of one of its leaves.
use Rattle.std.specs.Prelude.{ℕ, zero, suc, ◌+◌, ◌-◌, nat_lt, if◌then◌else◌, List, [], ◌∷◌, ◌++◌, take, drop}
use Rattle.vs_prices.specs.Tree.{Leaf, Split, Tree}
use Rattle.vs_rows.specs.declared.document.Shape.{Shape}
use Rattle.vs_rows.specs.declared.document.Shape.TheVariants as shape

-- how many leaves a tree has
abbrev pub count_leaves : Tree → ℕ
count_leaves (Leaf table) = 1
count_leaves (Split trip left lower upper) = count_leaves lower + count_leaves upper

-- the tree in which this part stands in the place of leaf k, counted from 0 and from left to right
abbrev pub with_part : Tree → ℕ → Tree → Tree
with_part (Leaf table) k part = part
with_part (Split trip left lower upper) k part =
    if nat_lt k (count_leaves lower) then Split trip left (with_part lower k part) upper
    else Split trip left lower (with_part upper (k - count_leaves lower) part)

-- the place of leaf k among the rows of a tree
abbrev pub row_of_leaf : List Shape → ℕ → ℕ
row_of_leaf [] k = 0
row_of_leaf (shape.Leaf table ∷ rows) zero = 0
row_of_leaf (shape.Leaf table ∷ rows) (suc k) = suc (row_of_leaf rows k)
row_of_leaf (shape.Split trip left ∷ rows) k = suc (row_of_leaf rows k)

-- other items in the place of item k
abbrev pub in_place : {A : Type 0} → List A → ℕ → List A → List A
in_place items k others = take k items ++ (others ++ drop (k + 1) items)
