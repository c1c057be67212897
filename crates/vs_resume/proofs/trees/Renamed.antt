-- The same tree whose leaves name other tables.
use Rattle.std.proofs.Common.{◌≡◌, ℕ, suc, ◌+◌, ◌≤◌, List, [], ◌∷◌, ◌++◌, length, map, take, drop, refl, sym, ap, ◌∙◌, subst, arith, length-append, Some, slice_get}
use Rattle.std.specs.List.{AllZip}
use Rattle.std.proofs.lemmas.List.{length-drop, length-take-le, map-append}
use Rattle.vs_types.specs.declared.layer_set.LayerSet.{LayerSet}
use Rattle.vs_prices.specs.Tree.{IsGoodTree, Leaf, LeafPlace, Split, Tree, leaves, right_of, splits, with_set}
use Rattle.vs_rows.specs.Shapes.{preorder}
use Rattle.vs_rows.specs.declared.document.Shape.{Shape}
use Rattle.vs_rows.specs.declared.document.Shape.TheVariants as shape
use Rattle.vs_cert.specs.StateDocument.{IsRenumbered, tables_named}
use Rattle.vs_resume.specs.InPlace.{count_leaves}
use Rattle.vs_resume.specs.Outlines.{plain, with_numbers}
use Rattle.vs_resume.proofs.trees.InPlace.{count-leaves, leaf_rows, leaf_rows-preorder}

-- the tree whose leaves name the tables of these numbers from left to right
abbrev pub renamed : Tree → List ℕ → Tree
renamed (Leaf table) [] = Leaf table
renamed (Leaf table) (n ∷ numbers) = Leaf n
renamed (Split trip left lower upper) numbers =
    Split trip left (renamed lower (take (count_leaves lower) numbers))
    (renamed upper (drop (count_leaves lower) numbers))

-- leaves that name the tables of these numbers
abbrev pub renumber : List LeafPlace → List ℕ → List LeafPlace
renumber [] numbers = []
renumber (leaf ∷ places) [] = leaf ∷ places
renumber (leaf ∷ places) (n ∷ numbers) = record { sets = leaf.sets; table = n } ∷ renumber places numbers

renumber-append : (xs ys : List LeafPlace) (numbers : List ℕ) → length xs ≤ length numbers
    → renumber (xs ++ ys) numbers ≡ renumber xs (take (length xs) numbers) ++ renumber ys (drop (length xs) numbers)
renumber-append [] ys numbers few = refl
renumber-append (leaf ∷ xs) ys [] few = absurd (omega (arith, few))
renumber-append (leaf ∷ xs) ys (n ∷ numbers) few =
    ap (λ (rest : List LeafPlace). record { sets = leaf.sets; table = n } ∷ rest)
    (renumber-append xs ys numbers (omega (arith, few)))

-- it has the same splits
pub splits-renamed : (tree : Tree) (numbers : List ℕ) → splits (renamed tree numbers) ≡ splits tree
splits-renamed (Leaf table) [] = refl
splits-renamed (Leaf table) (n ∷ numbers) = refl
splits-renamed (Split trip left lower upper) numbers =
    let below = splits-renamed lower (take (count_leaves lower) numbers) in
    let above = splits-renamed upper (drop (count_leaves lower) numbers) in
    omega (arith, below, above)

pub good-renamed : (sets : List LayerSet) (tree : Tree) (numbers : List ℕ) → IsGoodTree sets tree
    → IsGoodTree sets (renamed tree numbers)
good-renamed sets (Leaf table) [] good = tt
good-renamed sets (Leaf table) (n ∷ numbers) good = tt
good-renamed sets (Split trip left lower upper) numbers good = (
  good.0,
  good.1,
  good-renamed (with_set sets trip left) lower (take (count_leaves lower) numbers) good.2,
  good-renamed (with_set sets trip (right_of sets trip left)) upper (drop (count_leaves lower) numbers) good.3,
)

-- its leaves have the same layers
pub leaves-renamed : (sets : List LayerSet) (tree : Tree) (numbers : List ℕ) → count_leaves tree ≤ length numbers
    → leaves sets (renamed tree numbers) ≡ renumber (leaves sets tree) numbers
leaves-renamed sets (Leaf table) [] few = absurd (omega (arith, few))
leaves-renamed sets (Leaf table) (n ∷ numbers) few = refl
leaves-renamed sets (Split trip left lower upper) numbers few =
    let on_left = leaves (with_set sets trip left) lower in
    let on_right = leaves (with_set sets trip (right_of sets trip left)) upper in
    let size = count-leaves (with_set sets trip left) lower in
    let first = take (count_leaves lower) numbers in
    let second = drop (count_leaves lower) numbers in
    let enough : count_leaves lower ≤ length numbers = omega (arith, few) in
    let short : count_leaves lower ≤ length first =
    omega (arith, length-take-le (count_leaves lower) numbers enough) in
    let rest : count_leaves upper ≤ length second = omega (arith, few, length-drop (count_leaves lower) numbers) in
    ap (λ (xs : List LeafPlace). xs ++ leaves (with_set sets trip (right_of sets trip left)) (renamed upper second))
    (leaves-renamed (with_set sets trip left) lower first short)
    ∙ ap (λ (ys : List LeafPlace). renumber on_left first ++ ys)
    (leaves-renamed (with_set sets trip (right_of sets trip left)) upper second rest)
    ∙ ap (λ (n : ℕ). renumber on_left (take n numbers) ++ renumber on_right (drop n numbers)) (sym size)
    ∙ sym (renumber-append on_left on_right numbers (omega (arith, size, enough)))

-- its rows are the same but for the tables
pub plain-renamed : (tree : Tree) (numbers : List ℕ)
    → map plain (preorder (renamed tree numbers)) ≡ map plain (preorder tree)
plain-renamed (Leaf table) [] = refl
plain-renamed (Leaf table) (n ∷ numbers) = refl
plain-renamed (Split trip left lower upper) numbers =
    let first = renamed lower (take (count_leaves lower) numbers) in
    let second = renamed upper (drop (count_leaves lower) numbers) in
    ap (λ (rows : List Shape). shape.Split trip left ∷ rows) (map-append plain (preorder first) (preorder second)
    ∙ ap (λ (rows : List Shape). rows ++ map plain (preorder second))
    (plain-renamed lower (take (count_leaves lower) numbers))
    ∙ ap (λ (rows : List Shape). map plain (preorder lower) ++ rows)
    (plain-renamed upper (drop (count_leaves lower) numbers))
    ∙ sym (map-append plain (preorder lower) (preorder upper)))

-- rows with these numbers
with_numbers-append : (xs ys : List Shape) (numbers : List ℕ) → leaf_rows xs ≤ length numbers
    → with_numbers (xs ++ ys) numbers
    ≡ with_numbers xs (take (leaf_rows xs) numbers) ++ with_numbers ys (drop (leaf_rows xs) numbers)
with_numbers-append [] ys numbers few = refl
with_numbers-append (shape.Split trip left ∷ xs) ys numbers few =
    ap (λ (rows : List Shape). shape.Split trip left ∷ rows) (with_numbers-append xs ys numbers few)
with_numbers-append (shape.Leaf table ∷ xs) ys [] few = absurd (omega (arith, few))
with_numbers-append (shape.Leaf table ∷ xs) ys (n ∷ numbers) few =
    let next : suc (leaf_rows xs) ≡ leaf_rows xs + 1 = omega arith in
    ap (λ (rows : List Shape). shape.Leaf n ∷ rows) (with_numbers-append xs ys numbers (omega (arith, few)))
    ∙ ap (λ (k : ℕ). with_numbers (shape.Leaf table ∷ xs) (take k (n ∷ numbers))
    ++ with_numbers ys (drop k (n ∷ numbers))) next

pub rows-renamed : (tree : Tree) (numbers : List ℕ) → count_leaves tree ≤ length numbers
    → preorder (renamed tree numbers) ≡ with_numbers (preorder tree) numbers
rows-renamed (Leaf table) [] few = absurd (omega (arith, few))
rows-renamed (Leaf table) (n ∷ numbers) few = refl
rows-renamed (Split trip left lower upper) numbers few =
    let size = leaf_rows-preorder lower in
    let first = take (count_leaves lower) numbers in
    let second = drop (count_leaves lower) numbers in
    let enough : count_leaves lower ≤ length numbers = omega (arith, few) in
    let short : count_leaves lower ≤ length first =
    omega (arith, length-take-le (count_leaves lower) numbers enough) in
    let rest : count_leaves upper ≤ length second = omega (arith, few, length-drop (count_leaves lower) numbers) in
    ap (λ (rows : List Shape). shape.Split trip left ∷ rows)
    (ap (λ (rows : List Shape). rows ++ preorder (renamed upper second)) (rows-renamed lower first short)
    ∙ ap (λ (rows : List Shape). with_numbers (preorder lower) first ++ rows) (rows-renamed upper second rest)
    ∙ ap (λ (n : ℕ). with_numbers (preorder lower) (take n numbers) ++ with_numbers (preorder upper) (drop n numbers))
    (sym size)
    ∙ sym (with_numbers-append (preorder lower) (preorder upper) numbers (omega (arith, size, enough))))

-- with enough numbers it doesn't matter which tables were named
pub with_numbers-plain : (xs ys : List Shape) (numbers : List ℕ) → map plain xs ≡ map plain ys
    → leaf_rows xs ≤ length numbers → with_numbers xs numbers ≡ with_numbers ys numbers
with_numbers-plain [] [] numbers same few = refl
with_numbers-plain [] (row ∷ ys) numbers same few = absurd cc
with_numbers-plain (row ∷ xs) [] numbers same few = absurd cc
with_numbers-plain (shape.Leaf table ∷ xs) (shape.Split trip left ∷ ys) numbers same few = absurd cc
with_numbers-plain (shape.Split trip left ∷ xs) (shape.Leaf table ∷ ys) numbers same few = absurd cc
with_numbers-plain (shape.Split trip left ∷ xs) (shape.Split also part ∷ ys) numbers same few =
    let row : shape.Split trip left ≡ shape.Split also part = cc in
    let rest : map plain xs ≡ map plain ys = cc in
    λ k. row k ∷ with_numbers-plain xs ys numbers rest few k
with_numbers-plain (shape.Leaf table ∷ xs) (shape.Leaf other ∷ ys) [] same few = absurd (omega (arith, few))
with_numbers-plain (shape.Leaf table ∷ xs) (shape.Leaf other ∷ ys) (n ∷ numbers) same few =
    let rest : map plain xs ≡ map plain ys = cc in
    ap (λ (rows : List Shape). shape.Leaf n ∷ rows) (with_numbers-plain xs ys numbers rest (omega (arith, few)))

-- it names as many tables as it has leaves
pub length-named : (tree : Tree) → length (tables_named tree) ≡ count_leaves tree
length-named (Leaf table) = refl
length-named (Split trip left lower upper) =
    let both = length-append (tables_named lower) (tables_named upper) in
    let below = length-named lower in
    let above = length-named upper in
    omega (arith, both, below, above)

-- a tree whose leaves name the tables by their places in a list of numbers
pub renumbered : (tree : Tree) (all places : List ℕ)
    → AllZip (λ place n. slice_get all place ≡ Some n) places (tables_named tree)
    → IsRenumbered all tree (renamed tree places)
renumbered tree all places stand = by_tree tree places stand
  where
    Stand : List ℕ → List ℕ → Type 0
    Stand some numbers = AllZip (λ place n. slice_get all place ≡ Some n) some numbers

    apart : (some xs ys : List ℕ) → Stand some (xs ++ ys)
        → Stand (take (length xs) some) xs × Stand (drop (length xs) some) ys
    apart some [] ys stands = (tt, stands)
    apart [] (x ∷ xs) ys stands = absurd stands
    apart (place ∷ some) (x ∷ xs) ys stands =
        let rest = apart some xs ys stands.1 in
        ((stands.0, rest.0), rest.1)

    by_tree : (t : Tree) (some : List ℕ) → Stand some (tables_named t) → IsRenumbered all t (renamed t some)
    by_tree (Leaf table) [] stands = absurd stands
    by_tree (Leaf table) (place ∷ some) stands = stands.0
    by_tree (Split trip left lower upper) some stands =
        let size = length-named lower in
        let both = apart some (tables_named lower) (tables_named upper) stands in (
          refl,
          refl,
          by_tree lower (take (count_leaves lower) some)
              (subst (λ (n : ℕ). Stand (take n some) (tables_named lower)) size both.0),
          by_tree upper (drop (count_leaves lower) some)
              (subst (λ (n : ℕ). Stand (drop n some) (tables_named upper)) size both.1),
        )
