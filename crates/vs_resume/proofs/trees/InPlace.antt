-- A part in the place of a leaf: the rows, the leaves and the splits of the tree.
use Rattle.std.proofs.Common.{◌≡◌, ℕ, zero, suc, ◌+◌, ◌-◌, ◌<◌, ◌≤◌, nat_lt, Bool, true, false, if◌then◌else◌, List, [], ◌∷◌, ◌++◌, length, take, drop, refl, sym, ap, ◌∙◌, subst, arith, append_assoc, length-append, Some, slice_get}
use Rattle.std.proofs.Math.Seq.{take-append-add, drop-append-add}
use Rattle.std.proofs.lemmas.Bool.Decides.{nat_tests}
use Rattle.std.proofs.lemmas.List.{append-nil, drop-append-le, take-append-le}
use Rattle.vs_types.specs.declared.layer_set.LayerSet.{LayerSet}
use Rattle.vs_types.specs.declared.numbers.TripNo.{TripNo}
use Rattle.vs_prices.specs.Tree.{IsGoodTree, Leaf, LeafPlace, Split, Tree, leaves, right_of, with_set}
use Rattle.vs_rows.specs.Shapes.{preorder}
use Rattle.vs_rows.specs.declared.document.Shape.{Shape}
use Rattle.vs_rows.specs.declared.document.Shape.TheVariants as shape
use Rattle.vs_resume.specs.InPlace.{count_leaves, in_place, row_of_leaf, with_part}

-- other items in a list's front, or behind it
module _ {A : Type 0} (xs ys zs : List A) (k : ℕ) where
  pub in_front : k < length xs → in_place (xs ++ ys) k zs ≡ in_place xs k zs ++ ys
  in_front below =
      ap (λ (l : List A). l ++ (zs ++ drop (k + 1) (xs ++ ys))) (take-append-le k xs ys (omega arith))
      ∙ ap (λ (l : List A). take k xs ++ (zs ++ l)) (drop-append-le (k + 1) xs ys (omega arith))
      ∙ ap (λ (l : List A). take k xs ++ l) (sym (append_assoc zs (drop (k + 1) xs) ys))
      ∙ sym (append_assoc (take k xs) (zs ++ drop (k + 1) xs) ys)

  pub behind : in_place (xs ++ ys) (length xs + k) zs ≡ xs ++ in_place ys k zs
  behind =
      let next : length xs + k + 1 ≡ length xs + (k + 1) = omega arith in
      ap (λ (l : List A). l ++ (zs ++ drop (length xs + k + 1) (xs ++ ys))) (take-append-add xs ys k)
      ∙ ap (λ (n : ℕ). (xs ++ take k ys) ++ (zs ++ drop n (xs ++ ys))) next
      ∙ ap (λ (l : List A). (xs ++ take k ys) ++ (zs ++ l)) (drop-append-add xs ys (k + 1))
      ∙ append_assoc xs (take k ys) (zs ++ drop (k + 1) ys)

pub in_place-cons : {A : Type 0} (x : A) (xs zs : List A) (k : ℕ) → in_place (x ∷ xs) (suc k) zs ≡ x ∷ in_place xs k zs
in_place-cons {A = A} x xs zs k =
    let one : suc k ≡ length (x ∷ []) + k = omega arith in
    ap (λ (n : ℕ). in_place (x ∷ xs) n zs) one ∙ behind (x ∷ []) xs zs k

-- what stands in a list's front, or behind it
pub slice_get-left : {A : Type 0} (xs ys : List A) (k : ℕ) → k < length xs → slice_get (xs ++ ys) k ≡ slice_get xs k
slice_get-left [] ys k below = absurd (omega (arith, below))
slice_get-left (x ∷ xs) ys zero below = refl
slice_get-left (x ∷ xs) ys (suc k) below = slice_get-left xs ys k (omega arith)

pub slice_get-right : {A : Type 0} (xs ys : List A) (k : ℕ) → slice_get (xs ++ ys) (length xs + k) ≡ slice_get ys k
slice_get-right [] ys k = let none : 0 + k ≡ k = omega arith in ap (slice_get ys) none
slice_get-right (x ∷ xs) ys k =
    let next : length (x ∷ xs) + k ≡ suc (length xs + k) = omega arith in
    ap (slice_get (x ∷ xs ++ ys)) next ∙ slice_get-right xs ys k

-- how many leaves stand among some rows
abbrev pub leaf_rows : List Shape → ℕ
leaf_rows [] = 0
leaf_rows (shape.Leaf table ∷ rows) = leaf_rows rows + 1
leaf_rows (shape.Split trip left ∷ rows) = leaf_rows rows

leaf_rows-append : (xs ys : List Shape) → leaf_rows (xs ++ ys) ≡ leaf_rows xs + leaf_rows ys
leaf_rows-append [] ys = omega arith
leaf_rows-append (shape.Leaf table ∷ xs) ys = let rest = leaf_rows-append xs ys in omega (arith, rest)
leaf_rows-append (shape.Split trip left ∷ xs) ys = leaf_rows-append xs ys

pub leaf_rows-preorder : (tree : Tree) → leaf_rows (preorder tree) ≡ count_leaves tree
leaf_rows-preorder (Leaf table) = refl
leaf_rows-preorder (Split trip left lower upper) =
    let both = leaf_rows-append (preorder lower) (preorder upper) in
    let below = leaf_rows-preorder lower in
    let above = leaf_rows-preorder upper in
    omega (arith, both, below, above)

pub count-leaves : (sets : List LayerSet) (tree : Tree) → length (leaves sets tree) ≡ count_leaves tree
count-leaves sets (Leaf table) = refl
count-leaves sets (Split trip left lower upper) =
    let both = length-append (leaves (with_set sets trip left) lower)
    (leaves (with_set sets trip (right_of sets trip left)) upper) in
    let below = count-leaves (with_set sets trip left) lower in
    let above = count-leaves (with_set sets trip (right_of sets trip left)) upper in
    omega (arith, both, below, above)

-- the row of a leaf among the first rows, or among those behind them
record IsRowIn (xs ys : List Shape) (k : ℕ) : Type 0 where
  row : row_of_leaf (xs ++ ys) k ≡ row_of_leaf xs k
  within : row_of_leaf xs k < length xs

row_in_front : (xs ys : List Shape) (k : ℕ) → k < leaf_rows xs → IsRowIn xs ys k
row_in_front [] ys k below = absurd (omega (arith, below))
row_in_front (shape.Leaf table ∷ xs) ys zero below = record { row = refl; within = omega arith }
row_in_front (shape.Leaf table ∷ xs) ys (suc k) below =
    let rest = row_in_front xs ys k (omega (arith, below)) in
    record { row = ap suc rest.row; within = let inside = rest.within in omega (arith, inside) }
row_in_front (shape.Split trip left ∷ xs) ys k below =
    let rest = row_in_front xs ys k below in
    record { row = ap suc rest.row; within = let inside = rest.within in omega (arith, inside) }

row_behind : (xs ys : List Shape) (k : ℕ) → row_of_leaf (xs ++ ys) (leaf_rows xs + k) ≡ length xs + row_of_leaf ys k
row_behind [] ys k =
    let none : 0 + k ≡ k = omega arith in
    let same = ap (row_of_leaf ys) none in
    omega (arith, same)
row_behind (shape.Leaf table ∷ xs) ys k =
    let next : leaf_rows xs + 1 + k ≡ suc (leaf_rows xs + k) = omega arith in
    let sum : suc (length xs + row_of_leaf ys k) ≡ length (shape.Leaf table ∷ xs) + row_of_leaf ys k = omega arith in
    ap (row_of_leaf (shape.Leaf table ∷ xs ++ ys)) next ∙ ap suc (row_behind xs ys k) ∙ sum
row_behind (shape.Split trip left ∷ xs) ys k =
    let sum : suc (length xs + row_of_leaf ys k) ≡ length (shape.Split trip left ∷ xs) + row_of_leaf ys k =
    omega arith in
    ap suc (row_behind xs ys k) ∙ sum

-- the part stands in the place of leaf k
module _ (part : Tree) where
  abbrev Puts : Tree → ℕ → Tree → Type 0
  Puts tree k with_it =
      preorder with_it ≡ in_place (preorder tree) (row_of_leaf (preorder tree) k) (preorder part)

  puts_low : (trip : TripNo) (left : LayerSet) (lower upper with_it : Tree) (k : ℕ) → k < count_leaves lower
      → Puts lower k with_it → Puts (Split trip left lower upper) k (Split trip left with_it upper)
  puts_low trip left lower upper with_it k below puts =
      let row = row_in_front (preorder lower) (preorder upper) k (omega (arith, below, leaf_rows-preorder lower)) in
      let first = shape.Split trip left in
      let at = row_of_leaf (preorder lower) k in
      ap (λ (rows : List Shape). first ∷ rows ++ preorder upper) puts
      ∙ ap (λ (rows : List Shape). first ∷ rows)
      (sym (in_front (preorder lower) (preorder upper) (preorder part) at row.within))
      ∙ sym (in_place-cons first (preorder lower ++ preorder upper) (preorder part) at)
      ∙ ap (λ (n : ℕ). in_place (first ∷ preorder lower ++ preorder upper) (suc n) (preorder part)) (sym row.row)

  puts_high : (trip : TripNo) (left : LayerSet) (lower upper with_it : Tree) (k : ℕ) → count_leaves lower ≤ k
      → Puts upper (k - count_leaves lower) with_it
      → Puts (Split trip left lower upper) k (Split trip left lower with_it)
  puts_high trip left lower upper with_it k past puts =
      let place : leaf_rows (preorder lower) + (k - count_leaves lower) ≡ k =
      omega (arith, past, leaf_rows-preorder lower) in
      let row = row_behind (preorder lower) (preorder upper) (k - count_leaves lower) in
      let first = shape.Split trip left in
      let at = row_of_leaf (preorder upper) (k - count_leaves lower) in
      ap (λ (rows : List Shape). first ∷ preorder lower ++ rows) puts
      ∙ ap (λ (rows : List Shape). first ∷ rows)
      (sym (behind (preorder lower) (preorder upper) (preorder part) at))
      ∙ sym (in_place-cons first (preorder lower ++ preorder upper) (preorder part) (length (preorder lower) + at))
      ∙ ap (λ (n : ℕ). in_place (first ∷ preorder lower ++ preorder upper) (suc n) (preorder part)) (sym row)
      ∙ ap (λ (n : ℕ). in_place (preorder (Split trip left lower upper))
      (row_of_leaf (preorder (Split trip left lower upper)) n) (preorder part)) place

  -- by the test of the part in which the leaf stands
  puts_by : (trip : TripNo) (left : LayerSet) (lower upper : Tree) (k : ℕ)
      → (k < count_leaves lower → Puts lower k (with_part lower k part))
      → (count_leaves lower ≤ k → Puts upper (k - count_leaves lower) (with_part upper (k - count_leaves lower) part))
      → (b : Bool) → nat_lt k (count_leaves lower) ≡ b
      → Puts (Split trip left lower upper) k (if b then Split trip left (with_part lower k part) upper
      else Split trip left lower (with_part upper (k - count_leaves lower) part))
  puts_by trip left lower upper k below above true test =
      let low : k < count_leaves lower = grind (arith, nat_tests) in
      puts_low trip left lower upper (with_part lower k part) k low (below low)
  puts_by trip left lower upper k below above false test =
      let high : count_leaves lower ≤ k = grind (arith, nat_tests) in
      puts_high trip left lower upper (with_part upper (k - count_leaves lower) part) k high (above high)

  pub rows-with_part : (tree : Tree) (k : ℕ) → k < count_leaves tree → Puts tree k (with_part tree k part)
  rows-with_part (Leaf table) zero below = sym (append-nil (preorder part))
  rows-with_part (Leaf table) (suc k) below = absurd (omega (arith, below))
  rows-with_part (Split trip left lower upper) k below =
      puts_by trip left lower upper k (λ low. rows-with_part lower k low)
      (λ high. rows-with_part upper (k - count_leaves lower) (omega (arith, below, high)))
      (nat_lt k (count_leaves lower)) refl

  -- the leaves of the part stand in the place of leaf k, and the splits stay good
  pub record IsIn (sets : List LayerSet) (tree : Tree) (k : ℕ) (leaf : LeafPlace) (with_it : Tree) : Type 0 where
    pub leaves_are : leaves sets with_it ≡ in_place (leaves sets tree) k (leaves leaf.sets part)
    pub good : IsGoodTree sets tree → IsGoodTree leaf.sets part → IsGoodTree sets with_it

  in_low : (sets : List LayerSet) (trip : TripNo) (left : LayerSet) (lower upper with_it : Tree) (k : ℕ)
      (leaf : LeafPlace) → k < count_leaves lower → IsIn (with_set sets trip left) lower k leaf with_it
      → IsIn sets (Split trip left lower upper) k leaf (Split trip left with_it upper)
  in_low sets trip left lower upper with_it k leaf below is =
      let on_right = leaves (with_set sets trip (right_of sets trip left)) upper in
      record {
        leaves_are =
            ap (λ (xs : List LeafPlace). xs ++ on_right) is.leaves_are
            ∙ sym (in_front (leaves (with_set sets trip left) lower) on_right (leaves leaf.sets part) k
            (omega (arith, below, count-leaves (with_set sets trip left) lower)));
        good = λ good part_good. (good.0, good.1, is.good good.2 part_good, good.3);
      }

  in_high : (sets : List LayerSet) (trip : TripNo) (left : LayerSet) (lower upper with_it : Tree) (k : ℕ)
      (leaf : LeafPlace) → count_leaves lower ≤ k
      → IsIn (with_set sets trip (right_of sets trip left)) upper (k - count_leaves lower) leaf with_it
      → IsIn sets (Split trip left lower upper) k leaf (Split trip left lower with_it)
  in_high sets trip left lower upper with_it k leaf past is =
      let on_left = leaves (with_set sets trip left) lower in
      let on_right = leaves (with_set sets trip (right_of sets trip left)) upper in
      let place : length on_left + (k - count_leaves lower) ≡ k =
      omega (arith, past, count-leaves (with_set sets trip left) lower) in
      record {
        leaves_are =
            ap (λ (xs : List LeafPlace). on_left ++ xs) is.leaves_are
            ∙ sym (behind on_left on_right (leaves leaf.sets part) (k - count_leaves lower))
            ∙ ap (λ (n : ℕ). in_place (on_left ++ on_right) n (leaves leaf.sets part)) place;
        good = λ good part_good. (good.0, good.1, good.2, is.good good.3 part_good);
      }

  in_by : (sets : List LayerSet) (trip : TripNo) (left : LayerSet) (lower upper : Tree) (k : ℕ) (leaf : LeafPlace)
      → slice_get (leaves sets (Split trip left lower upper)) k ≡ Some leaf
      → (slice_get (leaves (with_set sets trip left) lower) k ≡ Some leaf
      → IsIn (with_set sets trip left) lower k leaf (with_part lower k part))
      → (slice_get (leaves (with_set sets trip (right_of sets trip left)) upper) (k - count_leaves lower) ≡ Some leaf
      → IsIn (with_set sets trip (right_of sets trip left)) upper (k - count_leaves lower) leaf
      (with_part upper (k - count_leaves lower) part))
      → (b : Bool) → nat_lt k (count_leaves lower) ≡ b
      → IsIn sets (Split trip left lower upper) k leaf (if b then Split trip left (with_part lower k part) upper
      else Split trip left lower (with_part upper (k - count_leaves lower) part))
  in_by sets trip left lower upper k leaf stands below above true test =
      let on_left = leaves (with_set sets trip left) lower in
      let on_right = leaves (with_set sets trip (right_of sets trip left)) upper in
      let low : k < count_leaves lower = grind (arith, nat_tests) in
      let there : slice_get on_left k ≡ Some leaf =
      sym (slice_get-left on_left on_right k (omega (arith, low, count-leaves (with_set sets trip left) lower)))
      ∙ stands in
      in_low sets trip left lower upper (with_part lower k part) k leaf low (below there)
  in_by sets trip left lower upper k leaf stands below above false test =
      let on_left = leaves (with_set sets trip left) lower in
      let on_right = leaves (with_set sets trip (right_of sets trip left)) upper in
      let high : count_leaves lower ≤ k = grind (arith, nat_tests) in
      let place : length on_left + (k - count_leaves lower) ≡ k =
      omega (arith, high, count-leaves (with_set sets trip left) lower) in
      let there : slice_get on_right (k - count_leaves lower) ≡ Some leaf =
      sym (slice_get-right on_left on_right (k - count_leaves lower))
      ∙ ap (slice_get (on_left ++ on_right)) place ∙ stands in
      in_high sets trip left lower upper (with_part upper (k - count_leaves lower) part) k leaf high (above there)

  pub leaves-with_part : (sets : List LayerSet) (tree : Tree) (k : ℕ) (leaf : LeafPlace)
      → slice_get (leaves sets tree) k ≡ Some leaf → IsIn sets tree k leaf (with_part tree k part)
  leaves-with_part sets (Leaf table) zero leaf stands =
      let is : record { sets = sets; table = table } ≡ leaf = cc in
      subst (λ (at : LeafPlace). IsIn sets (Leaf table) zero at part) is
      (record { leaves_are = sym (append-nil (leaves sets part)); good = λ good part_good. part_good })
  leaves-with_part sets (Leaf table) (suc k) leaf stands = absurd cc
  leaves-with_part sets (Split trip left lower upper) k leaf stands =
      in_by sets trip left lower upper k leaf stands
      (λ there. leaves-with_part (with_set sets trip left) lower k leaf there)
      (λ there. leaves-with_part (with_set sets trip (right_of sets trip left)) upper (k - count_leaves lower) leaf
      there)
      (nat_lt k (count_leaves lower)) refl
