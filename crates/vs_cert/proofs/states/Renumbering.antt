-- The rows of a tree whose leaves name tables by places.
use Rattle.std.proofs.Common.{◌≡◌, ℕ, List, [], ◌∷◌, ◌++◌, refl, sym, ap, ◌∙◌, subst, Some}
use Rattle.std.specs.List.{slice_get}
use Rattle.std.proofs.lemmas.List.{append_assoc, append-nil}
use Rattle.vs_prices.specs.Tree.{Tree, Leaf, Split}
use Rattle.vs_rows.specs.Shapes.{preorder}
use Rattle.vs_cert.specs.StateDocument.{IsRenumbered, tables_named}
use Rattle.vs_rows.specs.declared.document.Shape.{Shape}
use Rattle.vs_rows.specs.declared.document.Shape.TheVariants as shape

-- the numbers of the tables that rows name
abbrev pub named_in : List Shape → List ℕ
named_in [] = []
named_in (shape.Leaf table ∷ rows) = table ∷ named_in rows
named_in (shape.Split trip left ∷ rows) = named_in rows

named_in-append : (rows more : List Shape) → named_in (rows ++ more) ≡ named_in rows ++ named_in more
named_in-append [] more = refl
named_in-append (shape.Leaf table ∷ rows) more = ap (λ ns. table ∷ ns) (named_in-append rows more)
named_in-append (shape.Split trip left ∷ rows) more = named_in-append rows more

-- one row more
pub named_in-leaf : (rows : List Shape) (table : ℕ) → named_in (rows ++ shape.Leaf table ∷ []) ≡ named_in rows
    ++ table ∷ []
named_in-leaf rows table = named_in-append rows (shape.Leaf table ∷ [])

pub named_in-split : (rows : List Shape) (s : Shape) → named_in (s ∷ []) ≡ []
    → named_in (rows ++ s ∷ []) ≡ named_in rows
named_in-split rows s none =
    named_in-append rows (s ∷ []) ∙ ap (λ ns. named_in rows ++ ns) none ∙ append-nil (named_in rows)

-- those of a tree's rows are those that its leaves name
pub named_in-preorder : (t : Tree) → named_in (preorder t) ≡ tables_named t
named_in-preorder (Leaf table) = refl
named_in-preorder (Split trip left lower upper) =
    named_in-append (preorder lower) (preorder upper)
    ∙ ap (λ ns. ns ++ named_in (preorder upper)) (named_in-preorder lower)
    ∙ ap (λ ns. tables_named lower ++ ns) (named_in-preorder upper)

-- a row with its table by place, and so each of some rows
abbrev pub IsPlacedRow : List ℕ → Shape → Shape → Type 0
IsPlacedRow numbers (shape.Leaf table) (shape.Leaf place) = slice_get numbers place ≡ Some table
IsPlacedRow numbers (shape.Split trip left) (shape.Split also part) = (also ≡ trip) × (part ≡ left)
IsPlacedRow numbers (shape.Leaf table) (shape.Split also part) = ⊥
IsPlacedRow numbers (shape.Split trip left) (shape.Leaf place) = ⊥

abbrev pub ArePlacedRows : List ℕ → List Shape → List Shape → Type 0
ArePlacedRows numbers [] [] = Unit {0}
ArePlacedRows numbers (row ∷ rows) (placed ∷ more) = IsPlacedRow numbers row placed × ArePlacedRows numbers rows more
ArePlacedRows numbers [] (placed ∷ more) = ⊥
ArePlacedRows numbers (row ∷ rows) [] = ⊥

pub placed-push : (numbers : List ℕ) (rows placed : List Shape) (row new : Shape) → ArePlacedRows numbers rows placed
    → IsPlacedRow numbers row new → ArePlacedRows numbers (rows ++ row ∷ []) (placed ++ new ∷ [])
placed-push numbers [] [] row new are is = (is, tt)
placed-push numbers [] (p ∷ placed) row new are is = absurd are
placed-push numbers (r ∷ rows) [] row new are is = absurd are
placed-push numbers (r ∷ rows) (p ∷ placed) row new are is =
    (are.0, placed-push numbers rows placed row new are.1 is)

module _ (numbers more : List ℕ) (kept : (k n : ℕ) → slice_get numbers k ≡ Some n → slice_get more k ≡ Some n) where
  row-kept : (row placed : Shape) → IsPlacedRow numbers row placed → IsPlacedRow more row placed
  row-kept (shape.Leaf table) (shape.Leaf place) is = kept place table is
  row-kept (shape.Split trip left) (shape.Split also part) is = is
  row-kept (shape.Leaf table) (shape.Split also part) is = absurd is
  row-kept (shape.Split trip left) (shape.Leaf place) is = absurd is

  -- rows name the same tables where more numbers come
  pub placed-kept : (rows placed : List Shape) → ArePlacedRows numbers rows placed → ArePlacedRows more rows placed
  placed-kept [] [] are = tt
  placed-kept [] (p ∷ placed) are = absurd are
  placed-kept (r ∷ rows) [] are = absurd are
  placed-kept (r ∷ rows) (p ∷ placed) are = (row-kept r p are.0, placed-kept rows placed are.1)

-- the rows begin with those of a tree with its tables by place
record BeginsWithTree (numbers : List ℕ) (t : Tree) (behind placed : List Shape) : Type 0 where
  pub tree : Tree
  pub rest : List Shape
  pub rows_are : placed ≡ preorder tree ++ rest
  pub renumbered : IsRenumbered numbers t tree
  pub others : ArePlacedRows numbers behind rest

module _ (numbers : List ℕ) where
  begins : (t : Tree) (behind placed : List Shape) → ArePlacedRows numbers (preorder t ++ behind) placed
      → BeginsWithTree numbers t behind placed
  begins (Leaf table) behind [] are = absurd are
  begins (Leaf table) behind (shape.Split also part ∷ placed) are = absurd are.0
  begins (Leaf table) behind (shape.Leaf place ∷ placed) are =
      record { tree = Leaf place; rest = placed; rows_are = refl; renumbered = are.0; others = are.1 }
  begins (Split trip left lower upper) behind [] are = absurd are
  begins (Split trip left lower upper) behind (shape.Leaf place ∷ placed) are = absurd are.0
  begins (Split trip left lower upper) behind (shape.Split also part ∷ placed) are =
      let rows = append_assoc (preorder lower) (preorder upper) behind in
      let first =
      begins lower (preorder upper ++ behind) placed
      (subst (λ (rs : List Shape). ArePlacedRows numbers rs placed) rows are.1) in
      let second = begins upper behind first.rest first.others in
      record {
        tree = Split also part first.tree second.tree;
        rest = second.rest;
        rows_are = ap (λ rs. shape.Split also part ∷ rs) (first.rows_are
            ∙ ap (λ rs. preorder first.tree ++ rs) second.rows_are
            ∙ sym (append_assoc (preorder first.tree) (preorder second.tree) second.rest));
        renumbered = (are.0.0, are.0.1, first.renumbered, second.renumbered);
        others = second.others;
      }

  -- the rows of a tree with its tables by place
  pub record IsPlacedTree (t : Tree) (placed : List Shape) : Type 0 where
    pub tree : Tree
    pub rows_are : placed ≡ preorder tree
    pub renumbered : IsRenumbered numbers t tree

  none_behind : (rest : List Shape) → ArePlacedRows numbers [] rest → rest ≡ []
  none_behind [] are = refl
  none_behind (p ∷ rest) are = absurd are

  pub placed_tree : (t : Tree) (placed : List Shape) → ArePlacedRows numbers (preorder t) placed → IsPlacedTree t placed
  placed_tree t placed are =
      let all = subst (λ (rs : List Shape). ArePlacedRows numbers rs placed) (sym (append-nil (preorder t))) are in
      let is = begins t [] placed all in
      record {
        tree = is.tree;
        rows_are = is.rows_are ∙ ap (λ rs. preorder is.tree ++ rs) (none_behind is.rest is.others)
            ∙ append-nil (preorder is.tree);
        renumbered = is.renumbered;
      }
