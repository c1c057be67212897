-- A tree that is read part by part.
use Rattle.std.proofs.Common.{◌≡◌, ℕ, zero, suc, ◌+◌, ◌-◌, ◌<◌, ◌≤◌, List, [], ◌∷◌, ◌++◌, length, map, flat_map, refl, sym, ap, ◌∙◌, subst, arith, All, append_assoc, append-nil}
use Rattle.std.proofs.lemmas.List.{map_push}
use Rattle.std.proofs.lemmas.List.Elements.{All-push, All-nil}
use Rattle.vs_types.specs.declared.layer_set.LayerSet.{LayerSet}
use Rattle.vs_types.specs.declared.numbers.TripNo.{TripNo}
use Rattle.vs_prices.specs.Tree.{Tree, Leaf, Split}
use Rattle.vs_reader.specs.Rows.{row_of}
use Rattle.vs_reader.specs.Names.{HaveCounts}
use Rattle.vs_reader.specs.declared.input.Input.{Input}
use Rattle.vs_document.specs.declared.refused.DocWhy.TheVariants.{EndsEarly}
use Rattle.vs_document.specs.declared.refused.DocError.{DocError}
use Rattle.vs_document.specs.declared.refused.DocError.TheVariants as error
use Rattle.vs_rows.specs.declared.document.Shape.{Shape}
use Rattle.vs_rows.specs.declared.document.Shape.TheVariants as shape
use Rattle.vs_document.specs.DocumentRefusals.{documents}
use Rattle.vs_rows.specs.RowReading.{ReadsTo, SayTo}
use Rattle.vs_rows.specs.DocumentRows.{DocumentRow, HasForm, LeafRow, Says, SplitRow, shape_row}
use Rattle.vs_document.specs.Places.{InTree}
use Rattle.vs_document.specs.Reading.{IsRefusedAt, ReadsPart, ReadsTree, parts_behind}
use Rattle.vs_rows.specs.Shapes.{AreTree, IsShapeOf, preorder}
use Rattle.vs_document.proofs.rows.ReadThrough.{passes}
use Rattle.vs_rows.proofs.CallerLemmas.{leads_one, read_on, reads_none, refused_at_the_end, says_one}

-- the parts that are read, of a tree of which so many are still to come
pub record TreeSoFar (input : Input) (at tables row parts : ℕ) (shapes : List Shape) : Type 0 where
  pub is_part : All (IsShapeOf input.instance tables) shapes
  pub reads : ReadsTo documents input at (InTree tables 1) (map shape_row shapes) row (InTree tables parts)
  pub tree : (trees : List Tree) → length trees ≡ parts → AreTree (shapes ++ flat_map preorder trees)
  pub few : parts + at ≤ row + 1

-- with one tree to come
one_tree : (trees : List Tree) → length trees ≡ 1 → AreTree (flat_map preorder trees)
one_tree [] e = absurd (omega arith)
one_tree (t ∷ []) e = record { tree = t; rows_are = append-nil (preorder t) }
one_tree (t ∷ u ∷ trees) e = absurd (omega arith)

-- one part more
grows : (part : Shape) (shapes : List Shape) (q : ℕ)
    → ((trees : List Tree) → length trees ≡ suc q → AreTree (shapes ++ flat_map preorder trees))
    → (trees : List Tree) → length trees ≡ parts_behind q part
    → AreTree ((shapes ++ part ∷ []) ++ flat_map preorder trees)
grows (shape.Leaf table) shapes q tree trees e =
    let P : List Shape → Type 0 = λ rows. AreTree rows in
    subst P (sym (append_assoc shapes (shape.Leaf table ∷ []) (flat_map preorder trees)))
    (tree (Leaf table ∷ trees) (ap suc e))
grows (shape.Split trip left) shapes q tree [] e = absurd (omega arith)
grows (shape.Split trip left) shapes q tree (a ∷ []) e = absurd (omega arith)
grows (shape.Split trip left) shapes q tree (a ∷ b ∷ rest) e =
    let P : List Shape → Type 0 = λ rows. AreTree rows in
    let fewer : length rest ≡ q = omega arith in
    subst P
    (ap (λ (rows : List Shape). shapes ++ shape.Split trip left ∷ rows)
    (append_assoc (preorder a) (preorder b) (flat_map preorder rest))
    ∙ sym (append_assoc shapes (shape.Split trip left ∷ []) (preorder a ++ (preorder b ++ flat_map preorder rest))))
    (tree (Split trip left a b ∷ rest) (ap suc fewer))

few_behind : (q at row : ℕ) (part : Shape) → suc q + at ≤ row + 1 → parts_behind q part + at ≤ row + 1 + 1
few_behind q at row (shape.Leaf table) few = omega arith
few_behind q at row (shape.Split trip left) few = omega arith

module _ (input : Input) (at tables : ℕ) where
  pub tree_none : at ≤ length input.rest → TreeSoFar input at tables at 1 []
  tree_none within = record {
    is_part = All-nil (IsShapeOf input.instance tables);
    reads = reads_none documents input at (InTree tables 1) within;
    tree = one_tree;
    few = omega arith;
  }

  more : (row q : ℕ) (shapes : List Shape) (part : Shape) → TreeSoFar input at tables row (suc q) shapes
      → ReadsPart input row tables part → TreeSoFar input at tables (row + 1) (parts_behind q part) (shapes
      ++ part ∷ [])
  more row q shapes part s r =
      let P : List DocumentRow → Type 0 = λ said. ReadsTo documents input at (InTree tables 1) said (row + 1)
      (InTree tables (parts_behind q part)) in
      record {
        is_part = All-push (IsShapeOf input.instance tables) shapes part s.is_part r.is_part;
        reads = subst P (sym (map_push shape_row shapes part))
            (read_on documents input at row (row + 1) (InTree tables 1) (InTree tables (suc q)) (InTree tables
            (parts_behind q part))
            (map shape_row shapes) (shape_row part ∷ []) s.reads (record { say = r.say; lead = r.lead q }));
        tree = grows part shapes q s.tree;
        few = few_behind q at row part s.few;
      }

  pub tree_more : (row parts next : ℕ) (shapes : List Shape) (part : Shape) → TreeSoFar input at tables row parts shapes
      → ¬ (parts ≡ 0) → ReadsPart input row tables part → next ≡ parts_behind (parts - 1) part
      → TreeSoFar input at tables (row + 1) next (shapes ++ part ∷ [])
  tree_more row zero next shapes part s some r is = absurd (some refl)
  tree_more row (suc q) next shapes part s some r is =
      let one : suc q - 1 ≡ q = omega arith in
      let P : ℕ → Type 0 = λ n. TreeSoFar input at tables (row + 1) n (shapes ++ part ∷ []) in
      subst P (sym (is ∙ ap (λ (n : ℕ). parts_behind n part) one)) (more row q shapes part s r)

  pub tree_done : (row parts : ℕ) (shapes : List Shape) → TreeSoFar input at tables row parts shapes → parts ≡ 0
      → ReadsTree input at tables row shapes
  tree_done row zero shapes s none = record {
    tree = let P : List Shape → Type 0 = λ rows. AreTree rows in subst P (append-nil shapes) (s.tree [] refl);
    parts = s.is_part;
    reads = s.reads;
  }
  tree_done row (suc q) shapes s none = absurd (omega arith)

  -- what is refused where a part is still to come
  pub tree_refused : (row parts : ℕ) (shapes : List Shape) (e : DocError) → TreeSoFar input at tables row parts shapes
      → ¬ (parts ≡ 0) → ((q : ℕ) → IsRefusedAt input row (InTree tables (suc q)) e)
      → IsRefusedAt input at (InTree tables 1) e
  tree_refused row zero shapes e s some refused = absurd (some refl)
  tree_refused row (suc q) shapes e s some refused = passes input e s.reads.lead (refused q)

  -- as where no row is left
  pub tree_ends_early : (row len parts : ℕ) (shapes : List Shape) → TreeSoFar input at tables row parts shapes
      → 0 < parts
      → row ≡ len → len ≡ length input.rest
      → IsRefusedAt input at (InTree tables 1) (error.Refused (input.before + 1 + len) EndsEarly)
  tree_ends_early row len parts shapes s some at_len is =
      let P : ℕ → Type 0 = λ n. TreeSoFar input at tables n parts shapes in
      tree_refused len parts shapes (error.Refused (input.before + 1 + len) EndsEarly) (subst P at_len s) (omega arith)
      (λ q. refused_at_the_end documents input len (omega arith) (InTree tables (suc q)) (λ e. cc))

-- a row of a split, and one of a leaf whose number is that of a table
pub split_part : (input : Input) (trip : TripNo) (left : LayerSet) → HaveCounts input.instance input.names
    → HasForm input.names (SplitRow trip left) → IsShapeOf input.instance 0 (shape.Split trip left)
split_part input trip left counts form =
    (omega (arith, counts.trips, form.0), form.1, λ l has. omega (arith, counts.layers, form.2 l has))

pub leaf_part : (input : Input) (row tables number : ℕ) → row < length input.rest
    → Says input.names (row_of input.rest row) (LeafRow number) → 0 < number → number ≤ tables
    → ReadsPart input row tables (shape.Leaf (number - 1))
leaf_part input row tables number within says some few =
    let back : number ≡ number - 1 + 1 = omega arith in
    let P : ℕ → Type 0 = λ n. SayTo documents input row (LeafRow n ∷ []) (row + 1) in
    record {
      is_part = omega arith;
      say = subst P back (says_one documents input row within (InTree tables 1) (LeafRow number) says);
      lead = λ parts. leads_one documents input row within (InTree tables (suc parts)) (LeafRow number) says
          (InTree tables parts) (record { suits = tt; order = refl; right = ((omega arith, few), tt) });
    }
