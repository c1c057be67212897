-- A tree of cases while its rows are written: the spots that wait, and the rows that are still to come.
use Rattle.std.proofs.Common.{◌≡◌, ℕ, suc, ◌+◌, ◌*◌, ◌<◌, ◌≤◌, false, List, [], ◌∷◌, ◌++◌, length, refl, sym, ap, ◌∙◌, subst, arith, Some, length-append}
use Rattle.std.specs.List.{slice_get}
use Rattle.std.proofs.lemmas.List.{append_assoc, append-nil}
use Rattle.vs_types.specs.declared.layer_set.LayerSet.{LayerSet}
use Rattle.vs_types.specs.declared.numbers.TripNo.{TripNo}
use Rattle.vs_instance.specs.Restriction.{permitted_sets}
use Rattle.vs_tree.specs.declared.spot.Spot.{Spot}
use Rattle.vs_tree.specs.declared.spot.Spot.TheVariants.{Inner, Free, Held, Closed}
use Rattle.vs_tree.specs.History.{Opening, Place, State, count_spots, is_inner, spot_at, table_of}
use Rattle.vs_tree.specs.StateTree.{IsTreeAt, IsTreeOf}
use Rattle.vs_prices.specs.Tree.{Tree, Leaf, Split, right_of, splits, with_set}
use Rattle.vs_tree.proofs.CallerLemmas.{leaf_within}
use Rattle.vs_cert.specs.Numbering.{with_number}
use Rattle.vs_rows.specs.Shapes.{preorder}
use Rattle.vs_cert.specs.StateDocument.{first_times}
use Rattle.vs_cert.specs.TreeRows.{AreRowsOf, IsLeafRow, IsRowAt, IsRowOfSplit}
use Rattle.vs_rows.specs.declared.document.Shape.{Shape}
use Rattle.vs_rows.specs.declared.document.Shape.TheVariants as shape
use Rattle.vs_cert.proofs.states.Numberings.{first_times-more, stands-more}
use Rattle.vs_cert.proofs.states.Renumbering.{ArePlacedRows, IsPlacedRow, named_in, named_in-leaf, named_in-preorder, named_in-split, placed-kept, placed-push, placed_tree}

-- a tree has one leaf more than splits
pub preorder-length : (t : Tree) → length (preorder t) ≡ 2 * splits t + 1
preorder-length (Leaf table) = refl
preorder-length (Split trip left lower upper) =
    let size = length-append (preorder lower) (preorder upper) in
    omega (arith, size, preorder-length lower, preorder-length upper)

-- the tree of a spot that waits, and the rows that come behind its own
pub record WaitsFor (places : List Place) (k : ℕ) (IsBehind : List Shape → Type 0) (rows : List Shape) : Type 0 where
  pub tree : Tree
  pub sets : List LayerSet
  pub spots : List ℕ
  pub behind : List Shape
  pub is_tree : IsTreeAt places k sets tree spots
  pub rows_are : rows ≡ preorder tree ++ behind
  pub others : IsBehind behind

-- the rows are those of the trees of the spots that wait, the last of which comes first
abbrev pub AreAwaited : List Place → List ℕ → List Shape → Type 0
AreAwaited places [] rows = rows ≡ []
AreAwaited places (k ∷ waiting) rows =
    (front : List Shape) × (back : List Shape) × AreAwaited places waiting front
    × WaitsFor places k (λ behind. behind ≡ []) back × (rows ≡ front ++ back)

module _ (places : List Place) where
  -- one spot more waits, and comes first
  awaited-push : (waiting : List ℕ) (k : ℕ) (tree : Tree) (sets : List LayerSet) (spots : List ℕ) (rows : List Shape)
      → AreAwaited places waiting rows → IsTreeAt places k sets tree spots
      → AreAwaited places (waiting ++ k ∷ []) (preorder tree ++ rows)
  awaited-push [] k tree sets spots rows none at = (
    [],
    preorder tree ++ rows,
    refl,
    record {
      tree = tree;
      sets = sets;
      spots = spots;
      behind = rows;
      is_tree = at;
      rows_are = refl;
      others = none;
    },
    refl,
  )
  awaited-push (j ∷ waiting) k tree sets spots rows are at = (
    preorder tree ++ are.0,
    are.1,
    awaited-push waiting k tree sets spots are.0 are.2 at,
    are.3,
    ap (λ rs. preorder tree ++ rs) are.4 ∙ sym (append_assoc (preorder tree) are.0 are.1),
  )

  -- the last spot that waits comes first
  awaited-pop : (waiting : List ℕ) (k : ℕ) (rows : List Shape) → AreAwaited places (waiting ++ k ∷ []) rows
      → WaitsFor places k (AreAwaited places waiting) rows
  awaited-pop [] k rows are =
      let last = are.3 in
      record {
        tree = last.tree;
        sets = last.sets;
        spots = last.spots;
        behind = last.behind;
        is_tree = last.is_tree;
        rows_are = are.4 ∙ ap (λ rs. rs ++ are.1) are.2 ∙ last.rows_are;
        others = last.others;
      }
  awaited-pop (j ∷ waiting) k rows are =
      let first = awaited-pop waiting k are.0 are.2 in
      record {
        tree = first.tree;
        sets = first.sets;
        spots = first.spots;
        behind = first.behind ++ are.1;
        is_tree = first.is_tree;
        rows_are = are.4 ∙ ap (λ rs. rs ++ are.1) first.rows_are
            ∙ append_assoc (preorder first.tree) first.behind are.1;
        others = (first.behind, are.1, first.others, are.3, refl);
      }

-- The rows of the state's tree that are written, with its tables by place among the numbers that came, and those that
-- are to come.
pub record AreUnderway (o : Opening) (s : State) (waiting numbers : List ℕ) (rows : List Shape) : Type 0 where
  pub tree : Tree
  pub is_tree : IsTreeOf o.problem s tree
  pub done : List Shape
  pub ahead : List Shape
  pub awaited : AreAwaited s.places waiting ahead
  pub all : done ++ ahead ≡ preorder tree
  pub numbers_are : numbers ≡ first_times (named_in done)
  pub placed : ArePlacedRows numbers done rows

-- the row of a leaf is that of its table
leaf_row : (spot : Spot) (waiting after numbers more : List ℕ) (row : Shape) → is_inner spot ≡ false
    → IsRowAt spot waiting after numbers more row → IsLeafRow (table_of spot) waiting after numbers more row
leaf_row (Inner trip left lower upper) waiting after numbers more row leaf is = absurd cc
leaf_row (Free table) waiting after numbers more row leaf is = is
leaf_row (Held worker table) waiting after numbers more row leaf is = is
leaf_row (Closed table) waiting after numbers more row leaf is = is

placed-length : (numbers : List ℕ) (rows placed : List Shape) → ArePlacedRows numbers rows placed
    → length placed ≡ length rows
placed-length numbers [] [] are = refl
placed-length numbers [] (p ∷ placed) are = absurd are
placed-length numbers (r ∷ rows) [] are = absurd are
placed-length numbers (r ∷ rows) (p ∷ placed) are = ap suc (placed-length numbers rows placed are.1)

module _ (o : Opening) (s : State) where
  -- at the start the root waits
  pub begun : (tree : Tree) → IsTreeOf o.problem s tree → AreUnderway o s (0 ∷ []) [] []
  begun tree is = record {
    tree = tree;
    is_tree = is;
    done = [];
    ahead = preorder tree;
    awaited = (
      [],
      preorder tree,
      refl,
      record {
        tree = tree;
        sets = permitted_sets o.problem;
        spots = is.spots;
        behind = [];
        is_tree = is.is_tree;
        rows_are = sym (append-nil (preorder tree));
        others = refl;
      },
      refl,
    );
    all = refl;
    numbers_are = refl;
    placed = tt;
  }

  -- at the end all rows are written
  pub ended : (numbers : List ℕ) (rows : List Shape) → AreUnderway o s [] numbers rows
      → length numbers ≤ length s.tables → AreRowsOf o s numbers rows
  ended numbers rows are few =
      let whole : are.done ≡ preorder are.tree =
      sym (append-nil are.done) ∙ ap (λ rs. are.done ++ rs) (sym are.awaited) ∙ are.all in
      let is = placed_tree numbers are.tree rows
      (subst (λ (rs : List Shape). ArePlacedRows numbers rs rows) whole are.placed) in
      record {
        tree = are.tree;
        is_tree = are.is_tree;
        numbers_are = are.numbers_are ∙ ap (λ rs. first_times (named_in rs)) whole
            ∙ ap first_times (named_in-preorder are.tree);
        few = few;
        shape = is.tree;
        renumbered = is.renumbered;
        rows_are = is.rows_are;
      }

  module _ (waiting numbers : List ℕ) (rows : List Shape) (k : ℕ)
      (are : AreUnderway o s (waiting ++ k ∷ []) numbers rows) where
    abbrev first : WaitsFor s.places k (AreAwaited s.places waiting) are.ahead
    first = awaited-pop s.places waiting k are.ahead are.awaited

    -- the spot that comes next is one of the state's
    pub next_within : k < length s.places
    next_within = by_tree first.tree first.sets first.spots first.is_tree
      where
        by_tree : (t : Tree) (sets : List LayerSet) (spots : List ℕ) → IsTreeAt s.places k sets t spots
            → k < length s.places
        by_tree (Leaf table) sets spots at = leaf_within s.places k at.leaf
        by_tree (Split trip left lower upper) sets spots at = at.within

    -- there are rows to come
    pub rows_ahead : length rows < 2 * count_spots is_inner s.places + 1
    rows_ahead =
        let size = length-append are.done are.ahead in
        let left = length-append (preorder first.tree) first.behind in
        let ahead = ap (λ (rs : List Shape). length rs) first.rows_are in
        let all = ap (λ (rs : List Shape). length rs) are.all in
        omega (
          arith,
          size,
          left,
          ahead,
          all,
          placed-length numbers are.done rows are.placed,
          preorder-length first.tree,
          preorder-length are.tree,
          are.is_tree.splits_are,
        )

    module _ (after more : List ℕ) (row : Shape) (is_row : IsRowAt (spot_at s k) waiting after numbers more row) where
      -- the row of a leaf
      leaf_next : (table : ℕ) (behind : List Shape) → is_inner (spot_at s k) ≡ false → table ≡ table_of (spot_at s k)
          → are.ahead ≡ shape.Leaf table ∷ behind → AreAwaited s.places waiting behind
          → AreUnderway o s after more (rows ++ row ∷ [])
      leaf_next table behind leaf table_is rows_are others =
          let named = leaf_row (spot_at s k) waiting after numbers more row leaf is_row in
          let comes : more ≡ with_number numbers table =
          named.placed.numbers ∙ ap (with_number numbers) (sym table_is) in
          let kept : (j n : ℕ) → slice_get numbers j ≡ Some n → slice_get more j ≡ Some n =
          λ j n stands. subst (λ (ns : List ℕ). slice_get ns j ≡ Some n) (sym comes)
          (stands-more numbers table j n stands) in
          let placed_row : IsPlacedRow more (shape.Leaf table) row =
          subst (IsPlacedRow more (shape.Leaf table)) (sym named.placed.row_is)
          (named.placed.named ∙ ap Some (sym table_is)) in
          record {
            tree = are.tree;
            is_tree = are.is_tree;
            done = are.done ++ shape.Leaf table ∷ [];
            ahead = behind;
            awaited = subst (λ (ks : List ℕ). AreAwaited s.places ks behind) (sym named.spots) others;
            all = append_assoc are.done (shape.Leaf table ∷ []) behind
                ∙ ap (λ rs. are.done ++ rs) (sym rows_are) ∙ are.all;
            numbers_are = comes ∙ ap (λ ns. with_number ns table) are.numbers_are
                ∙ sym (first_times-more (named_in are.done) table)
                ∙ ap first_times (sym (named_in-leaf are.done table));
            placed = placed-push more are.done rows (shape.Leaf table) row
                (placed-kept numbers more kept are.done rows are.placed) placed_row;
          }

      -- the row of a split
      split_next : (trip : TripNo) (left : LayerSet) (t u : Tree) (lower upper : ℕ) (sets below : List LayerSet)
          (spots others_at : List ℕ) (behind : List Shape) → spot_at s k ≡ Inner trip left lower upper
          → IsTreeAt s.places lower sets t spots → IsTreeAt s.places upper below u others_at
          → are.ahead ≡ shape.Split trip left ∷ (preorder t ++ preorder u) ++ behind
          → AreAwaited s.places waiting behind → AreUnderway o s after more (rows ++ row ∷ [])
      split_next trip left t u lower upper sets below spots others_at behind inner is_lower is_upper rows_are others =
          let is : IsRowOfSplit (shape.Split trip left) lower upper waiting after numbers more row =
          subst (λ (spot : Spot). IsRowAt spot waiting after numbers more row) inner is_row in
          let both =
          awaited-push s.places (waiting ++ upper ∷ []) lower t sets spots (preorder u ++ behind)
          (awaited-push s.places waiting upper u below others_at behind others is_upper) is_lower in
          let spots_are : after ≡ (waiting ++ upper ∷ []) ++ lower ∷ [] =
          is.spots ∙ sym (append_assoc waiting (upper ∷ []) (lower ∷ [])) in
          let rest = append_assoc (preorder t) (preorder u) behind in
          let placed_row : IsPlacedRow numbers (shape.Split trip left) row =
          subst (IsPlacedRow numbers (shape.Split trip left)) (sym is.row_is) (refl, refl) in
          record {
            tree = are.tree;
            is_tree = are.is_tree;
            done = are.done ++ shape.Split trip left ∷ [];
            ahead = preorder t ++ (preorder u ++ behind);
            awaited = subst (λ (ks : List ℕ). AreAwaited s.places ks (preorder t ++ (preorder u ++ behind)))
                (sym spots_are) both;
            all = append_assoc are.done (shape.Split trip left ∷ []) (preorder t ++ (preorder u ++ behind))
                ∙ ap (λ rs. are.done ++ (shape.Split trip left ∷ rs)) (sym rest)
                ∙ ap (λ rs. are.done ++ rs) (sym rows_are) ∙ are.all;
            numbers_are = is.numbers ∙ are.numbers_are
                ∙ ap first_times (sym (named_in-split are.done (shape.Split trip left) refl));
            placed = subst (λ (ns : List ℕ). ArePlacedRows ns (are.done ++ shape.Split trip left ∷ [])
                (rows ++ row ∷ []))
                (sym is.numbers)
                (placed-push numbers are.done rows (shape.Split trip left) row are.placed placed_row);
          }

      -- one row more is written
      pub went_on : AreUnderway o s after more (rows ++ row ∷ [])
      went_on = by_tree first.tree first.sets first.spots first.behind first.is_tree first.rows_are first.others
        where
          by_tree : (t : Tree) (sets : List LayerSet) (spots : List ℕ) (behind : List Shape)
              → IsTreeAt s.places k sets t spots → are.ahead ≡ preorder t ++ behind
              → AreAwaited s.places waiting behind → AreUnderway o s after more (rows ++ row ∷ [])
          by_tree (Leaf table) sets spots behind at rows_are others =
              leaf_next table behind at.leaf at.table_is rows_are others
          by_tree (Split trip left t u) sets spots behind at rows_are others =
              split_next trip left t u at.lower at.upper (with_set sets trip left)
              (with_set sets trip (right_of sets trip left)) at.first at.second behind at.inner at.is_lower at.is_upper
              rows_are others
