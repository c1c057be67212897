-- The parts of a tree that a walk over it has still to come to, the one at hand first.
use Rattle.std.proofs.Common.{◌≡◌, ℕ, ◌+◌, ◌<◌, ◌≤◌, ◌⊎◌, inl, inr, Bool, true, false, cond, List, [], ◌∷◌, ◌++◌, length, get_or, map, drop, reverse, refl, sym, ap, ◌∙◌, subst, arith, append_assoc, length-append, Option, Some, None as nothing, MatchBool, MatchOption}
use Rattle.std.specs.List.{All, slice_get}
use Rattle.std.proofs.lemmas.List.{append-nil, drop_all, drop_more}
use Rattle.std.proofs.lemmas.List.Elements.{All-cons, All-get_or, All-head, All-nil, All-tail}
use Rattle.vs_types.specs.LayerSet.{Has}
use Rattle.vs_types.specs.declared.layer_set.LayerSet.{LayerSet}
use Rattle.vs_types.specs.declared.numbers.TripNo.{TripNo}
use Rattle.vs_instance.specs.Firsts.{first}
use Rattle.vs_instance.specs.Instance.{IsInstance}
use Rattle.vs_instance.specs.Problem.{Problem}
use Rattle.vs_instance.specs.Restriction.{IsRestriction, permitted_sets, set_of}
use Rattle.vs_instance.proofs.CallerLemmas.{first-skip, first-stop, permitted_sets-IsRestriction}
use Rattle.vs_prices.specs.Tree.{Tree, Leaf, Split, right_of, with_set}
use Rattle.vs_prices.proofs.CallerLemmas.{left-restricts, right-restricts}
use Rattle.vs_rows.specs.Shapes.{IsShapeOf, preorder}
use Rattle.vs_rows.specs.declared.document.Document.{Document}
use Rattle.vs_rows.specs.declared.document.Shape.{Shape}
use Rattle.vs_rows.specs.declared.document.Shape.TheVariants as shape
use Rattle.vs_check.specs.Flaws.{named_flaws, shape_flaws, tree_flaws}
use Rattle.vs_types.specs.Parts.{is_proper_part}
use Rattle.vs_check.specs.Walk.{GoesOver, IsBehindPart, IsOnLeft, sets_ahead, sets_along}
use Rattle.vs_check.specs.declared.flaw.Flaw.{Flaw}
use Rattle.vs_check.specs.declared.flaw.Flaw.TheVariants.{BadSplit}
use Rattle.vs_check.specs.declared.walk.Change.{Change}
use Rattle.vs_check.specs.declared.walk.Walk.{Walk}
use Rattle.vs_types.proofs.CallerLemmas.{proper_from_test}
use Rattle.vs_check.proofs.TreeRows.{flaws_of_tree}

-- a tree, and the layers in which each trip may be run at its root
abbrev pub Part : Type 0
Part = List LayerSet × Tree

abbrev pub rows_of : List Part → List Shape
rows_of [] = []
rows_of (part ∷ parts) = preorder part.1 ++ rows_of parts

abbrev pub sets_of : List Part → List (List LayerSet)
sets_of parts = map (λ part. part.0) parts

no_sets : (parts : List Part) → sets_of parts ≡ [] → parts ≡ []
no_sets [] e = refl
no_sets (part ∷ parts) e = cc

module _ (p : Problem) (d : Document) where
  abbrev pub part_flaws : ℕ → List LayerSet → Tree → List Flaw
  part_flaws position sets tree = tree_flaws p d.tables.items d.bound position sets tree

  -- the flaws of parts whose first row is at this position
  abbrev pub parts_flaws : ℕ → List Part → List Flaw
  parts_flaws position [] = []
  parts_flaws position (part ∷ parts) =
      part_flaws position part.0 part.1 ++ parts_flaws (position + length (preorder part.1)) parts

  -- these rows are those of the parts still to come, and their first flaw is this one; the walk is at the first of them
  pub record IsBefore (rows : List Shape) (position : ℕ) (walk : Walk) (flaw : Option Flaw) : Type 0 where
    pub parts : List Part
    pub rows_are : rows ≡ rows_of parts
    pub sets_are : (parts ≡ []) ⊎ (sets_of parts ≡ walk.sets.items ∷ sets_ahead walk)
    pub restrictions : All (λ part. IsRestriction p part.0) parts
    pub flaw_is : first (parts_flaws position parts) ≡ flaw

  -- what a row leaves to be gone over where it has no flaw, and else its flaw is the first
  abbrev pub Follows : List Shape → ℕ → Walk → Option Flaw → Option Flaw → Type 0
  Follows rows position walk all found =
      MatchOption found (IsBefore rows position walk all) (λ flaw. all ≡ Some flaw)

  abbrev Restricts : Part → Type 0
  Restricts part = IsRestriction p part.0

  module _ (instance : IsInstance p) (position : ℕ) (old new : Walk) (rest : List Shape) (all : Option Flaw) where
    leaf_follows : (table : ℕ) (parts : List Part) → rest ≡ rows_of parts → sets_of parts ≡ sets_ahead old
        → All Restricts parts
        → first (named_flaws p d.bound position old.sets.items (slice_get d.tables.items table)
        ++ parts_flaws (position + 1) parts) ≡ all
        → (found : Option Flaw)
        → found ≡ first (named_flaws p d.bound position old.sets.items (slice_get d.tables.items table))
        → IsBehindPart old new → Follows rest (position + 1) new all found
    leaf_follows table parts rows sets restrictions flaws (Some flaw) is behind =
        sym flaws
        ∙ first-stop (named_flaws p d.bound position old.sets.items (slice_get d.tables.items table))
        (parts_flaws (position + 1) parts) flaw (sym is)
    leaf_follows table parts rows sets restrictions flaws nothing is behind = record {
      parts = parts;
      rows_are = rows;
      sets_are = elim behind [
        | inl none ↦ inl (no_sets parts (sets ∙ none))
        | inr some ↦ inr (sets ∙ some)
      ];
      restrictions = restrictions;
      flaw_is =
          sym (first-skip (named_flaws p d.bound position old.sets.items (slice_get d.tables.items table))
          (parts_flaws (position + 1) parts) (sym is)) ∙ flaws;
    }

    -- a split of which this is the trip, the set on the left and the two parts
    module _ (trip : TripNo) (left : LayerSet) (lower upper : Tree) (parts : List Part) where
      abbrev on_left : List LayerSet
      on_left = with_set old.sets.items trip left

      abbrev on_right : List LayerSet
      on_right = with_set old.sets.items trip (right_of old.sets.items trip left)

      abbrev both : List Flaw
      both = part_flaws (position + 1) on_left lower
          ++ part_flaws (position + 1 + length (preorder lower)) on_right upper

      abbrev behind : ℕ
      behind = position + length (preorder (Split trip left lower upper))

      same_place : behind ≡ position + 1 + length (preorder lower) + length (preorder upper)
      same_place = omega (arith, length-append (preorder lower) (preorder upper))

      split_follows : trip.0 < length old.sets.items → ((l : ℕ) → Has left l → l < 16)
          → rest ≡ (preorder lower ++ preorder upper) ++ rows_of parts → sets_of parts ≡ sets_ahead old
          → IsRestriction p old.sets.items → All Restricts parts
          → first (parts_flaws position ((old.sets.items, Split trip left lower upper) ∷ parts)) ≡ all
          → (found : Option Flaw) → (b : Bool) → is_proper_part left (set_of old.sets.items trip.0) ≡ b
          → MatchBool b ((found ≡ nothing) × IsOnLeft trip left old new) (found ≡ Some (BadSplit position))
          → Follows rest (position + 1) new all found
      split_follows inside below rows sets restriction restrictions flaws found true test goes =
          let proper = proper_from_test left (set_of old.sets.items trip.0) below test in
          let here : first (both ++ parts_flaws behind parts) ≡ all =
          sym (ap (λ (b : Bool). first (cond b both (BadSplit position ∷ []) ++ parts_flaws behind parts)) test)
          ∙ flaws in
          subst (Follows rest (position + 1) new all) (sym goes.0) (record {
            parts = (on_left, lower) ∷ (on_right, upper) ∷ parts;
            rows_are = rows ∙ append_assoc (preorder lower) (preorder upper) (rows_of parts);
            sets_are = inr (ap (λ (s : List (List LayerSet)). on_left ∷ on_right ∷ s) sets
                ∙ sym (ap (λ (s : List LayerSet). s ∷ sets_ahead new) goes.1.sets
                ∙ ap (λ (s : List (List LayerSet)). on_left ∷ s) goes.1.ahead));
            restrictions =
                All-cons Restricts (on_left, lower) ((on_right, upper) ∷ parts)
                (left-restricts p old.sets.items trip left inside proper restriction)
                (All-cons Restricts (on_right, upper) parts
                (right-restricts p old.sets.items trip left inside proper restriction) restrictions);
            flaw_is =
                ap first (sym (append_assoc (part_flaws (position + 1) on_left lower) _ _))
                ∙ ap (λ (n : ℕ). first (both ++ parts_flaws n parts)) (sym same_place) ∙ here;
          })
      split_follows inside below rows sets restriction restrictions flaws found false test goes =
          subst (Follows rest (position + 1) new all) (sym goes)
          (sym flaws ∙ ap (λ (b : Bool). first (cond b both (BadSplit position ∷ []) ++ parts_flaws behind parts)) test)

    -- what a row leaves, where the walk stands at the first of these parts
    part_follows : (row : Shape) → IsShapeOf p (length d.tables.items) row → (sets : List LayerSet) (tree : Tree)
        (parts : List Part) → row ∷ rest ≡ preorder tree ++ rows_of parts → sets ≡ old.sets.items
        → sets_of parts ≡ sets_ahead old → IsRestriction p sets → All Restricts parts
        → first (part_flaws position sets tree ++ parts_flaws (position + length (preorder tree)) parts) ≡ all
        → (found : Option Flaw) → GoesOver p d position row old new found → Follows rest (position + 1) new all found
    part_follows row named sets (Leaf table) parts rows here ahead restriction restrictions flaws found goes =
        let row_is : row ≡ shape.Leaf table = cc in
        let rest_is : rest ≡ rows_of parts = cc in
        let at_leaf = subst (λ (r : Shape). GoesOver p d position r old new found) row_is goes in
        let place : position + length (preorder (Leaf table)) ≡ position + 1 = omega arith in
        leaf_follows table parts rest_is ahead restrictions
        (ap (λ (s : List LayerSet). first (named_flaws p d.bound position s (slice_get d.tables.items table)
        ++ parts_flaws (position + 1) parts)) (sym here)
        ∙ ap (λ (n : ℕ). first (part_flaws position sets (Leaf table) ++ parts_flaws n parts)) (sym place) ∙ flaws)
        found at_leaf.0 at_leaf.1
    part_follows row named sets (Split trip left lower upper) parts rows here ahead restriction restrictions flaws found
        goes =
        let row_is : row ≡ shape.Split trip left = cc in
        let rest_is : rest ≡ (preorder lower ++ preorder upper) ++ rows_of parts = cc in
        let at_split = subst (λ (r : Shape). GoesOver p d position r old new found) row_is goes in
        let of_instance = subst (IsShapeOf p (length d.tables.items)) row_is named in
        let restricts : IsRestriction p old.sets.items = subst (IsRestriction p) here restriction in
        split_follows trip left lower upper parts (omega (arith, of_instance.0, restricts.each_trip))
        (λ l has. omega (arith, of_instance.2 l has, instance.few_layers)) rest_is ahead restricts restrictions
        (ap (λ (s : List LayerSet). first (parts_flaws position ((s, Split trip left lower upper) ∷ parts))) (sym here)
        ∙ flaws)
        found (is_proper_part left (set_of old.sets.items trip.0)) refl at_split

    some_parts : (row : Shape) → IsShapeOf p (length d.tables.items) row → (parts : List Part)
        → row ∷ rest ≡ rows_of parts → (parts ≡ []) ⊎ (sets_of parts ≡ old.sets.items ∷ sets_ahead old)
        → All Restricts parts → first (parts_flaws position parts) ≡ all
        → (found : Option Flaw) → GoesOver p d position row old new found → Follows rest (position + 1) new all found
    some_parts row named [] rows sets restrictions flaws found goes = cc
    some_parts row named (part ∷ parts) rows (inl none) restrictions flaws found goes = cc
    some_parts row named (part ∷ parts) rows (inr some) restrictions flaws found goes =
        let here : part.0 ≡ old.sets.items = cc in
        let ahead : sets_of parts ≡ sets_ahead old = cc in
        part_follows row named part.0 part.1 parts rows here ahead (All-head Restricts part parts restrictions)
        (All-tail Restricts part parts restrictions) flaws found goes

  -- what the row at a position of some rows leaves
  pub row_follows : IsInstance p → (rows : List Shape) (position : ℕ) (default : Shape) → position < length rows
      → All (IsShapeOf p (length d.tables.items)) rows → (old new : Walk) (all : Option Flaw)
      → IsBefore (drop position rows) position old all
      → (found : Option Flaw) → GoesOver p d position (get_or rows position default) old new found
      → Follows (drop (position + 1) rows) (position + 1) new all found
  row_follows instance rows position default inside named old new all before found goes =
      some_parts instance position old new (drop (position + 1) rows) all (get_or rows position default)
      (All-get_or (IsShapeOf p (length d.tables.items)) rows position default inside named) before.parts
      (sym (drop_more rows position default inside) ∙ before.rows_are) before.sets_are before.restrictions
      before.flaw_is found goes

  -- where a row is still to come, the walk's sets are a restriction
  pub walk_restricts : (rows : List Shape) (position : ℕ) → position < length rows → (walk : Walk) (all : Option Flaw)
      → IsBefore (drop position rows) position walk all → IsRestriction p walk.sets.items
  walk_restricts rows position inside walk all before =
      by_parts before.parts (sym (drop_more rows position (shape.Leaf 0) inside) ∙ before.rows_are) before.sets_are
      before.restrictions
    where
      by_parts : (parts : List Part) → get_or rows position (shape.Leaf 0) ∷ drop (position + 1) rows ≡ rows_of parts
          → (parts ≡ []) ⊎ (sets_of parts ≡ walk.sets.items ∷ sets_ahead walk) → All Restricts parts
          → IsRestriction p walk.sets.items
      by_parts [] rows sets restrictions = cc
      by_parts (part ∷ parts) rows (inl none) restrictions = cc
      by_parts (part ∷ parts) rows (inr some) restrictions =
          let here : part.0 ≡ walk.sets.items = cc in
          subst (IsRestriction p) here (All-head Restricts part parts restrictions)

  -- the walk is before the whole tree as it begins
  pub root_before : IsInstance p → (tree : Tree) → d.shape.items ≡ preorder tree → (walk : Walk)
      → walk.sets.items ≡ permitted_sets p → walk.ahead.items ≡ []
      → IsBefore d.shape.items 0 walk (first (shape_flaws p d))
  root_before instance tree shape walk sets ahead = record {
    parts = (permitted_sets p, tree) ∷ [];
    rows_are = shape ∙ sym (append-nil (preorder tree));
    sets_are =
        inr (ap (λ (s : List LayerSet). s ∷ []) (sym sets)
        ∙ ap (λ (cs : List Change). walk.sets.items ∷ sets_along walk.sets.items (reverse cs)) (sym ahead));
    restrictions = All-cons Restricts (permitted_sets p, tree) [] (permitted_sets-IsRestriction p instance)
        (All-nil Restricts);
    flaw_is =
        ap first (append-nil (part_flaws 0 (permitted_sets p) tree) ∙ sym (flaws_of_tree p d tree shape));
  }

  -- behind the last row no flaw is left
  pub none_left : (rows : List Shape) (position : ℕ) → length rows ≤ position → (walk : Walk) (all : Option Flaw)
      → IsBefore (drop position rows) position walk all → nothing ≡ all
  none_left rows position past walk all before =
      by_parts before.parts (sym (drop_all position rows past) ∙ before.rows_are) before.flaw_is
    where
      by_parts : (parts : List Part) → [] ≡ rows_of parts → first (parts_flaws position parts) ≡ all → nothing ≡ all
      by_parts [] rows flaw = flaw
      by_parts ((sets, Leaf table) ∷ parts) rows flaw = cc
      by_parts ((sets, Split trip left lower upper) ∷ parts) rows flaw = cc
