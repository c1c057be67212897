-- The rows of a tree gone over one by one: the trees that are still to come, and the leaves so far.
use Rattle.std.proofs.Common.{◌≡◌, ℕ, ◌<◌, List, [], ◌∷◌, ◌++◌, length, map, reverse, refl, sym, ap, ◌∙◌, subst, append_assoc, Vec, Global}
use Rattle.std.specs.List.{All, AllZip, flat_map}
use Rattle.std.proofs.lemmas.List.{append-nil, map_push, reverse-append}
use Rattle.std.proofs.lemmas.List.Elements.{All-head}
use Rattle.vs_types.specs.declared.layer_set.LayerSet.{LayerSet}
use Rattle.vs_instance.specs.Problem.{Problem}
use Rattle.vs_instance.specs.Restriction.{IsRestriction}
use Rattle.vs_prices.specs.declared.table.Table.{Table}
use Rattle.vs_prices.specs.Tree.{IsGoodTree, Leaf, LeafPlace, Split, Tree, leaves, right_of, with_set}
use Rattle.vs_prices.proofs.CallerLemmas.{left-restricts, right-restricts}
use Rattle.vs_rows.specs.Shapes.{preorder}
use Rattle.vs_rows.specs.declared.document.Shape.{Shape}
use Rattle.vs_rows.specs.declared.document.Shape.TheVariants as shape
use Rattle.vs_rows.proofs.CallerLemmas.{All-both}
use Rattle.vs_resume.specs.declared.cases.Case.{Case}
use Rattle.vs_resume.specs.declared.cases.Walk.{Walk}
use Rattle.vs_resume.specs.Cases.{AreCasesOf, CanGoOver, GoesOver, IsCaseOf, sets_ahead}
use Rattle.vs_resume.proofs.trees.Zips.{zip-append}

-- a tree that is still to come at a part with these layers
pub record IsToCome (p : Problem) (tables : ℕ) (sets : List LayerSet) (tree : Tree) : Type 0 where
  pub restricts : IsRestriction p sets
  pub good : IsGoodTree sets tree
  pub named : All (λ leaf. leaf.table < tables) (leaves sets tree)

-- the leaves of trees at parts with these layers, one after the other
abbrev pub leaves_ahead : List (List LayerSet) → List Tree → List LeafPlace
leaves_ahead [] trees = []
leaves_ahead (sets ∷ ahead) [] = []
leaves_ahead (sets ∷ ahead) (tree ∷ trees) = leaves sets tree ++ leaves_ahead ahead trees

-- a row at a part with these layers can be gone over
pub record CanCome (p : Problem) (tables : ℕ) (row : Shape) (ahead : List (List LayerSet)) : Type 0 where
  pub here : List LayerSet
  pub others : List (List LayerSet)
  pub ahead_are : ahead ≡ here ∷ others
  pub restricts : IsRestriction p here
  pub can : CanGoOver tables here row

-- at a part with these layers it can
pub record IsTaken (p : Problem) (tables : ℕ) (row : Shape) (here : List LayerSet) : Type 0 where
  pub restricts : IsRestriction p here
  pub can : CanGoOver tables here row

-- the layers that are taken off the end were the next ones
pub taken_off : (before after : List (Vec LayerSet Global)) (here : Vec LayerSet Global) → before ≡ after ++ here ∷ []
    → reverse (map (λ sets. sets.items) before) ≡ here.items ∷ reverse (map (λ sets. sets.items) after)
taken_off before after here is =
    ap (λ (vs : List (Vec LayerSet Global)). reverse (map (λ sets. sets.items) vs)) is
    ∙ ap reverse (map_push (λ (sets : Vec LayerSet Global). sets.items) after here)
    ∙ reverse-append (map (λ (sets : Vec LayerSet Global). sets.items) after) (here.items ∷ [])

module _ (p : Problem) (tables : List Table) (root : List LayerSet) (tree : Tree) where
  -- these rows of the tree are still to come, and the leaves of the others are found
  pub record IsOnWalk (rest : List Shape) (walk : Walk) : Type 0 where
    pub trees : List Tree
    pub rows_are : rest ≡ flat_map preorder trees
    pub to_come : AllZip (IsToCome p (length tables)) (sets_ahead walk) trees
    pub places : List LeafPlace
    pub leaves_are : leaves root tree ≡ places ++ leaves_ahead (sets_ahead walk) trees
    pub cases : AreCasesOf p tables places walk.cases.items

  can_come : (trees : List Tree) (ahead : List (List LayerSet)) (row : Shape) (rest : List Shape)
      → row ∷ rest ≡ flat_map preorder trees → AllZip (IsToCome p (length tables)) ahead trees
      → CanCome p (length tables) row ahead
  can_come [] ahead row rest rows each = absurd cc
  can_come (t ∷ trees) [] row rest rows each = absurd each
  can_come (Leaf n ∷ trees) (here ∷ others) row rest rows each =
      let is : shape.Leaf n ≡ row = cc in
      record {
        here = here;
        others = others;
        ahead_are = refl;
        restricts = each.0.restricts;
        can = subst (CanGoOver (length tables) here) is
            (All-head (λ (leaf : LeafPlace). leaf.table < length tables) (record { sets = here; table = n }) []
            each.0.named);
      }
  can_come (Split trip left lower upper ∷ trees) (here ∷ others) row rest rows each =
      let is : shape.Split trip left ≡ row = cc in
      record {
        here = here;
        others = others;
        ahead_are = refl;
        restricts = each.0.restricts;
        can = subst (CanGoOver (length tables) here) is each.0.good.0;
      }

  pub next_comes : (row : Shape) (rest : List Shape) (walk : Walk) → IsOnWalk (row ∷ rest) walk
      → CanCome p (length tables) row (sets_ahead walk)
  next_comes row rest walk on = can_come on.trees (sets_ahead walk) row rest on.rows_are on.to_come

  -- it is gone over at the layers that are taken off
  pub next_taken : (row : Shape) (rest : List Shape) (walk : Walk) → IsOnWalk (row ∷ rest) walk
      → (after : List (Vec LayerSet Global)) (here : Vec LayerSet Global) → walk.ahead.items ≡ after ++ here ∷ []
      → IsTaken p (length tables) row here.items
  next_taken row rest walk on after here is =
      let next = next_comes row rest walk on in
      let both = sym next.ahead_are ∙ taken_off walk.ahead.items after here is in
      let same : next.here ≡ here.items = cc in
      record {
        restricts = subst (IsRestriction p) same next.restricts;
        can = subst (λ (sets : List LayerSet). CanGoOver (length tables) sets row) same next.can;
      }

  -- behind a row
  goes_on : (trees : List Tree) (row : Shape) (rest : List Shape) (here : List LayerSet)
      (others : List (List LayerSet)) (places : List LeafPlace) (mid new : Walk)
      → row ∷ rest ≡ flat_map preorder trees → AllZip (IsToCome p (length tables)) (here ∷ others) trees
      → leaves root tree ≡ places ++ leaves_ahead (here ∷ others) trees → AreCasesOf p tables places mid.cases.items
      → sets_ahead mid ≡ others → GoesOver p tables row here mid new → IsOnWalk rest new
  goes_on [] row rest here others places mid new rows each all cases ahead goes = absurd cc
  goes_on (Leaf n ∷ trees) row rest here others places mid new rows each all cases ahead goes =
      let is : row ≡ shape.Leaf n = cc in
      let more : rest ≡ flat_map preorder trees = cc in
      let noted = subst (λ (r : Shape). GoesOver p tables r here mid new) is goes in
      let now : others ≡ sets_ahead new = sym (noted.ahead ∙ ahead) in
      let leaf : LeafPlace = record { sets = here; table = n } in
      record {
        trees = trees;
        rows_are = more;
        to_come = subst (λ (ss : List (List LayerSet)). AllZip (IsToCome p (length tables)) ss trees) now each.1;
        places = places ++ leaf ∷ [];
        leaves_are = all ∙ sym (append_assoc places (leaf ∷ []) (leaves_ahead others trees))
            ∙ ap (λ (ss : List (List LayerSet)). (places ++ leaf ∷ []) ++ leaves_ahead ss trees) now;
        cases = subst (λ (cs : List Case). AreCasesOf p tables (places ++ leaf ∷ []) cs) (sym noted.cases)
            (zip-append (IsCaseOf p tables) places (leaf ∷ []) mid.cases.items (noted.found ∷ []) cases
            (noted.is_case, tt));
      }
  goes_on (Split trip left lower upper ∷ trees) row rest here others places mid new rows each all cases ahead goes =
      let is : row ≡ shape.Split trip left = cc in
      let more : rest ≡ (preorder lower ++ preorder upper) ++ flat_map preorder trees = cc in
      let went = subst (λ (r : Shape). GoesOver p tables r here mid new) is goes in
      let low = with_set here trip left in
      let high = with_set here trip (right_of here trip left) in
      let now : low ∷ high ∷ others ≡ sets_ahead new =
      sym (went.0 ∙ ap (λ (ss : List (List LayerSet)). low ∷ high ∷ ss) ahead) in
      let both = All-both (λ (leaf : LeafPlace). leaf.table < length tables) (leaves low lower) (leaves high upper)
      each.0.named in
      let good = each.0.good in
      record {
        trees = lower ∷ upper ∷ trees;
        rows_are = more ∙ append_assoc (preorder lower) (preorder upper) (flat_map preorder trees);
        to_come = subst (λ (ss : List (List LayerSet)).
            AllZip (IsToCome p (length tables)) ss (lower ∷ upper ∷ trees)) now (
              record {
                restricts = left-restricts p here trip left good.0 good.1 each.0.restricts;
                good = good.2;
                named = both.0;
              },
              (
                record {
                  restricts = right-restricts p here trip left good.0 good.1 each.0.restricts;
                  good = good.3;
                  named = both.1;
                },
                each.1,
              ),
            );
        places = places;
        leaves_are = all
            ∙ ap (λ (ls : List LeafPlace). places ++ ls)
            (append_assoc (leaves low lower) (leaves high upper) (leaves_ahead others trees))
            ∙ ap (λ (ss : List (List LayerSet)). places ++ leaves_ahead ss (lower ∷ upper ∷ trees)) now;
        cases = subst (λ (v : Vec Case Global). AreCasesOf p tables places v.items) (sym went.1) cases;
      }

  pub behind_row : (row : Shape) (rest : List Shape) (here : List LayerSet) (others : List (List LayerSet))
      (walk mid new : Walk) → IsOnWalk (row ∷ rest) walk → sets_ahead walk ≡ here ∷ others
      → mid.cases.items ≡ walk.cases.items → sets_ahead mid ≡ others → GoesOver p tables row here mid new
      → IsOnWalk rest new
  behind_row row rest here others walk mid new on ahead cases behind goes =
      goes_on on.trees row rest here others on.places mid new on.rows_are
      (subst (λ (ss : List (List LayerSet)). AllZip (IsToCome p (length tables)) ss on.trees) ahead on.to_come)
      (on.leaves_are ∙ ap (λ (ss : List (List LayerSet)). on.places ++ leaves_ahead ss on.trees) ahead)
      (subst (λ (cs : List Case). AreCasesOf p tables on.places cs) (sym cases) on.cases) behind goes

  -- before the first row, and behind the last one
  pub at_root : (rows : List Shape) (walk : Walk) → rows ≡ preorder tree → IsToCome p (length tables) root tree
      → sets_ahead walk ≡ root ∷ [] → walk.cases.items ≡ [] → IsOnWalk rows walk
  at_root rows walk rows_are comes ahead none = record {
    trees = tree ∷ [];
    rows_are = rows_are ∙ sym (append-nil (preorder tree));
    to_come = subst (λ (ss : List (List LayerSet)). AllZip (IsToCome p (length tables)) ss (tree ∷ [])) (sym ahead)
        (comes, tt);
    places = [];
    leaves_are = sym (append-nil (leaves root tree))
        ∙ ap (λ (ss : List (List LayerSet)). leaves_ahead ss (tree ∷ [])) (sym ahead);
    cases = subst (λ (cs : List Case). AreCasesOf p tables [] cs) (sym none) tt;
  }

  nothing_ahead : (trees : List Tree) (ahead : List (List LayerSet)) → [] ≡ flat_map preorder trees
      → leaves_ahead ahead trees ≡ []
  nothing_ahead [] [] rows = refl
  nothing_ahead [] (sets ∷ ahead) rows = refl
  nothing_ahead (Leaf n ∷ trees) ahead rows = absurd cc
  nothing_ahead (Split trip left lower upper ∷ trees) ahead rows = absurd cc

  pub at_end : (walk : Walk) → IsOnWalk [] walk → AreCasesOf p tables (leaves root tree) walk.cases.items
  at_end walk on =
      let none = nothing_ahead on.trees (sets_ahead walk) on.rows_are in
      let all : on.places ≡ leaves root tree =
      sym (on.leaves_are ∙ ap (λ (ls : List LeafPlace). on.places ++ ls) none ∙ append-nil on.places) in
      subst (λ (ls : List LeafPlace). AreCasesOf p tables ls walk.cases.items) all on.cases

-- these rows of a tree are still to come
pub record AreGoneOver (p : Problem) (tables : List Table) (root : List LayerSet) (rows rest : List Shape)
    (walk : Walk) : Type 0 where
  pub tree : Tree
  pub rows_are : rows ≡ preorder tree
  pub on_walk : IsOnWalk p tables root tree rest walk

-- one more that is put behind some
pub one_put : (before after : List (Vec LayerSet Global)) (last : Vec LayerSet Global) → after ≡ before ++ last ∷ []
    → map (λ sets. sets.items) after ≡ map (λ sets. sets.items) before ++ last.items ∷ []
one_put before after last is =
    ap (λ (vs : List (Vec LayerSet Global)). map (λ (sets : Vec LayerSet Global). sets.items) vs) is
    ∙ map_push (λ (sets : Vec LayerSet Global). sets.items) before last
