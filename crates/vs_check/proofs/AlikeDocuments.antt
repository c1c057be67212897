-- Documents that are alike have the same flaws.
use Rattle.std.proofs.Common.{◌≡◌, ℕ, zero, suc, ◌+◌, ◌<◌, Bool, true, false, cond, List, [], ◌∷◌, ◌++◌, length, refl, sym, ap, ◌∙◌, subst, arith, Option, ℤ}
use Rattle.std.specs.List.{All, AllZip, enumerate_from, flat_map, slice_get}
use Rattle.std.proofs.lemmas.List.Elements.{All-head, All-tail}
use Rattle.vs_types.specs.declared.layer_set.LayerSet.{LayerSet}
use Rattle.vs_types.specs.declared.numbers.TripNo.{TripNo}
use Rattle.vs_instance.specs.Firsts.{first}
use Rattle.vs_instance.specs.Instance.{IsInstance}
use Rattle.vs_instance.specs.Plan.{LayerBlock}
use Rattle.vs_instance.specs.Problem.{Problem}
use Rattle.vs_instance.specs.Restriction.{IsRestriction, permitted_sets, set_of}
use Rattle.vs_instance.proofs.CallerLemmas.{permitted_sets-IsRestriction}
use Rattle.vs_plan.specs.Blocks.{blocks_of}
use Rattle.vs_prices.specs.declared.bound.Bound.{Bound}
use Rattle.vs_prices.specs.declared.broken_at.BrokenAt.{BrokenAt}
use Rattle.vs_prices.specs.declared.table.Table.{Table}
use Rattle.vs_prices.specs.Claims.{claim_found}
use Rattle.vs_prices.specs.Tree.{Tree, Leaf, Split, right_of, with_set}
use Rattle.vs_prices.specs.declared.claim.Claim.{Claim}
use Rattle.vs_prices.proofs.CallerLemmas.{left-restricts, right-restricts}
use Rattle.vs_document.specs.Alike.{AreAlike}
use Rattle.vs_document.specs.Form.{Suits}
use Rattle.vs_rows.specs.DocumentText.{Agree}
use Rattle.vs_rows.specs.Shapes.{IsShapeOf, preorder}
use Rattle.vs_rows.specs.declared.document.Document.{Document}
use Rattle.vs_rows.specs.declared.document.Shape.{Shape}
use Rattle.vs_rows.specs.declared.document.Shape.TheVariants as shape
use Rattle.vs_rows.proofs.CallerLemmas.{All-both}
use Rattle.vs_check.specs.Flaws.{broken_flaws, claim_flaws, flaws_of, leaf_flaws, named_flaws, plan_flaws, shape_flaws, table_flaws, tables_flaws, tree_flaws}
use Rattle.vs_types.specs.Parts.{is_proper_part}
use Rattle.vs_check.specs.Laws.{AlikeDocumentsAreJudgedAlike}
use Rattle.vs_check.specs.declared.flaw.Flaw.{Flaw}
use Rattle.vs_check.specs.declared.flaw.Flaw.TheVariants.{BadSplit}
use Rattle.vs_check.proofs.AgreeingTables.{same_breaks, same_worth}
use Rattle.vs_check.proofs.Flawless.{holds_from_none, none_from_holds}
use Rattle.vs_types.proofs.CallerLemmas.{proper_from_test}
use Rattle.vs_check.proofs.TreeRows.{flaws_of_tree}

module _ (p : Problem) where
  same_tables : (n : ℕ) (ts us : List Table) → AllZip (Agree p) ts us
      → flat_map (λ e. table_flaws p e.0 e.1) (enumerate_from n ts)
      ≡ flat_map (λ e. table_flaws p e.0 e.1) (enumerate_from n us)
  same_tables n [] [] agree = refl
  same_tables n [] (u ∷ us) agree = absurd agree
  same_tables n (t ∷ ts) [] agree = absurd agree
  same_tables n (t ∷ ts) (u ∷ us) agree =
      ap (λ (bs : List BrokenAt). broken_flaws n (first bs)
      ++ flat_map (λ e. table_flaws p e.0 e.1) (enumerate_from (n + 1) ts)) (same_breaks p t u agree.0)
      ∙ ap (λ (fs : List Flaw). table_flaws p n u ++ fs) (same_tables (n + 1) ts us agree.1)

  module _ (instance : IsInstance p) (bound : Option ℤ) where
    same_leaf : (position : ℕ) (sets : List LayerSet) → IsRestriction p sets → (k : ℕ) (ts us : List Table)
        → AllZip (Agree p) ts us
        → named_flaws p bound position sets (slice_get ts k) ≡ named_flaws p bound position sets (slice_get us k)
    same_leaf position sets restriction k [] [] agree = refl
    same_leaf position sets restriction k [] (u ∷ us) agree = absurd agree
    same_leaf position sets restriction k (t ∷ ts) [] agree = absurd agree
    same_leaf position sets restriction zero (t ∷ ts) (u ∷ us) agree =
        ap (λ (b : Bound). leaf_flaws position b bound) (same_worth p t u agree.0 instance sets restriction)
    same_leaf position sets restriction (suc k) (t ∷ ts) (u ∷ us) agree =
        same_leaf position sets restriction k ts us agree.1

    module _ (ts us : List Table) (agree : AllZip (Agree p) ts us) (tables : ℕ) where
      abbrev Named : Shape → Type 0
      Named row = IsShapeOf p tables row

      abbrev Same : ℕ → List LayerSet → Tree → Type 0
      Same position sets tree = tree_flaws p ts bound position sets tree ≡ tree_flaws p us bound position sets tree

      same_split : (position : ℕ) (sets : List LayerSet) (trip : TripNo) (left : LayerSet) (lower upper : Tree)
          → IsRestriction p sets → All Named (preorder (Split trip left lower upper))
          → (IsRestriction p (with_set sets trip left) → All Named (preorder lower)
          → Same (position + 1) (with_set sets trip left) lower)
          → (IsRestriction p (with_set sets trip (right_of sets trip left)) → All Named (preorder upper)
          → Same (position + 1 + length (preorder lower)) (with_set sets trip (right_of sets trip left)) upper)
          → (b : Bool) → is_proper_part left (set_of sets trip.0) ≡ b
          → cond b (tree_flaws p ts bound (position + 1) (with_set sets trip left) lower
          ++ tree_flaws p ts bound (position + 1 + length (preorder lower))
          (with_set sets trip (right_of sets trip left)) upper) (BadSplit position ∷ [])
          ≡ cond b (tree_flaws p us bound (position + 1) (with_set sets trip left) lower
          ++ tree_flaws p us bound (position + 1 + length (preorder lower))
          (with_set sets trip (right_of sets trip left)) upper) (BadSplit position ∷ [])
      same_split position sets trip left lower upper restriction named on_left on_right false test = refl
      same_split position sets trip left lower upper restriction named on_left on_right true test =
          let of_instance = All-head Named (shape.Split trip left) (preorder lower ++ preorder upper) named in
          let inside : trip.0 < length sets = omega (arith, of_instance.0, restriction.each_trip) in
          let proper = proper_from_test left (set_of sets trip.0)
          (λ l has. omega (arith, of_instance.2 l has, instance.few_layers)) test in
          let rows = All-both Named (preorder lower) (preorder upper)
          (All-tail Named (shape.Split trip left) (preorder lower ++ preorder upper) named) in
          ap (λ (fs : List Flaw). fs ++ tree_flaws p ts bound (position + 1 + length (preorder lower))
          (with_set sets trip (right_of sets trip left)) upper)
          (on_left (left-restricts p sets trip left inside proper restriction) rows.0)
          ∙ ap (λ (fs : List Flaw). tree_flaws p us bound (position + 1) (with_set sets trip left) lower ++ fs)
          (on_right (right-restricts p sets trip left inside proper restriction) rows.1)

      same_tree : (position : ℕ) (sets : List LayerSet) (tree : Tree) → IsRestriction p sets
          → All Named (preorder tree) → Same position sets tree
      same_tree position sets (Leaf table) restriction named =
          same_leaf position sets restriction table ts us agree
      same_tree position sets (Split trip left lower upper) restriction named =
          same_split position sets trip left lower upper restriction named
          (same_tree (position + 1) (with_set sets trip left) lower)
          (same_tree (position + 1 + length (preorder lower)) (with_set sets trip (right_of sets trip left)) upper)
          (is_proper_part left (set_of sets trip.0)) refl

module _ (p : Problem) (d e : Document) (instance : IsInstance p) (alike : AreAlike p d e) where
  same_shape : Suits p d → shape_flaws p d ≡ shape_flaws p e
  same_shape read =
      let tree = read.tree.tree in
      let rows = read.tree.rows_are in
      let named : All (IsShapeOf p (length d.tables.items)) (preorder tree) =
      subst (All (IsShapeOf p (length d.tables.items))) rows read.shapes in
      flaws_of_tree p d tree rows
      ∙ same_tree p instance d.bound d.tables.items e.tables.items alike.tables (length d.tables.items) 0
      (permitted_sets p) tree (permitted_sets-IsRestriction p instance) named
      ∙ ap (λ (b : Option ℤ). tree_flaws p e.tables.items b 0 (permitted_sets p) tree) alike.bound
      ∙ sym (flaws_of_tree p e tree (sym alike.shape ∙ rows))

  same_flaws : Suits p d → flaws_of p d ≡ flaws_of p e
  same_flaws read =
      let plan : plan_flaws p (blocks_of d.plan) d.cost ≡ plan_flaws p (blocks_of e.plan) e.cost =
      ap (λ (bs : List LayerBlock). plan_flaws p bs d.cost) alike.blocks
      ∙ ap (plan_flaws p (blocks_of e.plan)) alike.cost in
      let tables : tables_flaws p d.tables.items ≡ tables_flaws p e.tables.items =
      same_tables p 0 d.tables.items e.tables.items alike.tables in
      let shape_is = same_shape read in
      let claim : claim_flaws d.claim (claim_found d.cost d.bound) ≡ claim_flaws e.claim (claim_found e.cost e.bound) =
      ap (λ (c : Claim). claim_flaws c (claim_found d.cost d.bound)) alike.claim
      ∙ ap (λ (c : Option ℤ). claim_flaws e.claim (claim_found c d.bound)) alike.cost
      ∙ ap (λ (b : Option ℤ). claim_flaws e.claim (claim_found e.cost b)) alike.bound in
      ap (λ (fs : List Flaw). fs ++ tables_flaws p d.tables.items ++ shape_flaws p d
      ++ claim_flaws d.claim (claim_found d.cost d.bound)) plan
      ∙ ap (λ (fs : List Flaw). plan_flaws p (blocks_of e.plan) e.cost ++ fs ++ shape_flaws p d
      ++ claim_flaws d.claim (claim_found d.cost d.bound)) tables
      ∙ ap (λ (fs : List Flaw). plan_flaws p (blocks_of e.plan) e.cost ++ tables_flaws p e.tables.items ++ fs
      ++ claim_flaws d.claim (claim_found d.cost d.bound)) shape_is
      ∙ ap (λ (fs : List Flaw). plan_flaws p (blocks_of e.plan) e.cost ++ tables_flaws p e.tables.items
      ++ shape_flaws p e ++ fs) claim

pub judged_alike : AlikeDocumentsAreJudgedAlike
judged_alike p d e instance read also alike =
    let flaws = same_flaws p d e instance alike read in
    record {
      flaws = flaws;
      holds = (
        (λ holds. holds_from_none p instance e also (sym flaws ∙ none_from_holds p instance d holds)),
        (λ holds. holds_from_none p instance d read (flaws ∙ none_from_holds p instance e holds)),
      );
    }
