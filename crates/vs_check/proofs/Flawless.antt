-- A document that was read has no flaw exactly where it holds.
use Rattle.std.proofs.Common.{◌≡◌, ℕ, Bool, true, false, not, List, [], length, get_or, refl, sym, ap, ◌∙◌, subst, arith, Option, Some, None as nothing, ℤ, pos}
use Rattle.std.specs.Prelude.{IfNone, MatchOption}
use Rattle.std.specs.List.{All}
use Rattle.std.proofs.lemmas.Bool.Decides.{Decides-int_eq}
use Rattle.vs_instance.specs.Firsts.{first}
use Rattle.vs_instance.specs.Instance.{IsInstance}
use Rattle.vs_instance.specs.Problem.{Problem}
use Rattle.vs_instance.specs.Plan.{IsPlan, LayerBlock, plan_cost}
use Rattle.vs_instance.specs.Restriction.{permitted_sets}
use Rattle.vs_instance.proofs.CallerLemmas.{None, both_none, none-append, false_from_none, none_from_false, each_none, none_each, none_from_first, permitted_sets-IsRestriction}
use Rattle.vs_plan.specs.Blocks.{IsOfInstance, blocks_of}
use Rattle.vs_plan.specs.PlanFaults.{faults_of}
use Rattle.vs_plan.specs.declared.plan_fault.PlanFault.{PlanFault}
use Rattle.vs_plan.proofs.CallerLemmas.{faultless, plan_from_faultless}
use Rattle.vs_prices.specs.Breaks.{breaks_of}
use Rattle.vs_prices.specs.Table.{HoldingTable}
use Rattle.vs_prices.specs.declared.broken_at.BrokenAt.{BrokenAt}
use Rattle.vs_prices.specs.declared.table.Table.{Table}
use Rattle.vs_prices.proofs.CallerLemmas.{holds_nowhere_broken, nowhere_broken}
use Rattle.vs_rows.specs.declared.document.Document.{Document}
use Rattle.vs_check.specs.Flaws.{broken_flaws, cost_flaws, flaws_of, plan_flaws, shape_flaws, table_flaws, tables_flaws}
use Rattle.vs_document.specs.Form.{Suits}
use Rattle.vs_rows.specs.Shapes.{IsShapeOf}
use Rattle.vs_check.specs.HoldingDocument.{HasTree, HoldingDocument}
use Rattle.vs_prices.specs.Claims.{claim_found}
use Rattle.vs_check.proofs.PlanFlaws.{claims_same, right_cost, same_claims}
use Rattle.vs_check.proofs.StrongTrees.{none_from_strong, strong_from_none}
use Rattle.vs_check.proofs.TreeRows.{flaws_of_tree}

not_true : (b : Bool) → not b ≡ false → b ≡ true
not_true true e = refl
not_true false e = cc

module _ (p : Problem) (blocks : List LayerBlock) where
  abbrev IsPlanAt : Option ℤ → Type 0
  IsPlanAt cost = MatchOption cost (blocks ≡ []) (λ c. IsPlan p blocks × (c ≡ pos (plan_cost p blocks)))

  plan_from_none : All (IsOfInstance p) blocks → (cost : Option ℤ) → IfNone cost (blocks ≡ [])
      → None (plan_flaws p blocks cost) → IsPlanAt cost
  plan_from_none judged nothing empty none = empty
  plan_from_none judged (Some cost) empty none = by_first (first (faults_of p blocks)) refl none
    where
      by_first : (f : Option PlanFault) → first (faults_of p blocks) ≡ f → None (cost_flaws p blocks cost f)
          → IsPlan p blocks × (cost ≡ pos (plan_cost p blocks))
      by_first nothing is none = (
        plan_from_faultless p blocks judged (faultless p blocks is),
        (Decides-int_eq cost (pos (plan_cost p blocks))).0 (not_true _ (false_from_none _ _ none)),
      )
      by_first (Some fault) is none = cc

  none_from_plan : (cost : Option ℤ) → IsPlanAt cost → None (plan_flaws p blocks cost)
  none_from_plan nothing is = refl
  none_from_plan (Some cost) is = right_cost p blocks cost is.0 is.1

broken_none : (t : ℕ) (at : Option BrokenAt) → None (broken_flaws t at) → at ≡ nothing
broken_none t nothing none = refl
broken_none t (Some at) none = cc

module _ (p : Problem) (tables : List Table) where
  tables_hold : None (tables_flaws p tables) → All (HoldingTable p) tables
  tables_hold none t d inside =
      let here = each_none (table_flaws p) 0 tables none t t d inside (omega arith) in
      holds_nowhere_broken p (get_or tables t d)
      (none_from_first (breaks_of p (get_or tables t d)) (broken_none t _ here))

  none_from_tables : All (HoldingTable p) tables → None (tables_flaws p tables)
  none_from_tables holds =
      none_each (table_flaws p) 0 tables (λ t j d inside is.
      ap (λ (bs : List BrokenAt). broken_flaws j (first bs)) (nowhere_broken p (get_or tables t d) (holds t d inside)))

module _ (p : Problem) (instance : IsInstance p) (d : Document) where
  tree_from_none : Suits p d → None (shape_flaws p d) → HasTree p d
  tree_from_none read none =
      let tree = read.tree.tree in
      let rows = read.tree.rows_are in
      record {
        tree = tree;
        shape_is = rows;
        strong = strong_from_none p d.tables.items d.bound instance 0 (permitted_sets p) tree
            (permitted_sets-IsRestriction p instance)
            (subst (All (IsShapeOf p (length d.tables.items))) rows read.shapes)
            (sym (flaws_of_tree p d tree rows) ∙ none);
      }

  none_from_tree : HasTree p d → None (shape_flaws p d)
  none_from_tree has =
      flaws_of_tree p d has.tree has.shape_is
      ∙ none_from_strong p d.tables.items d.bound instance 0 (permitted_sets p) has.tree
      (permitted_sets-IsRestriction p instance) has.strong

  pub holds_from_none : Suits p d → None (flaws_of p d) → HoldingDocument p d
  holds_from_none read none =
      let three = both_none _ _ none in
      let two = both_none _ _ three.0 in
      let one = both_none _ _ two.0 in
      let holds = tables_hold p d.tables.items one.1 in
      record {
        plan = plan_from_none p (blocks_of d.plan) read.blocks d.cost read.no_blocks one.0;
        tables = λ t e inside. (read.tables t e inside, holds t e inside);
        tree = tree_from_none read two.1;
        claim = claims_same d.claim (claim_found d.cost d.bound) (not_true _ (false_from_none _ _ three.1));
      }

  pub none_from_holds : HoldingDocument p d → None (flaws_of p d)
  none_from_holds holds =
      none-append _ _ (none-append _ _ (none-append _ _ (none_from_plan p (blocks_of d.plan) d.cost holds.plan)
      (none_from_tables p d.tables.items (λ t e inside. (holds.tables t e inside).1)))
      (none_from_tree holds.tree))
      (none_from_false _ _ (ap not (same_claims d.claim (claim_found d.cost d.bound) holds.claim)))
