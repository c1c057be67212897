-- The document of a state.
use Rattle.std.proofs.Common.{◌≡◌, ℕ, ◌<◌, ◌≤◌, ◌^◌, List, [], ◌∷◌, ◌++◌, length, map, refl, sym, ap, ◌∙◌, subst, arith, Option, None, ℤ, pos}
use Rattle.std.specs.Prelude.{IfNone, IfSome, flat_map}
use Rattle.std.specs.List.{All, enumerate_from}
use Rattle.std.specs.declared.alloc.Global.{Global}
use Rattle.std.specs.declared.vec.Vec.{Vec}
use Rattle.std.proofs.lemmas.List.{length-map}
use Rattle.vs_instance.specs.Instance.{IsInstance}
use Rattle.vs_instance.specs.Plan.{LayerBlock}
use Rattle.vs_instance.specs.Problem.{Problem}
use Rattle.vs_instance.specs.Restriction.{permitted_sets}
use Rattle.vs_instance.proofs.CallerLemmas.{permitted_sets-IsRestriction}
use Rattle.vs_plan.specs.Blocks.{IsOfInstance, blocks_of}
use Rattle.vs_plan.specs.declared.block.Plan.{Plan}
use Rattle.vs_tree.specs.History.{Opening, State, incumbent, known}
use Rattle.vs_tree.specs.Prices.{Prices, prices_of}
use Rattle.vs_tree.specs.Report.{IsReport}
use Rattle.vs_tree.specs.Sound.{IsSound}
use Rattle.vs_tree.specs.declared.calls.Report.{Report}
use Rattle.vs_instance.specs.declared.limits.TheConstants.{MAX_BUDGET}
use Rattle.vs_rows.specs.DocumentRows.{BlockRow, DocumentRow, EndRow, IsBetween, head_of, rows_of_document, shape_row}
use Rattle.vs_rows.specs.DocumentText.{HasText}
use Rattle.vs_rows.specs.Shapes.{IsShapeOf}
use Rattle.vs_cert.specs.StateDocument.{IsDocumentOf, IsRenumbered, known_blocks}
use Rattle.vs_cert.specs.TreeRows.{AreRowsOf}
use Rattle.vs_cert.specs.TreeText.{numbered_rows, prices_of_number, prices_rows}
use Rattle.vs_rows.specs.declared.document.Document.{Document}
use Rattle.vs_rows.specs.declared.limits.TheConstants.{MAX_COST}
use Rattle.vs_rows.specs.declared.document.Shape.{Shape}
use Rattle.vs_cert.proofs.states.StateRanges.{blocks_of_instance, bound_fits, known_fits, no_blocks, none_known}
use Rattle.vs_cert.proofs.states.TreeShapes.{rows_of_instance}
use Rattle.vs_cert.proofs.states.TreeTables.{HasTables, numbers_within, some_tables, tables_rows-prices}
use denote.RawPtr.{null_ptr}

-- a vector of these elements
pub vec_of : {X : Type 0} (xs : List X) → length xs < 2 ^ 63 → Vec X Global
vec_of xs few = record {
  ptr = null_ptr;
  len = length xs;
  cap = length xs;
  alloc = record { memory = record { seal = tt } };
  items = xs;
  ok = (refl, omega arith);
  small = few;
}

pub vec-items : {X : Type 0} (xs : List X) (few : length xs < 2 ^ 63) → (vec_of xs few).items ≡ xs
unfolding vec_of
vec-items xs few = refl

module _ (o : Opening) (s : State) (instance : IsInstance o.problem) (budget : o.budget ≤ MAX_BUDGET)
    (sound : IsSound o s) (numbers : List ℕ) (rows : List Shape) (are : AreRowsOf o s numbers rows) where
  -- there are few tables
  pub few_numbers : length numbers ≤ 100001
  few_numbers = omega (arith, are.few, sound.count_tables, sound.budget)

  -- each row of the tree names what there is
  pub shapes_are : All (IsShapeOf o.problem (length numbers)) rows
  shapes_are =
      subst (All (IsShapeOf o.problem (length numbers))) (sym are.rows_are)
      (rows_of_instance o.problem instance numbers are.tree are.shape (permitted_sets o.problem)
      (permitted_sets-IsRestriction o.problem instance) are.is_tree.good are.renumbered)

module _ (o : Opening) (s : State) (instance : IsInstance o.problem) (budget : o.budget ≤ MAX_BUDGET)
    (sound : IsSound o s) (report : Report) (is_report : IsReport o.problem s report) (plan : Plan)
    (blocks : blocks_of plan ≡ known_blocks (incumbent s)) (numbers : List ℕ) (rows : Vec Shape Global)
    (are : AreRowsOf o s numbers rows.items) where
  abbrev p : Problem
  p = o.problem

  -- the tables that leaves name
  abbrev written : HasTables o s sound numbers
  written = some_tables o s sound numbers (numbers_within o s sound numbers rows.items are)

  few : length numbers ≤ 100001
  few = few_numbers o s instance budget sound numbers rows.items are

  size : length written.tables ≡ length numbers
  size =
      sym (length-map written.tables prices_of) ∙ ap (λ (xs : List Prices). length xs) written.listed
      ∙ length-map numbers (prices_of_number s)

  few_tables : length written.tables < 2 ^ 63
  few_tables = omega (arith, size, few)

  -- the document
  pub document : Document
  document = record {
    claim = report.claim;
    cost = report.cost;
    bound = report.bound;
    nodes = report.finished;
    plan = plan;
    tables = vec_of written.tables few_tables;
    shape = rows;
  }

  pub of_state : IsDocumentOf o s document
  unfolding document vec_of
  of_state = record {
    report = report;
    is_report = is_report;
    claim = refl;
    cost = refl;
    bound = refl;
    nodes = is_report.finished;
    blocks = blocks;
    tree = are.tree;
    is_tree = are.is_tree;
    shape = are.shape;
    renumbered = subst (λ (ns : List ℕ). IsRenumbered ns are.tree are.shape) are.numbers_are are.renumbered;
    rows_are = are.rows_are;
    tables = written.listed ∙ ap (map (prices_of_number s)) are.numbers_are;
  }

  pub has_text : HasText p document
  unfolding document vec_of
  has_text = record {
    cost = subst (λ (c : Option ℤ). IfSome c (IsBetween (pos 0) MAX_COST)) (sym is_report.cost)
        (known_fits o s instance sound);
    bound = bound_fits o s instance sound report.bound is_report.bound;
    no_cost = subst (λ (c : Option ℤ). IfNone report.bound (c ≡ None)) (sym is_report.cost)
        (none_known o s instance sound report.bound is_report.bound);
    nodes = omega (arith, is_report.finished, sound.budget);
    blocks = subst (All (IsOfInstance p)) (sym blocks) (blocks_of_instance o s instance sound);
    no_blocks = subst (λ (c : Option ℤ). IfNone c (blocks_of plan ≡ [])) (sym is_report.cost)
        (subst (λ (bs : List LayerBlock). IfNone (known s) (bs ≡ [])) (sym blocks) (no_blocks o s instance sound));
    few_tables = omega (arith, size, few);
    fits = written.fits;
    tree = record { tree = are.shape; rows_are = are.rows_are };
    shapes = subst (λ (n : ℕ). All (IsShapeOf p n) rows.items) (sym size)
        (shapes_are o s instance budget sound numbers rows.items are);
  }

  -- its rows
  pub document_says : rows_of_document p document
      ≡ head_of report.claim report.cost report.bound report.finished ++ map BlockRow (blocks_of plan)
      ++ numbered_rows p s numbers ++ map shape_row rows.items ++ EndRow ∷ []
  unfolding document vec_of
  document_says =
      let head = head_of report.claim report.cost report.bound report.finished in
      let same = tables_rows-prices p 1 written.tables
      ∙ ap (λ (xs : List Prices). flat_map (prices_rows p) (enumerate_from 1 xs)) written.listed in
      ap (λ (tables : List DocumentRow). head ++ map BlockRow (blocks_of plan) ++ tables ++ map shape_row rows.items
      ++ EndRow ∷ []) same
