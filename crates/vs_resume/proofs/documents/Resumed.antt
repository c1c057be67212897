-- The document that is written behind the last turn answers the one that the search was carried on from.
use Rattle.std.proofs.Common.{◌≡◌, ℕ, ◌+◌, ◌-◌, ◌<◌, ◌≤◌, ◌⊎◌, inl, inr, cond, List, [], ◌∷◌, length, map, refl, sym, ap, ◌∙◌, subst, arith, rules, Option, Some, None, ℤ, pos, slice_index_or}
use Rattle.std.specs.Prelude.{IfNone, IfSome, count_by}
use Rattle.std.specs.List.{All}
use Rattle.std.proofs.lemmas.List.Elements.{All-cons, All-contains, All-map, All-nil, All-weaker}
use Rattle.std.proofs.lemmas.List.Sums.{sum_by-cons}
use Rattle.std.proofs.lemmas.Option.{slice_get_within}
use Rattle.vs_instance.specs.Blocks.{IsBlock}
use Rattle.vs_instance.specs.Instance.{IsInstance}
use Rattle.vs_instance.specs.Plan.{LayerBlock}
use Rattle.vs_instance.specs.Problem.{Problem}
use Rattle.vs_instance.specs.Restriction.{permitted_sets}
use Rattle.vs_instance.specs.declared.limits.TheConstants.{MAX_BUDGET}
use Rattle.vs_instance.proofs.CallerLemmas.{permitted_sets-IsRestriction}
use Rattle.vs_plan.specs.Blocks.{IsOfInstance, blocks_of}
use Rattle.vs_prices.specs.Bounds.{IsBelow, IsNoLess}
use Rattle.vs_prices.specs.Table.{Fits}
use Rattle.vs_prices.specs.declared.bound.Bound.{Bound}
use Rattle.vs_prices.specs.declared.table.Table.{Table}
use Rattle.vs_prices.specs.Tree.{LeafPlace, leaves}
use Rattle.vs_prices.specs.declared.claim.Claim.TheVariants.{StillOpen}
use Rattle.vs_rows.specs.DocumentRows.{IsBetween, IsWithin}
use Rattle.vs_rows.specs.DocumentText.{HasText}
use Rattle.vs_rows.specs.Shapes.{IsShapeOf, preorder}
use Rattle.vs_rows.specs.declared.document.Document.{Document}
use Rattle.vs_rows.specs.declared.document.Shape.{Shape}
use Rattle.vs_rows.specs.declared.document.Shape.TheVariants as row
use Rattle.vs_rows.specs.declared.limits.TheConstants.{MAX_BOUND, MAX_COST}
use Rattle.vs_rows.proofs.CallerLemmas.{cost_bound}
use Rattle.vs_check.specs.HoldingDocument.{HasPlan, HoldingDocument}
use Rattle.vs_tree.specs.Prices.{Prices, no_prices, prices_of}
use Rattle.vs_tree.specs.Report.{bound_of}
use Rattle.vs_cert.specs.StateDocument.{first_times, tables_named}
use Rattle.vs_cert.proofs.CallerLemmas.{rows_of_instance, lesser_is_bound, named_in_order, not_open, renumbered_good, first_times-All, first_times_few}
use Rattle.vs_cert.specs.Answers.{AreNamedInOrder, AreWorths, IsBoundOf}
use Rattle.vs_resume.specs.declared.cases.Case.{Case}
use Rattle.vs_resume.specs.declared.course.Course.{Course}
use Rattle.vs_resume.specs.declared.resuming.TheConstants.{MAX_RESUMED_ENTRIES}
use Rattle.vs_resume.specs.Cases.{AreCasesOf}
use Rattle.vs_resume.specs.Answers.{HasRoom, IsCarriedOn, ResumeAnswer, StoppedResume, is_leaf}
use Rattle.vs_resume.specs.Courses.{HasPlanOf}
use Rattle.vs_resume.specs.InPlace.{count_leaves}
use Rattle.vs_resume.specs.Order.{IsLeastWith, worths_in}
use Rattle.vs_resume.specs.Standing.{IsWrittenFor, Standing}
use Rattle.vs_resume.specs.Writing.{IsPrintedOf}
use Rattle.vs_resume.proofs.trees.Growth.{few_leaves, turns_leaves}
use Rattle.vs_resume.proofs.trees.InPlace.{leaf_rows, leaf_rows-preorder}
use Rattle.vs_resume.proofs.documents.Naming.{named_within}
use Rattle.vs_resume.proofs.documents.OnCourse.{IsOnCourse}
use Rattle.vs_resume.proofs.documents.LowWorths.{low_worths}
use Rattle.vs_resume.proofs.trees.Renamed.{length-named}
use Rattle.vs_resume.proofs.documents.WrittenLeaves.{IsPrintable, each_no_less, one_of, printable_worths, strong_leaves, worths_written}
use Rattle.vs_resume.proofs.documents.WrittenTables.{IsLawful, all_lawful, as_many}

-- as many leaves stand among rows as pass the test
count_rows : (rows : List Shape) → count_by is_leaf rows ≡ leaf_rows rows
count_rows [] = refl
count_rows (row.Leaf table ∷ rows) =
    omega (arith, count_rows rows, sum_by-cons (λ (s : Shape). cond (is_leaf s) 1 0) (row.Leaf table) rows)
count_rows (row.Split trip left ∷ rows) =
    omega (arith, count_rows rows, sum_by-cons (λ (s : Shape). cond (is_leaf s) 1 0) (row.Split trip left) rows)

same_printable : (bound cost : Option ℤ) → IfSome cost (IsBetween (pos 0) MAX_COST) → bound_of bound ≡ bound_of cost
    → IsPrintable (bound_of bound)
same_printable None cost between same = tt
same_printable (Some n) None between same = absurd cc
same_printable (Some n) (Some cost) between same =
    let is : n ≡ cost = cc in
    cost_bound n cost is between

printable_bound : (bound : Option ℤ) → IsPrintable (bound_of bound) → IfSome bound (IsWithin MAX_BOUND)
printable_bound None is = search rules
printable_bound (Some n) is = is

-- there is a bound where there is a cost
no_cost : (cost bound : Option ℤ) → IsNoLess (bound_of cost) (bound_of bound) → IfNone bound (cost ≡ None)
no_cost None None low = refl
no_cost (Some c) None low = absurd low
no_cost cost (Some n) low = search rules

-- the blocks of a plan name what the instance has, and where there is no cost there are none
plan_blocks : (p : Problem) (cost : Option ℤ) (blocks : List LayerBlock) → HasPlanOf p cost blocks
    → All (IsOfInstance p) blocks
plan_blocks p None blocks none = subst (All (IsOfInstance p)) (sym none) (All-nil (IsOfInstance p))
plan_blocks p (Some c) blocks plan =
    All-weaker (λ (b : LayerBlock). IsBlock p b.0 b.1) (IsOfInstance p)
    (λ b is_block. record {
      layer = is_block.layer;
      some_trip = is_block.some_trip;
      trips = is_block.of_instance;
    }) blocks plan.0.each_block

no_blocks : (p : Problem) (cost : Option ℤ) (blocks : List LayerBlock) → HasPlanOf p cost blocks
    → IfNone cost (blocks ≡ [])
no_blocks p None blocks none = none
no_blocks p (Some c) blocks plan = search rules

-- each leaf names a table that there is
pub cases_named : (p : Problem) (tables : List Table) (places : List LeafPlace) (cases : List Case)
    → AreCasesOf p tables places cases → All (λ found. found.table < length tables) cases
cases_named p tables [] [] are = All-nil (λ (found : Case). found.table < length tables)
cases_named p tables [] (found ∷ cases) are = absurd are
cases_named p tables (leaf ∷ places) [] are = absurd are
cases_named p tables (leaf ∷ places) (found ∷ cases) are =
    let here = are.0 in
    let inside = slice_get_within tables leaf.table here.table here.named in
    All-cons (λ (other : Case). other.table < length tables) found cases
    (subst (λ (n : ℕ). n < length tables) (sym here.number) inside) (cases_named p tables places cases are.1)

module _ (p : Problem) (is : IsInstance p) (budget : ℕ) (small : budget ≤ MAX_BUDGET) (d : Document)
    (text : HasText p d) (given : HoldingDocument p d) (room : HasRoom p d budget) (c : Course) (left : ℕ)
    (on : IsOnCourse p budget d c left) (e : Document) (prints : IsPrintedOf c (budget - left) e) where
  abbrev s : Standing
  s = on.last

  written : IsWrittenFor s e
  written = prints.written p s on.course

  abbrev numbers : List ℕ
  numbers = first_times (tables_named s.tree)

  abbrev worths : List Bound
  worths = worths_in c.cases.items

  tables_are : map prices_of e.tables.items
      ≡ map (λ n. slice_index_or (map prices_of c.tables.items) n no_prices) numbers
  tables_are =
      written.tables
      ∙ ap (λ (ps : List Prices). map (λ n. slice_index_or ps n no_prices) numbers) on.course.tables

  numbers_within : All (λ n. n < length c.tables.items) numbers
  numbers_within =
      first_times-All (λ (n : ℕ). n < length c.tables.items) (tables_named s.tree) (named_within p c s on.course)

  lawful : All (IsLawful p) e.tables.items
  lawful = all_lawful c.tables.items e.tables.items numbers tables_are p numbers_within on.course.lawful

  cost_is : e.cost ≡ c.cost
  cost_is = written.cost ∙ on.course.cost

  plan_is : HasPlan p e
  plan_is =
      subst (λ (cost : Option ℤ). HasPlanOf p cost (blocks_of e.plan)) (sym written.cost)
      (subst (λ (blocks : List LayerBlock). HasPlanOf p s.cost blocks) (sym written.blocks) on.course.plan)

  cost_within : IfSome e.cost (IsBetween (pos 0) MAX_COST)
  cost_within =
      subst (λ (cost : Option ℤ). IfSome cost (IsBetween (pos 0) MAX_COST)) (sym written.cost) on.course.within

  least : IsLeastWith e.cost worths (bound_of e.bound)
  least = subst (λ (cost : Option ℤ). IsLeastWith cost worths (bound_of e.bound)) (sym cost_is) prints.bound

  bound_within : IfSome e.bound (IsWithin MAX_BOUND)
  bound_within =
      printable_bound e.bound (elim least.reached [
        | inl same ↦ same_printable e.bound e.cost cost_within same
        | inr has ↦
            All-contains IsPrintable worths (bound_of e.bound)
            (printable_worths p is c.tables.items on.course.lawful (leaves (permitted_sets p) s.tree) c.cases.items
            on.course.cases (low_worths p budget d c left text given on)) has
      ])

  -- the leaves are few
  begun_with : count_leaves on.first.tree ≡ count_by is_leaf d.shape.items
  begun_with =
      sym (leaf_rows-preorder on.first.tree) ∙ ap leaf_rows (sym on.printed.rows) ∙ sym (count_rows d.shape.items)

  leaves_are_few : count_leaves s.tree ≤ MAX_RESUMED_ENTRIES
  leaves_are_few =
      let grown = turns_leaves p budget on.first s on.turns on.are_turns in
      let spent = on.nodes in
      few_leaves p is s.tree (count_by is_leaf d.shape.items + budget) MAX_RESUMED_ENTRIES on.course.good
      (omega (arith, grown, spent, begun_with)) room (omega arith)

  tables_size : length e.tables.items ≡ length numbers
  tables_size = as_many c.tables.items e.tables.items numbers tables_are

  few_tables : length e.tables.items ≤ MAX_RESUMED_ENTRIES
  few_tables =
      omega (arith, tables_size, first_times_few (tables_named s.tree), length-named s.tree, leaves_are_few)

  rows_within : All (IsShapeOf p (length e.tables.items)) e.shape.items
  rows_within =
      subst (All (IsShapeOf p (length e.tables.items))) (sym written.rows)
      (subst (λ (n : ℕ). All (IsShapeOf p n) (preorder written.shape)) (sym tables_size)
      (rows_of_instance p is numbers s.tree written.shape (permitted_sets p) (permitted_sets-IsRestriction p is)
      on.course.good written.renumbered))

  has_text : HasText p e
  has_text = record {
    cost = cost_within;
    bound = bound_within;
    no_cost = no_cost e.cost e.bound least.cost;
    nodes = let is_now = prints.nodes in omega (arith, is_now, small);
    blocks = plan_blocks p e.cost (blocks_of e.plan) plan_is;
    no_blocks = no_blocks p e.cost (blocks_of e.plan) plan_is;
    few_tables = omega (arith, few_tables);
    fits = All-weaker (IsLawful p) (Fits p) (λ table is_lawful. is_lawful.0) e.tables.items lawful;
    tree = record { tree = written.shape; rows_are = written.rows };
    shapes = rows_within;
  }

  -- the worths of its leaves
  are_worths : AreWorths p e (leaves (permitted_sets p) written.shape) worths
  are_worths =
      worths_written p e c.tables.items numbers tables_are s.tree written.shape (permitted_sets p) c.cases.items
      written.renumbered on.course.cases

  abbrev holds : HoldingDocument p e
  holds = record {
    plan = plan_is;
    tables = lawful;
    tree = record {
      tree = written.shape;
      shape_is = written.rows;
      strong = record {
        splits = renumbered_good numbers s.tree written.shape (permitted_sets p) written.renumbered on.course.good;
        leaves = strong_leaves p e (leaves (permitted_sets p) written.shape) worths are_worths least.worths;
      };
    };
    claim = prints.claim;
  }

  in_order : AreNamedInOrder 0 (leaves (permitted_sets p) written.shape) (length e.tables.items)
  in_order =
      subst (AreNamedInOrder 0 (leaves (permitted_sets p) written.shape)) (sym tables_size)
      (named_in_order s.tree written.shape (permitted_sets p) written.renumbered)

  bound_is : IsBoundOf e.cost worths e.bound
  bound_is =
      lesser_is_bound e.cost worths e.bound (each_no_less (bound_of e.bound) worths least.worths) least.cost
      (elim least.reached [
        | inl same ↦ inl same
        | inr has ↦ inr (one_of (bound_of e.bound) worths has)
      ])

  -- where no leaf is below the cost, nothing is open
  none_below : All (λ found. ¬ (IsBelow found.worth c.cost)) c.cases.items → e.claim ≡ StillOpen → ⊥
  none_below all claims =
      let Out : Bound → Type 0 = λ worth. ¬ (IsBelow worth e.cost) in
      let out : All Out worths =
      subst (λ (cost : Option ℤ). All (λ (worth : Bound). ¬ (IsBelow worth cost)) worths) (sym cost_is)
      (All-map (λ (worth : Bound). ¬ (IsBelow worth c.cost)) (λ (found : Case). found.worth) c.cases.items all) in
      not_open e.cost e.bound least.cost (elim least.reached [
        | inl same ↦ inl same
        | inr has ↦ inr (All-contains Out worths (bound_of e.bound) out has)
      ]) (sym prints.claim ∙ claims)

  carried_on : IsCarriedOn p budget d e
  carried_on = record {
    first = on.first;
    printed = on.printed;
    turns = on.turns;
    last = s;
    are_turns = on.are_turns;
    nodes = let is_now = prints.nodes in let spent = on.nodes in omega (arith, is_now, spent);
    written = written;
  }

  -- wherever it ended
  pub so_far : StoppedResume p budget d e
  so_far = record {
    has_text = has_text;
    holds = holds;
    in_order = in_order;
    worths = worths;
    are_worths = are_worths;
    bound = bound_is;
    within_budget = let is_now = prints.nodes in omega (arith, is_now);
    carried_on = carried_on;
  }

  -- and where the nodes are spent, or no leaf is below the cost
  module _ (done : (left ≡ 0) ⊎ All (λ found. ¬ (IsBelow found.worth c.cost)) c.cases.items) where
    still_open : e.claim ≡ StillOpen → e.nodes ≡ budget
    still_open claims =
        let is_now = prints.nodes in
        elim done [
          | inl spent ↦ omega (arith, is_now, spent)
          | inr all ↦ absurd (none_below all claims)
        ]

    pub answers : ResumeAnswer p budget d e
    answers = record {
      has_text = has_text;
      holds = holds;
      in_order = in_order;
      worths = worths;
      are_worths = are_worths;
      bound = bound_is;
      within_budget = so_far.within_budget;
      still_open = still_open;
      carried_on = carried_on;
    }
