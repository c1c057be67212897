-- A state that a search comes to has a document.
use Rattle.std.proofs.Common.{◌≡◌, ℕ, ◌<◌, ◌≤◌, ◌^◌, List, [], length, refl, ap, subst, arith, Option, Some, None}
use Rattle.std.specs.declared.alloc.Global.{Global}
use Rattle.std.specs.declared.vec.Vec.{Vec}
use Rattle.vs_instance.specs.Instance.{IsInstance}
use Rattle.vs_instance.specs.Plan.{IsPlan}
use Rattle.vs_instance.specs.Problem.{Problem}
use Rattle.vs_instance.specs.declared.limits.TheConstants.{MAX_BUDGET}
use Rattle.vs_plan.specs.Blocks.{blocks_of, pairs_of}
use Rattle.vs_plan.specs.CheckedPlan.{Checked}
use Rattle.vs_plan.specs.declared.block.Plan.{Plan}
use Rattle.vs_prices.specs.Tree.{Tree}
use Rattle.vs_tree.specs.History.{Opening, State, incumbent, state_of}
use Rattle.vs_tree.specs.Prices.{no_prices}
use Rattle.vs_tree.specs.Report.{IsReport}
use Rattle.vs_tree.specs.Sound.{IsPlanOf, IsSound}
use Rattle.vs_tree.specs.StateTree.{IsTreeOf}
use Rattle.vs_tree.specs.declared.calls.Report.{Report}
use Rattle.vs_tree.proofs.CallerLemmas.{histories_are_sound, last-is, states_are_trees}
use Rattle.vs_rows.specs.DocumentText.{HasText}
use Rattle.vs_rows.specs.Shapes.{preorder}
use Rattle.vs_rows.specs.declared.document.Document.{Document}
use Rattle.vs_rows.specs.declared.document.Shape.{Shape}
use Rattle.vs_cert.specs.AnswerLaws.{StatesHaveDocuments}
use Rattle.vs_cert.specs.StateDocument.{IsDocumentOf, IsRenumbered, first_times, known_blocks, tables_named}
use Rattle.vs_cert.specs.TreeRows.{AreRowsOf}
use Rattle.vs_cert.proofs.NamedTables.{renumbered_splits}
use Rattle.vs_cert.proofs.states.FirstPlaces.{first_places, first_times_few, length-tables_named, renumber}
use Rattle.vs_cert.proofs.states.MadePlans.{make_plan}
use Rattle.vs_cert.proofs.states.MadeReports.{has_report}
use Rattle.vs_cert.proofs.states.TreeDocument.{document, has_text, of_state, vec-items, vec_of}
use Rattle.vs_cert.proofs.states.Waiting.{preorder-length}

module _ (o : Opening) (s : State) (instance : IsInstance o.problem) (budget : o.budget ≤ MAX_BUDGET)
    (sound : IsSound o s) (tree : Tree) (is_tree : IsTreeOf o.problem s tree) where
  abbrev numbers : List ℕ
  numbers = first_times (tables_named tree)

  abbrev shape : (shape : Tree) × IsRenumbered numbers tree shape
  shape = renumber numbers tree (first_places (tables_named tree))

  few_rows : length (preorder shape.0) < 2 ^ 63
  few_rows =
      omega (
        arith,
        preorder-length shape.0,
        renumbered_splits numbers tree shape.0 shape.1,
        is_tree.splits_are,
        sound.finished,
        sound.budget,
      )

  abbrev rows : Vec Shape Global
  rows = vec_of (preorder shape.0) few_rows

  are_rows : AreRowsOf o s numbers rows.items
  are_rows = record {
    tree = tree;
    is_tree = is_tree;
    numbers_are = refl;
    few = omega (
      arith,
      first_times_few (tables_named tree),
      length-tables_named tree,
      is_tree.splits_are,
      sound.finished,
      sound.count_tables,
    );
    shape = shape.0;
    renumbered = shape.1;
    rows_are = vec-items (preorder shape.0) few_rows;
  }

  report : (r : Report) × IsReport o.problem s r
  report = has_report o.problem s (λ k leaf. sound.tables _ no_prices (sound.numbers k leaf))

  -- the cheapest plan, with vectors of blocks and of trips
  plan_with : (best : Option Checked) → incumbent s ≡ best → (plan : Plan) × (blocks_of plan ≡ known_blocks best)
  plan_with None is =
      let none : 0 < 2 ^ 63 = omega arith in
      (record { blocks = vec_of [] none }, ap pairs_of (vec-items [] none))
  plan_with (Some plan) is =
      let of = last-is (IsPlanOf o.problem) None s.accepted plan sound.plans (λ other none. absurd cc) is in
      make_plan o.problem instance plan.blocks
      (subst (λ (p : Problem). IsPlan p plan.blocks) of.1 of.0.plan)

  plan : (plan : Plan) × (blocks_of plan ≡ known_blocks (incumbent s))
  plan = plan_with (incumbent s) refl

  has_document : (d : Document) × IsDocumentOf o s d × HasText o.problem d
  has_document = (
    document o s instance budget sound report.0 report.1 plan.0 plan.1 numbers rows are_rows,
    of_state o s instance budget sound report.0 report.1 plan.0 plan.1 numbers rows are_rows,
    has_text o s instance budget sound report.0 report.1 plan.0 plan.1 numbers rows are_rows,
  )

-- the law
pub states_have_documents : StatesHaveDocuments
states_have_documents o steps opening history budget =
    let tree = states_are_trees o steps opening history in
    has_document o (state_of o steps) opening.instance budget (histories_are_sound o steps opening history) tree.0
    tree.1
