-- A search that is carried on with enough nodes leaves nothing open.
use Rattle.std.proofs.Common.{◌≡◌, ℕ, ◌+◌, ◌*◌, ◌<◌, ◌≤◌, List, [], ◌∷◌, length, get_or, refl, sym, ap, ◌∙◌, subst, arith, Option, ℤ}
use Rattle.std.specs.List.{All}
use Rattle.std.proofs.lemmas.Option.{slice_get-get_or}
use Rattle.std.proofs.lemmas.Slice.Zip.{AllZip-long}
use Rattle.vs_instance.specs.Instance.{IsInstance}
use Rattle.vs_instance.specs.Problem.{Problem}
use Rattle.vs_instance.specs.Restriction.{permitted_sets}
use Rattle.vs_instance.proofs.CallerLemmas.{permitted_sets-IsRestriction}
use Rattle.vs_prices.specs.Bounds.{IsBelow}
use Rattle.vs_prices.specs.declared.bound.Bound.{Bound}
use Rattle.vs_prices.specs.Tree.{LeafPlace, Tree, leaves}
use Rattle.vs_prices.specs.declared.claim.Claim.TheVariants.{StillOpen}
use Rattle.vs_rows.specs.declared.document.Document.{Document}
use Rattle.vs_rows.proofs.CallerLemmas.{tree_once}
use Rattle.vs_cert.specs.StateDocument.{first_times, tables_named}
use Rattle.vs_cert.specs.Answers.{AreWorths, choices, count_not_below}
use Rattle.vs_cert.proofs.CallerLemmas.{few_leaves}
use Rattle.vs_resume.specs.Answers.{ResumeAnswer}
use Rattle.vs_resume.specs.InPlace.{count_leaves}
use Rattle.vs_resume.specs.Laws.{EnoughNodesLeaveNothingOpen, LeavesNothingOpen}
use Rattle.vs_resume.specs.Standing.{Standing, leaves_of}
use Rattle.vs_resume.specs.Turns.{AreTurns, Turned, nodes_of}
use Rattle.vs_resume.proofs.documents.TurnCounts.{turns_counted}
use Rattle.vs_resume.proofs.documents.WrittenOnce.{IsRenamed, renamed-leaves, written_once}
use Rattle.vs_resume.proofs.trees.Growth.{leaves-splits}
use Rattle.vs_resume.proofs.trees.InPlace.{count-leaves}
use Rattle.vs_resume.proofs.worths.Counts.{one_below}
use Rattle.vs_resume.proofs.worths.OpenClaims.{below_open, open_below}

-- as many worths as leaves
as_many_worths : (p : Problem) (d : Document) (places : List LeafPlace) (worths : List Bound)
    → AreWorths p d places worths → length worths ≡ length places
as_many_worths p d [] [] are = refl
as_many_worths p d [] (w ∷ worths) are = absurd are
as_many_worths p d (leaf ∷ places) [] are = absurd are
as_many_worths p d (leaf ∷ places) (w ∷ worths) are = omega (arith, as_many_worths p d places worths are.3)

module _ (p : Problem) (budget : ℕ) (d e : Document) (answers : ResumeAnswer p budget d e) (is : IsInstance p)
    (enough : 2 * choices (permitted_sets p) ≤ budget + 1) where
  abbrev first : Standing
  first = answers.carried_on.first

  abbrev last : Standing
  last = answers.carried_on.last

  abbrev shape : Tree
  shape = answers.carried_on.written.shape

  abbrev numbers : List ℕ
  numbers = first_times (tables_named last.tree)

  shape_is : answers.holds.tree.tree ≡ shape
  shape_is =
      tree_once answers.holds.tree.tree shape
      (sym answers.holds.tree.shape_is ∙ answers.carried_on.written.rows)

  are_worths : AreWorths p e (leaves (permitted_sets p) shape) answers.worths
  are_worths =
      subst (λ (tree : Tree). AreWorths p e (leaves (permitted_sets p) tree) answers.worths) shape_is
      answers.are_worths

  few : count_leaves shape ≤ choices (permitted_sets p)
  few =
      let sets = permitted_sets p in
      let good = few_leaves p is answers.holds.tree.tree sets (permitted_sets-IsRestriction p is)
      answers.holds.tree.strong.splits in
      let same = ap count_leaves shape_is in
      omega (arith, good, same, count-leaves sets answers.holds.tree.tree)

  as_many : count_leaves last.tree ≡ count_leaves shape
  as_many =
      let sets = permitted_sets p in
      omega (
        arith,
        AllZip-long (IsRenamed numbers) (leaves sets last.tree) (leaves sets shape)
            (renamed-leaves numbers last.tree shape sets answers.carried_on.written.renumbered),
        count-leaves sets last.tree,
        count-leaves sets shape,
      )

  some_leaf : (tree : Tree) → 1 ≤ count_leaves tree
  some_leaf tree = omega (arith, leaves-splits tree)

  -- fewer leaves aren't below the cost than there are, where the claim is open
  fewer : e.claim ≡ StillOpen → count_not_below last.cost answers.worths < count_leaves last.tree
  fewer claims =
      let found = open_below e.cost answers.worths e.bound answers.bound (sym answers.holds.claim ∙ claims) in
      let below = subst (λ (cost : Option ℤ). IsBelow found.worth cost) answers.carried_on.written.cost found.below in
      omega (
        arith,
        one_below last.cost answers.worths found.place found.worth found.stands below,
        as_many_worths p e (leaves (permitted_sets p) shape) answers.worths are_worths,
        count-leaves (permitted_sets p) shape,
        as_many,
      )

  -- so the nodes are few
  few_nodes : (turns : List Turned) → AreTurns p budget first turns last
      → count_not_below last.cost answers.worths < count_leaves last.tree
      → nodes_of turns + 2 ≤ 2 * choices (permitted_sets p)
  few_nodes [] are below = omega (arith, some_leaf shape, few)
  few_nodes (turn ∷ turns) are below =
      let next = are.0.next in
      let counted = turns_counted p budget first last (turn ∷ turns) are next.worths next.are_worths in
      let same = written_once p e last.tables numbers answers.carried_on.written.tables (leaves_of p last)
      (leaves (permitted_sets p) shape) counted.now answers.worths
      (renamed-leaves numbers last.tree shape (permitted_sets p) answers.carried_on.written.renumbered)
      counted.are_worths are_worths in
      let count = ap (count_not_below last.cost) same in
      omega (arith, counted.count, count, below, as_many, few, some_leaf first.tree)

  never_open : e.claim ≡ StillOpen → ⊥
  never_open claims =
      let all = answers.still_open claims in
      let finished = answers.carried_on.nodes in
      absurd (omega (
        arith,
        few_nodes answers.carried_on.turns answers.carried_on.are_turns (fewer claims),
        all,
        finished,
        enough,
      ))

  none_below : All (λ worth. ¬ (IsBelow worth e.cost)) answers.worths
  none_below = λ k other inside below.
      never_open (answers.holds.claim ∙ below_open e.cost answers.worths e.bound answers.bound k
      (get_or answers.worths k other) (slice_get-get_or answers.worths k other inside) below)

  nothing_open : LeavesNothingOpen p budget d e answers
  nothing_open = record { leaves = none_below; claim = never_open }

-- the law
pub enough_nodes_leave_nothing_open : EnoughNodesLeaveNothingOpen
enough_nodes_leave_nothing_open p budget d e answers is enough = nothing_open p budget d e answers is enough
