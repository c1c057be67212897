-- The document of a search that is over is an answer.
use Rattle.std.proofs.Common.{◌≡◌, ℕ, ◌+◌, ◌≤◌, true, List, length, refl, sym, ap, ◌∙◌, subst, arith, inl, inr, ◌⊎◌, Option, Some, None, IfSome, MatchOption, ℤ, ◌≤ℤ◌}
use Rattle.std.proofs.lemmas.List.{length-map}
use Rattle.vs_instance.specs.Problem.{Problem}
use Rattle.vs_instance.specs.Restriction.{permitted_sets}
use Rattle.vs_prices.specs.Bounds.{IsBelow}
use Rattle.vs_prices.specs.declared.bound.Bound.{Bound}
use Rattle.vs_prices.specs.declared.bound.Bound.TheVariants.{AtLeast}
use Rattle.vs_prices.specs.Claims.{claim_found}
use Rattle.vs_prices.specs.declared.claim.Claim.TheVariants.{StillOpen}
use Rattle.vs_tree.specs.declared.spot.Spot.{Spot}
use Rattle.vs_tree.specs.declared.spot.Spot.TheVariants.{Inner, Free, Held, Closed}
use Rattle.vs_tree.specs.History.{Opening, State, IsLeaf, IsLeafWorth, count_spots, is_held, is_inner, known, spot_at, state_of}
use Rattle.vs_tree.specs.Prices.{Prices, prices_of}
use Rattle.vs_tree.specs.Report.{IsLesser, bound_of}
use Rattle.vs_tree.specs.Sound.{IsSound}
use Rattle.vs_tree.specs.StateTree.{one_if}
use Rattle.vs_tree.specs.Takes.{IsOver, IsWorkLeft}
use Rattle.vs_prices.specs.Tree.{leaves, splits}
use Rattle.vs_tree.proofs.CallerLemmas.{leaf_within, histories_are_sound}
use Rattle.vs_cert.specs.StateDocument.{IsDocumentOf}
use Rattle.vs_rows.specs.declared.document.Document.{Document}
use Rattle.vs_cert.specs.Answers.{AreNamedInOrder, IsAnswer, IsAnswerSoFar, IsBoundOf, ReachesStart, count_not_below}
use Rattle.vs_cert.specs.AnswerLaws.{BoundsReachTheStart, EachReachesTheStart, FinishedSearchesAnswer, SearchesAnswerSoFar}
use Rattle.vs_cert.proofs.AnswerBounds.{IsOneOf, lesser_is_bound, not_open, reaches_start}
use Rattle.vs_cert.proofs.AnswerCounts.{closed_leaves, kind_counts}
use Rattle.vs_cert.proofs.AnswerWorths.{HaveWorths, no_less, one_of, worths_at}
use Rattle.vs_cert.proofs.NamedTables.{named_in_order, renumbered_splits}
use Rattle.vs_cert.proofs.StateDocuments.{document_holds, numbers, prices_in_state}

module _ (o : Opening) (s : State) (sound : IsSound o s) (d : Document) (is : IsDocumentOf o s d) where
  abbrev p : Problem
  p = o.problem

  cost_is : d.cost ≡ known s
  cost_is = is.cost ∙ is.is_report.cost

  bound_is : Bound
  bound_is = bound_of is.report.bound

  -- as many tables as there are numbers
  tables_are : length (numbers o s sound d is) ≡ length d.tables.items
  tables_are =
      sym (length-map (numbers o s sound d is) (prices_in_state o s sound d is))
      ∙ ap (λ (xs : List Prices). length xs) (sym is.tables) ∙ length-map d.tables.items prices_of

  written : AreNamedInOrder 0 (leaves (permitted_sets p) is.shape) (length d.tables.items)
  written =
      subst (AreNamedInOrder 0 (leaves (permitted_sets p) is.shape)) tables_are
      (named_in_order is.tree is.shape (permitted_sets p) is.renumbered)

  abbrev spots : List ℕ
  spots = is.is_tree.spots

  have_worths : HaveWorths o s sound d is (leaves (permitted_sets p) is.shape) spots
  have_worths =
      worths_at o s sound d is is.tree is.shape 0 (permitted_sets p) spots is.is_tree.is_tree is.renumbered

  -- the bound is the cost, or the worth of a leaf
  reached : (bound_of is.report.bound ≡ bound_of (known s)) ⊎ IsOneOf (bound_of is.report.bound) have_worths.worths
  reached =
      elim is.is_report.bound.reached [
        | inl same ↦ inl same
        | inr leaf ↦
            let none = ap {B = ℕ} one_if leaf.is_leaf in
            inr (one_of p s leaf.leaf (bound_of is.report.bound) leaf.worth spots have_worths.worths
            have_worths.of_spots (omega (arith, is.is_tree.once leaf.leaf, none)))
      ]

  bound : IsBoundOf d.cost have_worths.worths d.bound
  bound =
      subst (λ (c : Option ℤ). IsBoundOf c have_worths.worths d.bound) (sym cost_is)
      (subst (IsBoundOf (known s) have_worths.worths) (sym is.bound)
      (lesser_is_bound (known s) have_worths.worths is.report.bound
      (no_less p s (bound_of is.report.bound) is.is_report.bound spots have_worths.worths have_worths.of_spots)
      is.is_report.bound.cost reached))

  -- as many splits as spots that were split
  splits_are : splits is.shape ≡ count_spots is_inner s.places
  splits_are = renumbered_splits (numbers o s sound d is) is.tree is.shape is.renumbered ∙ is.is_tree.splits_are

  each_node : d.nodes ≤ splits is.shape + count_not_below d.cost have_worths.worths
  each_node =
      let same = ap (λ (c : Option ℤ). count_not_below c have_worths.worths) cost_is in
      let closed = closed_leaves o s sound spots have_worths.worths is.is_tree.once have_worths.of_spots in
      omega (arith, is.nodes, sound.finished, splits_are, same, closed)

  -- whether it is over or not
  so_far : IsAnswerSoFar p o.budget d
  so_far = record {
    holds = document_holds o s sound d is;
    written = written;
    worths = have_worths.worths;
    are_worths = have_worths.are_worths;
    bound = bound;
    within_budget = let budget = sound.budget in omega (arith, budget, is.nodes);
    each_split = omega (arith, splits_are, is.nodes, sound.finished);
    each_node = each_node;
  }

  module _ (over : IsOver o s) where
    -- where no more work is left, no leaf is below the cost
    leaf_done : ¬ (IsWorkLeft p s) → (k : ℕ) (worth : Bound) → IsLeaf s k → IsLeafWorth p s k worth
        → (spot : Spot) → spot_at s k ≡ spot → ¬ (IsBelow worth (known s))
    leaf_done none k worth leaf is_worth (Inner trip left lower upper) at below =
        let inner : is_inner (spot_at s k) ≡ true = ap is_inner at in
        absurd cc
    leaf_done none k worth leaf is_worth (Free table) at below =
        none (record { leaf = k; worth = worth; free = (table, at); is_worth = is_worth; below = below })
    leaf_done none k worth leaf is_worth (Held worker table) at below =
        let some = kind_counts is_held s.places k (leaf_within s.places k leaf) (ap is_held at) in
        absurd (omega (arith, some, over.none_held))
    leaf_done none k worth leaf is_worth (Closed table) at below = sound.closed k worth (table, at) is_worth below

    -- and so nothing is open
    pub never_open : ¬ (IsWorkLeft p s) → d.claim ≡ StillOpen → ⊥
    never_open none claims =
        let found : claim_found (known s) is.report.bound ≡ StillOpen =
        ap (λ (c : Option ℤ). claim_found c is.report.bound) (sym is.is_report.cost) ∙ sym is.is_report.claim
        ∙ sym is.claim ∙ claims in
        not_open (known s) is.report.bound is.is_report.bound.cost or_done found
      where
        or_done : (bound_of is.report.bound ≡ bound_of (known s)) ⊎ (¬ (IsBelow (bound_of is.report.bound) (known s)))
        or_done =
            elim is.is_report.bound.reached [
              | inl same ↦ inl same
              | inr leaf ↦
                  inr (leaf_done none leaf.leaf (bound_of is.report.bound) leaf.is_leaf leaf.worth
                  (spot_at s leaf.leaf) refl)
            ]

    still_open : d.claim ≡ StillOpen → d.nodes ≡ o.budget
    still_open claims =
        elim over.no_more [ inl none ↦ absurd (never_open none claims) | inr spent ↦ is.nodes ∙ spent ]

    answers : IsAnswer p o.budget d
    answers = record {
      holds = so_far.holds;
      written = so_far.written;
      worths = so_far.worths;
      are_worths = so_far.are_worths;
      bound = so_far.bound;
      within_budget = so_far.within_budget;
      each_split = so_far.each_split;
      each_node = so_far.each_node;
      still_open = still_open;
    }

  -- where each leaf reaches the start, so does the bound
  starts : EachReachesTheStart o s → IfSome d.bound (ReachesStart p d)
  starts each = subst (λ (b : Option ℤ). IfSome b (ReachesStart p d)) (sym is.bound) (by_bound is.report.bound refl)
    where
      by_bound : (b : Option ℤ) → is.report.bound ≡ b → IfSome b (ReachesStart p d)
      by_bound None at = tt
      by_bound (Some b) at =
          let lesser : IsLesser p s (AtLeast b) =
          subst (λ (x : Option ℤ). IsLesser p s (bound_of x)) at is.is_report.bound in
          λ value start is_start rounded.
          subst (λ (c : Option ℤ). MatchOption c (start ≤ℤ b) (λ (cost : ℤ). (start ≤ℤ b) ⊎ (cost ≤ℤ b))) (sym cost_is)
          (reaches_start (known s) b start (elim lesser.reached [
            | inl same ↦ inl same
            | inr leaf ↦
                inr (rounded.least b (each value is_start leaf.leaf (AtLeast b) leaf.is_leaf leaf.worth))
          ]))

-- the laws
pub searches_answer_so_far : SearchesAnswerSoFar
searches_answer_so_far o steps d opening history is =
    so_far o (state_of o steps) (histories_are_sound o steps opening history) d is

pub finished_searches_answer : FinishedSearchesAnswer
finished_searches_answer o steps d opening history over is =
    answers o (state_of o steps) (histories_are_sound o steps opening history) d is over

pub bounds_reach_the_start : BoundsReachTheStart
bounds_reach_the_start o steps d opening history is each =
    starts o (state_of o steps) (histories_are_sound o steps opening history) d is each
