-- How many nodes turns finish: no more than they add leaves, and than there are more leaves that aren't below the cost.
use Rattle.std.proofs.Common.{◌≡◌, ℕ, ◌+◌, ◌-◌, ◌<◌, ◌≤◌, inl, inr, List, [], ◌∷◌, ◌++◌, take, drop, sym, ap, ◌∙◌, subst, arith, Option, Some, None, slice_get, ℤ, pos}
use Rattle.std.specs.List.{All}
use Rattle.std.proofs.lemmas.Int.{ints}
use Rattle.std.proofs.lemmas.List.Elements.{All-append, All-drop, All-take, All-weaker}
use Rattle.std.proofs.lemmas.Option.{slice_get_within}
use Rattle.vs_instance.specs.Plan.{plan_cost}
use Rattle.vs_instance.specs.Problem.{Problem}
use Rattle.vs_instance.specs.Restriction.{permitted_sets}
use Rattle.vs_prices.specs.Bounds.{IsNoLess}
use Rattle.vs_prices.specs.declared.bound.Bound.{Bound}
use Rattle.vs_prices.specs.Tree.{LeafPlace, leaves}
use Rattle.vs_prices.proofs.CallerLemmas.{no_less-trans}
use Rattle.vs_rows.proofs.CallerLemmas.{all_at}
use Rattle.vs_tree.specs.History.{IsCheaper}
use Rattle.vs_tree.specs.Prices.{Prices}
use Rattle.vs_cert.specs.Answers.{count_not_below}
use Rattle.vs_resume.specs.InPlace.{count_leaves, in_place}
use Rattle.vs_resume.specs.Standing.{AreNamedWorths, IsNamedWorth, Standing, leaves_of}
use Rattle.vs_resume.specs.Turns.{AreTurns, IsTurn, Turned, nodes_of}
use Rattle.vs_resume.proofs.documents.OnCourse.{nodes-cons}
use Rattle.vs_resume.proofs.trees.Growth.{grows}
use Rattle.vs_resume.proofs.trees.InPlace.{count-leaves, leaves-with_part}
use Rattle.vs_resume.proofs.trees.Zips.{zip-in_place}
use Rattle.vs_resume.proofs.worths.Counts.{others_not_below}
use Rattle.vs_resume.proofs.worths.NamedWorths.{named-more, named-once, named-zip, zip-named}
use Rattle.vs_resume.proofs.worths.Settled.{IsNoMore}

no_more-itself : (cost : Option ℤ) → IsNoMore cost cost
no_more-itself None = tt
no_more-itself (Some c) = omega (arith, ints)

cheaper-no_more : (n : ℤ) (was : Option ℤ) → IsCheaper n was → IsNoMore (Some n) was
cheaper-no_more n None cheaper = tt
cheaper-no_more n (Some c) cheaper = omega (arith, ints, cheaper)

-- a turn never raises the cost
no_more : (p : Problem) (left nodes : ℕ) (s t : Standing) → IsTurn p left s t nodes → IsNoMore t.cost s.cost
no_more p left nodes s t turn = elim turn.plan [
  | inl kept ↦ subst (λ (cost : Option ℤ). IsNoMore cost s.cost) (sym kept.cost) (no_more-itself s.cost)
  | inr found ↦ subst (λ (cost : Option ℤ). IsNoMore cost s.cost) (sym found.costs)
      (cheaper-no_more (pos (plan_cost p t.blocks)) s.cost found.cheaper)
]

-- from a standing whose leaves have these worths to another one so many nodes were finished, and none became worth less
pub record AreCounted (p : Problem) (s t : Standing) (worths : List Bound) (nodes : ℕ) : Type 0 where
  pub now : List Bound
  pub are_worths : AreNamedWorths p t.tables (leaves_of p t) now
  pub count : nodes + count_leaves s.tree + count_not_below s.cost worths
      ≤ count_leaves t.tree + count_not_below t.cost now
  pub low : (least : Bound) → All (λ worth. IsNoLess worth least) worths → All (λ worth. IsNoLess worth least) now

-- by one turn
module _ (p : Problem) (left nodes : ℕ) (s t : Standing) (turn : IsTurn p left s t nodes) (worths : List Bound)
    (are : AreNamedWorths p s.tables (leaves_of p s) worths) where
  stands : slice_get worths turn.number ≡ Some turn.worth
  stands =
      let next = turn.next in
      subst (λ (some : List Bound). slice_get some turn.number ≡ Some turn.worth)
      (named-once p s.tables (leaves_of p s) next.worths worths next.are_worths are) next.next.stands

  abbrev now : List Bound
  now = in_place worths turn.number turn.worths

  low : (least : Bound) → All (λ worth. IsNoLess worth least) worths → All (λ worth. IsNoLess worth least) now
  low least each =
      let Low : Bound → Type 0 = λ worth. IsNoLess worth least in
      let here : IsNoLess turn.worth least = all_at Low worths turn.number turn.worth each stands in
      let deeper : All Low turn.worths =
      All-weaker (λ (worth : Bound). IsNoLess worth turn.worth) Low
      (λ worth more. no_less-trans worth turn.worth least more here) turn.worths turn.deeper.no_less in
      All-append Low (take turn.number worths) (turn.worths ++ drop (turn.number + 1) worths)
      (All-take Low turn.number worths each)
      (All-append Low turn.worths (drop (turn.number + 1) worths) deeper
      (All-drop Low (turn.number + 1) worths each))

  kept : AreNamedWorths p t.tables (leaves_of p s) worths
  kept =
      subst (λ (tables : List Prices). AreNamedWorths p tables (leaves_of p s) worths) (sym turn.tables)
      (named-more p s.tables turn.added (leaves_of p s) worths are)

  placed : AreNamedWorths p t.tables (in_place (leaves_of p s) turn.number (leaves turn.leaf.sets turn.part)) now
  placed =
      named-zip p t.tables (in_place (leaves_of p s) turn.number (leaves turn.leaf.sets turn.part)) now
      (zip-in_place (IsNamedWorth p t.tables) turn.number (leaves_of p s) (leaves turn.leaf.sets turn.part) worths
      turn.worths (zip-named p t.tables (leaves_of p s) worths kept)
      (zip-named p t.tables (leaves turn.leaf.sets turn.part) turn.worths turn.are_worths))

  leaves_are : leaves_of p t ≡ in_place (leaves_of p s) turn.number (leaves turn.leaf.sets turn.part)
  leaves_are =
      ap (leaves (permitted_sets p)) turn.tree
      ∙ (leaves-with_part turn.part (permitted_sets p) s.tree turn.number turn.leaf turn.next.stands).leaves_are

  inside : turn.number < count_leaves s.tree
  inside =
      omega (
        arith,
        slice_get_within (leaves_of p s) turn.number turn.leaf turn.next.stands,
        count-leaves (permitted_sets p) s.tree,
      )

  turn_counted : AreCounted p s t worths nodes
  turn_counted = record {
    now = now;
    are_worths = subst (λ (places : List LeafPlace). AreNamedWorths p t.tables places now) (sym leaves_are) placed;
    count =
        let more = others_not_below t.cost s.cost worths turn.worths turn.number turn.worth
        (no_more p left nodes s t turn) stands turn.next.next.below in
        let grown = ap count_leaves turn.tree ∙ grows turn.part s.tree turn.number inside in
        omega (arith, more, grown, turn.each_node);
    low = low;
  }

-- by several
pub turns_counted : (p : Problem) (left : ℕ) (s t : Standing) (turns : List Turned) → AreTurns p left s turns t
    → (worths : List Bound) → AreNamedWorths p s.tables (leaves_of p s) worths
    → AreCounted p s t worths (nodes_of turns)
turns_counted p left s t [] are worths is =
    subst (λ (x : Standing). AreCounted p s x worths (nodes_of [])) (sym are)
    (record { now = worths; are_worths = is; count = omega arith; low = λ least each. each })
turns_counted p left s t (turn ∷ turns) are worths is =
    let one = turn_counted p left turn.nodes s turn.standing are.0 worths is in
    let rest = turns_counted p (left - turn.nodes) turn.standing t turns are.1 one.now one.are_worths in
    record {
      now = rest.now;
      are_worths = rest.are_worths;
      count = omega (arith, one.count, rest.count, nodes-cons turn turns);
      low = λ least each. rest.low least (one.low least each);
    }
