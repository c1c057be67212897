-- A search with enough budget leaves nothing open.
use Rattle.std.proofs.Common.{◌≡◌, ℕ, ◌+◌, ◌*◌, ◌≤◌, Bool, cond, List, [], ◌∷◌, length, sum_by, suc, refl, ap, arith, inl, inr}
use Rattle.std.proofs.lemmas.Bool.{cases_eq, ne_eqb}
use Rattle.std.proofs.lemmas.List.Sums.{sum_by-cons}
use Rattle.vs_instance.specs.Restriction.{permitted_sets}
use Rattle.vs_instance.proofs.CallerLemmas.{permitted_sets-IsRestriction}
use Rattle.vs_tree.specs.declared.spot.Spot.{Spot}
use Rattle.vs_tree.specs.History.{Opening, Place, State, is_closed, is_inner, spot_at, state_of}
use Rattle.vs_tree.specs.Sound.{IsOpening, IsSound}
use Rattle.vs_tree.specs.StateTree.{AreLeavesAt, one_if, times}
use Rattle.vs_tree.specs.Takes.{IsWorkLeft}
use Rattle.vs_prices.specs.Tree.{LeafPlace, leaves}
use Rattle.vs_tree.proofs.CallerLemmas.{histories_are_sound, times-cons}
use Rattle.vs_cert.specs.StateDocument.{IsDocumentOf}
use Rattle.vs_rows.specs.declared.document.Document.{Document}
use Rattle.vs_cert.specs.Answers.{choices}
use Rattle.vs_cert.specs.AnswerLaws.{EnoughBudgetsLeaveNothingOpen}
use Rattle.vs_cert.proofs.AnswerCounts.{closed_at_spots, is_closed_at, one_kind}
use Rattle.vs_cert.proofs.LeafCounts.{few_leaves, leaves-splits}
use Rattle.vs_cert.proofs.StateAnswers.{never_open}

-- as many leaves as spots
same_length : (places : List Place) (xs : List LeafPlace) (spots : List ℕ) → AreLeavesAt places xs spots
    → length xs ≡ length spots
same_length places [] [] are = refl
same_length places [] (k ∷ spots) are = absurd are
same_length places (x ∷ xs) [] are = absurd are
same_length places (x ∷ xs) (k ∷ spots) are = ap suc (same_length places xs spots are.1)

module _ (o : Opening) (s : State) (sound : IsSound o s) where
  closed_once : (k : ℕ) → is_closed_at o s sound k ≤ 1
  closed_once k = let kind = one_kind o s sound (spot_at s k) in omega (arith, kind)

  -- no more spots are closed than there are
  no_more : (spots : List ℕ) → sum_by (is_closed_at o s sound) spots ≤ length spots
  no_more [] = omega arith
  no_more (k ∷ spots) =
      omega (arith, no_more spots, closed_once k, sum_by-cons (is_closed_at o s sound) k spots)

  -- and where one of them isn't closed, fewer
  fewer : (k : ℕ) → is_closed_at o s sound k ≡ 0 → (spots : List ℕ) → 1 ≤ times k spots
      → sum_by (is_closed_at o s sound) spots + 1 ≤ length spots
  fewer k not [] stands = absurd (omega (arith, stands))
  fewer k not (j ∷ spots) stands =
      let all = sum_by-cons (is_closed_at o s sound) j spots in
      elim (cases_eq j k) [
        | inl same ↦
            let here = ap (is_closed_at o s sound) same in
            omega (arith, all, here, not, no_more spots)
        | inr other ↦
            let none = ap {B = ℕ} (λ (b : Bool). cond b 1 0) (ne_eqb j k other) in
            let rest = fewer k not spots (omega (arith, stands, times-cons k j spots, none)) in
            omega (arith, all, rest, closed_once j)
      ]

  -- while a leaf is free, few are finished
  few_finished : IsOpening o → (d : Document) → IsDocumentOf o s d → IsWorkLeft o.problem s
      → s.finished + 2 ≤ 2 * choices (permitted_sets o.problem)
  few_finished opening d is left =
      let p = o.problem in
      let tree = is.is_tree in
      let free = left.free.1 in
      let leaf = ap {B = ℕ} (λ (x : Spot). one_if (is_inner x)) free in
      let open_still = ap {B = ℕ} (λ (x : Spot). one_if (is_closed x)) free in
      let once = tree.once left.leaf in
      let some = fewer left.leaf open_still tree.spots (omega (arith, once, leaf)) in
      let closed = closed_at_spots o s sound tree.spots tree.once in
      let count = same_length s.places (leaves (permitted_sets p) is.tree) tree.spots tree.leaves_are in
      let few = few_leaves p opening.instance is.tree (permitted_sets p)
      (permitted_sets-IsRestriction p opening.instance) tree.good in
      let one_more = leaves-splits is.tree (permitted_sets p) in
      omega (arith, some, closed, count, few, one_more, tree.splits_are, sound.finished)

-- the law
pub enough_budgets_leave_nothing_open : EnoughBudgetsLeaveNothingOpen
enough_budgets_leave_nothing_open o steps d opening history over is enough claims =
    let s = state_of o steps in
    let sound = histories_are_sound o steps opening history in
    let none : ¬ (IsWorkLeft o.problem s) =
    λ left. elim over.no_more [
      | inl none ↦ none left
      | inr spent ↦
          let few = few_finished o s sound opening d is left in
          absurd (omega (arith, few, spent, enough))
    ] in
    never_open o s sound d is over none claims
