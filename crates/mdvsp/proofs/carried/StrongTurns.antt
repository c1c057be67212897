-- Turns keep leaves whose tables show a bound, and never raise a cost.
use Rattle.std.proofs.Common.{◌≡◌, ℕ, zero, suc, ◌-◌, ◌<◌, Bool, true, false, List, [], ◌∷◌, ◌++◌, inl, inr, length, nat_lt, slice_get, Option, Some, None, IfSome, refl, sym, ◌∙◌, subst, arith, ℤ, ◌≤ℤ◌, if◌then◌else◌}
use Rattle.std.specs.Prelude.{IsSomeAnd}
use Rattle.std.specs.List.{All}
use Rattle.std.proofs.lemmas.Bool.{false≢true, lt-ltb, ltb-true}
use Rattle.std.proofs.lemmas.Int.{ints}
use Rattle.std.proofs.lemmas.List.Elements.{All-nil, All-cons, All-head, All-tail, All-append}
use Rattle.vs_types.specs.declared.layer_set.LayerSet.{LayerSet}
use Rattle.vs_types.specs.declared.numbers.TripNo.{TripNo}
use Rattle.vs_instance.specs.Problem.{Problem}
use Rattle.vs_instance.specs.Restriction.{permitted_sets}
use Rattle.vs_prices.specs.Tree.{Leaf, LeafPlace, Split, Tree, leaves, right_of, with_set}
use Rattle.vs_tree.specs.History.{IsCheaper}
use Rattle.vs_tree.specs.Prices.{Prices}
use Rattle.vs_resume.specs.InPlace.{count_leaves, with_part}
use Rattle.vs_resume.specs.Standing.{Standing, leaves_of}
use Rattle.vs_resume.specs.Turns.{AreTurns, IsTurn, Turned}
use Rattle.vs_resume.proofs.CallerLemmas.{count-leaves}
use Rattle.mdvsp.proofs.carried.Strong.{AreStrong, IsStrong, are_strong-more, get-left, get-right, reaches_by, strong_at, strong_deeper, worth_at}

module _ (P : LeafPlace → Type 0) where
  -- the two parts of a list of leaves
  pub all-left : (xs ys : List LeafPlace) → All P (xs ++ ys) → All P xs
  all-left [] ys all = All-nil P
  all-left (x ∷ xs) ys all =
      All-cons P x xs (All-head P x (xs ++ ys) all) (all-left xs ys (All-tail P x (xs ++ ys) all))

  pub all-right : (xs ys : List LeafPlace) → All P (xs ++ ys) → All P ys
  all-right [] ys all = all
  all-right (x ∷ xs) ys all = all-right xs ys (All-tail P x (xs ++ ys) all)

  module _ (part : Tree) (leaf : LeafPlace) (deeper : All P (leaves leaf.sets part)) where
    -- on the side of a split where the leaf is, and on the other
    all_on_sides : (sets : List LayerSet) (trip : TripNo) (left : LayerSet) (lower upper : Tree) (k : ℕ)
        (within : Bool) → nat_lt k (count_leaves lower) ≡ within
        → (slice_get (leaves (with_set sets trip left) lower) k ≡ Some leaf
        → All P (leaves (with_set sets trip left) lower)
        → All P (leaves (with_set sets trip left) (with_part lower k part)))
        → (slice_get (leaves (with_set sets trip (right_of sets trip left)) upper) (k - count_leaves lower) ≡ Some leaf
        → All P (leaves (with_set sets trip (right_of sets trip left)) upper)
        → All P (leaves (with_set sets trip (right_of sets trip left))
        (with_part upper (k - count_leaves lower) part)))
        → slice_get (leaves (with_set sets trip left) lower
        ++ leaves (with_set sets trip (right_of sets trip left)) upper) k ≡ Some leaf
        → All P (leaves (with_set sets trip left) lower ++ leaves (with_set sets trip (right_of sets trip left)) upper)
        → All P (leaves sets (if within then Split trip left (with_part lower k part) upper
        else Split trip left lower (with_part upper (k - count_leaves lower) part)))
    all_on_sides sets trip left lower upper k true is low high found all =
        let xs : List LeafPlace = leaves (with_set sets trip left) lower in
        let ys : List LeafPlace = leaves (with_set sets trip (right_of sets trip left)) upper in
        let size = count-leaves (with_set sets trip left) lower in
        let less : k < count_leaves lower = ltb-true k (count_leaves lower) is in
        let below : k < length xs = omega (arith, less, size) in
        All-append P _ ys (low (get-left xs ys k leaf below found) (all-left xs ys all)) (all-right xs ys all)
    all_on_sides sets trip left lower upper k false is low high found all =
        let xs : List LeafPlace = leaves (with_set sets trip left) lower in
        let ys : List LeafPlace = leaves (with_set sets trip (right_of sets trip left)) upper in
        let size = count-leaves (with_set sets trip left) lower in
        let past : ¬ (k < length xs) =
        λ lt. false≢true (sym is ∙ lt-ltb k (count_leaves lower) (omega (arith, lt, size))) in
        let there = get-right xs ys k leaf past found in
        All-append P xs _ (all-left xs ys all)
        (high (subst (λ (n : ℕ). slice_get ys (k - n) ≡ Some leaf) size there) (all-right xs ys all))

    -- what holds of each leaf holds of them once a part whose leaves have it stands in the place of one
    pub all_in_place : (sets : List LayerSet) (tree : Tree) (k : ℕ) → slice_get (leaves sets tree) k ≡ Some leaf
        → All P (leaves sets tree) → All P (leaves sets (with_part tree k part))
    all_in_place sets (Leaf table) zero found all =
        let place : LeafPlace = record { sets = sets; table = table } in
        let same : leaf ≡ place = cc in
        subst (λ (x : LeafPlace). All P (leaves x.sets part)) same deeper
    all_in_place sets (Leaf table) (suc k) found all = cc
    all_in_place sets (Split trip left lower upper) k found all =
        all_on_sides sets trip left lower upper k (nat_lt k (count_leaves lower)) refl
        (all_in_place (with_set sets trip left) lower k)
        (all_in_place (with_set sets trip (right_of sets trip left)) upper (k - count_leaves lower)) found all

-- the one cost is no less than the other, which there is where there is the one
abbrev pub NoHigher : Option ℤ → Option ℤ → Type 0
NoHigher was now = IfSome was (λ a. IsSomeAnd now (λ b. b ≤ℤ a))

no_higher-itself : (cost : Option ℤ) → NoHigher cost cost
no_higher-itself None = tt
no_higher-itself (Some a) = omega (arith, ints)

no_higher-trans : (a b c : Option ℤ) → NoHigher a b → NoHigher b c → NoHigher a c
no_higher-trans None b c one other = tt
no_higher-trans (Some x) None c one other = absurd one
no_higher-trans (Some x) (Some y) None one other = absurd other
no_higher-trans (Some x) (Some y) (Some z) one other = omega (arith, ints)

cheaper-no_higher : (was : Option ℤ) (n : ℤ) → IsCheaper n was → NoHigher was (Some n)
cheaper-no_higher None n cheaper = tt
cheaper-no_higher (Some a) n cheaper = omega (arith, ints)

module _ (p : Problem) (bound : Option ℤ) where
  -- a turn keeps all leaves strong
  turn_strong : (left nodes : ℕ) (s t : Standing) → IsTurn p left s t nodes
      → AreStrong p bound s.tables (leaves_of p s) → AreStrong p bound t.tables (leaves_of p t)
  turn_strong left nodes s t turn strong =
      let next = turn.next in
      let named = worth_at p bound s.tables (leaves_of p s) next.worths turn.number turn.leaf turn.worth next.are_worths
      next.stands next.next.stands in
      let here = strong_at p bound s.tables (leaves_of p s) turn.number turn.leaf strong next.stands in
      let reaches = reaches_by p bound s.tables turn.leaf turn.worth here named in
      let deeper = strong_deeper p bound t.tables (leaves turn.leaf.sets turn.part) turn.worths turn.worth
      turn.are_worths turn.deeper.no_less reaches in
      let before : AreStrong p bound t.tables (leaves_of p s) =
      subst (λ (tables : List Prices). AreStrong p bound tables (leaves_of p s)) (sym turn.tables)
      (are_strong-more p bound s.tables turn.added (leaves_of p s) strong) in
      subst (λ (tree : Tree). AreStrong p bound t.tables (leaves (permitted_sets p) tree)) (sym turn.tree)
      (all_in_place (IsStrong p bound t.tables) turn.part turn.leaf deeper (permitted_sets p) s.tree turn.number
      next.stands before)

  pub turns_strong : (left : ℕ) (s : Standing) (turns : List Turned) (t : Standing) → AreTurns p left s turns t
      → AreStrong p bound s.tables (leaves_of p s) → AreStrong p bound t.tables (leaves_of p t)
  turns_strong left s [] t are strong =
      subst (λ (x : Standing). AreStrong p bound x.tables (leaves_of p x)) (sym are) strong
  turns_strong left s (turn ∷ turns) t are strong =
      turns_strong (left - turn.nodes) turn.standing turns t are.1
      (turn_strong left turn.nodes s turn.standing are.0 strong)

module _ (p : Problem) where
  -- and it never raises the cost
  turn_no_higher : (left nodes : ℕ) (s t : Standing) → IsTurn p left s t nodes → NoHigher s.cost t.cost
  turn_no_higher left nodes s t turn = elim turn.plan [
    | inl kept ↦ subst (NoHigher s.cost) (sym kept.cost) (no_higher-itself s.cost)
    | inr found ↦ subst (NoHigher s.cost) (sym found.costs) (cheaper-no_higher s.cost _ found.cheaper)
  ]

  pub turns_no_higher : (left : ℕ) (s : Standing) (turns : List Turned) (t : Standing) → AreTurns p left s turns t
      → NoHigher s.cost t.cost
  turns_no_higher left s [] t are =
      subst (λ (x : Standing). NoHigher s.cost x.cost) (sym are) (no_higher-itself s.cost)
  turns_no_higher left s (turn ∷ turns) t are =
      no_higher-trans s.cost turn.standing.cost t.cost (turn_no_higher left turn.nodes s turn.standing are.0)
      (turns_no_higher (left - turn.nodes) turn.standing turns t are.1)
