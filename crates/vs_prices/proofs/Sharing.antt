-- The leaves of a good tree share out the plans of its root.
use Rattle.std.proofs.Common.{◌≡◌, ℕ, zero, suc, ◌+◌, List, [], ◌∷◌, ◌++◌, length, refl, sym, ap, ◌∙◌, subst, arith, inl, inr, ◌⊎◌, Option, unwrap_or}
use Rattle.vs_types.specs.declared.layer_set.LayerSet.{LayerSet}
use Rattle.vs_instance.specs.Plan.{LayerBlock, IsPlan}
use Rattle.vs_instance.specs.Problem.{Problem}
use Rattle.vs_instance.specs.Instance.{IsInstance}
use Rattle.vs_instance.specs.Restriction.{IsRestriction, IsWithin, set_of}
use Rattle.vs_prices.specs.Tree.{Tree, Leaf, Split, IsGoodTree, LeafPlace, leaves, right_of, with_set}
use Rattle.vs_types.proofs.CallerLemmas.{rest-within, shares_out}
use Rattle.vs_prices.proofs.Restrictions.{left-restricts, restriction-layers, right-restricts}
use Rattle.vs_prices.specs.CaseLaws.{LiesIn, LiesInOne}
use Rattle.vs_prices.proofs.RunIn.{run_once, narrower, runs_in, wider}

-- the leaves of the lower part come first
lies_lower : (xs ys : List LeafPlace) (k : ℕ) (blocks : List LayerBlock) → LiesIn xs k blocks
    → LiesIn (xs ++ ys) k blocks
lies_lower [] ys k blocks lies = absurd cc
lies_lower (x ∷ xs) ys zero blocks lies = record { place = lies.place; is = lies.is; within = lies.within }
lies_lower (x ∷ xs) ys (suc k) blocks lies =
    let deeper = lies_lower xs ys k blocks (record { place = lies.place; is = lies.is; within = lies.within }) in
    record { place = deeper.place; is = deeper.is; within = deeper.within }

lies_upper : (xs ys : List LeafPlace) (k : ℕ) (blocks : List LayerBlock) → LiesIn ys k blocks
    → LiesIn (xs ++ ys) (length xs + k) blocks
lies_upper [] ys k blocks lies = subst (λ (j : ℕ). LiesIn ys j blocks) (omega arith) lies
lies_upper (x ∷ xs) ys k blocks lies =
    let deeper = lies_upper xs ys k blocks lies in
    let moved : LiesIn (x ∷ (xs ++ ys)) (suc (length xs + k)) blocks =
    record { place = deeper.place; is = deeper.is; within = deeper.within } in
    subst (λ (j : ℕ). LiesIn (x ∷ (xs ++ ys)) j blocks) (omega arith) moved

lies_either : (xs ys : List LeafPlace) (k : ℕ) (blocks : List LayerBlock) → LiesIn (xs ++ ys) k blocks
    → LiesIn xs k blocks ⊎ ((j : ℕ) × (k ≡ length xs + j) × LiesIn ys j blocks)
lies_either [] ys k blocks lies = inr (k, omega arith, lies)
lies_either (x ∷ xs) ys zero blocks lies = inl (record { place = lies.place; is = lies.is; within = lies.within })
lies_either (x ∷ xs) ys (suc k) blocks lies =
    elim (lies_either xs ys k blocks (record { place = lies.place; is = lies.is; within = lies.within })) [
      | inl first ↦ inl (record { place = first.place; is = first.is; within = first.within })
      | inr second ↦ inr (second.0, omega (arith, second.1), second.2)
    ]

lies_alone : (place : LeafPlace) (k : ℕ) (blocks : List LayerBlock) → LiesIn (place ∷ []) k blocks
    → (k ≡ 0) × IsWithin place.sets blocks
lies_alone place zero blocks lies =
    let same : lies.place ≡ place = ap (λ (o : Option LeafPlace). unwrap_or o place) (sym lies.is) in
    (refl, rw (sym same) lies.within)
lies_alone place (suc k) blocks lies = absurd cc

module _ (blocks : List LayerBlock) where
  -- what lies in a leaf lies within the root's restriction
  inside_root : (sets : List LayerSet) (tree : Tree) → IsGoodTree sets tree → (k : ℕ)
      → LiesIn (leaves sets tree) k blocks → IsWithin sets blocks
  inside_root sets (Leaf table) good k lies = (lies_alone _ k blocks lies).1
  inside_root sets (Split trip left lower upper) good k lies =
      elim (lies_either (leaves (with_set sets trip left) lower) _ k blocks lies) [
        | inl below ↦
            wider sets trip left good.0 blocks good.1.within
            (inside_root (with_set sets trip left) lower good.2 k below)
        | inr above ↦
            wider sets trip (right_of sets trip left) good.0 blocks (rest-within (set_of sets trip.0) left)
            (inside_root (with_set sets trip (right_of sets trip left)) upper good.3 above.0 above.2)
      ]

  module _ (p : Problem) (instance : IsInstance p) (plan : IsPlan p blocks) where
    -- a plan within the root's restriction lies in exactly one leaf
    pub lies_in_one : (sets : List LayerSet) (tree : Tree) → IsRestriction p sets → IsGoodTree sets tree
        → IsWithin sets blocks → LiesInOne (leaves sets tree) blocks
    lies_in_one sets (Leaf table) restriction good within = record {
      leaf = 0;
      lies = record { place = record { sets = sets; table = table }; is = refl; within = within };
      only = λ k lies. (lies_alone _ k blocks lies).0;
    }
    lies_in_one sets (Split trip left lower upper) restriction good within =
        let run = run_once trip.0 blocks (plan.once trip.0 (omega (arith, restriction.each_trip, good.0))) in
        let right = right_of sets trip left in
        let below = leaves (with_set sets trip left) lower in
        let above = leaves (with_set sets trip right) upper in
        let shares = shares_out (set_of sets trip.0) left
        (λ l has. restriction-layers p sets instance restriction trip.0 l good.0 has) good.1 in
        elim ((shares.each run.0).0 (run.1.somewhere sets within)) [
          | inl on_left ↦
              let one =
              lies_in_one (with_set sets trip left) lower
              (left-restricts p sets trip left good.0 good.1 restriction)
              good.2 (narrower sets trip left good.0 blocks run.0 run.1 on_left within) in
              record {
                leaf = one.leaf;
                lies = lies_lower below above one.leaf blocks one.lies;
                only = λ k lies. elim (lies_either below above k blocks lies) [
                  | inl first ↦ one.only k first
                  | inr second ↦
                      absurd (shares.once run.0 on_left (runs_in sets trip right good.0 blocks run.0 run.1
                      (inside_root (with_set sets trip right) upper good.3 second.0 second.2)))
                ];
              }
          | inr on_right ↦
              let one = lies_in_one (with_set sets trip right) upper
              (right-restricts p sets trip left good.0 good.1 restriction) good.3
              (narrower sets trip right good.0 blocks run.0 run.1 on_right within) in
              record {
                leaf = length below + one.leaf;
                lies = lies_upper below above one.leaf blocks one.lies;
                only = λ k lies. elim (lies_either below above k blocks lies) [
                  | inl first ↦
                      absurd (shares.once run.0 (runs_in sets trip left good.0 blocks run.0 run.1
                      (inside_root (with_set sets trip left) lower good.2 k first)) on_right)
                  | inr second ↦ second.1 ∙ ap (λ (j : ℕ). length below + j) (one.only second.0 second.2)
                ];
              }
        ]
