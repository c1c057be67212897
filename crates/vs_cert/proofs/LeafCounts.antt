-- How many leaves a good tree has at most.
use Rattle.std.proofs.Common.{◌≡◌, ◌≢◌, ℕ, zero, suc, ◌+◌, ◌*◌, ◌<◌, ◌≤◌, ◌==◌, Bool, cond, List, [], ◌∷◌, length, count_by, set, refl, ap, arith, inl, inr, length-append}
use Rattle.std.specs.Int.{bit_at}
use Rattle.std.proofs.Math.Nat.{mul-le-mul_left, mul-le-mul_right, one-le-mul}
use Rattle.std.proofs.lemmas.Bool.{cases_eq, eq-eqb, ne_eqb}
use Rattle.std.proofs.lemmas.List.Sums.{length-filter, sum_by-cons}
use Rattle.vs_types.specs.LayerSet.{layer_numbers, members}
use Rattle.vs_types.specs.declared.layer_set.LayerSet.{LayerSet}
use Rattle.vs_instance.specs.Instance.{IsInstance}
use Rattle.vs_instance.specs.Problem.{Problem}
use Rattle.vs_instance.specs.Restriction.{IsRestriction, set_of}
use Rattle.vs_prices.specs.Tree.{Tree, Leaf, Split, IsGoodTree, leaves, right_of, splits, with_set}
use Rattle.vs_prices.proofs.CallerLemmas.{left-restricts, restriction-layers, right-restricts}
use Rattle.vs_types.proofs.CallerLemmas.{SharesOut, shares_out}
use Rattle.vs_cert.specs.Answers.{choices}

-- numbers of two kinds, none of both, are no more than those of a kind that holds both
counts_apart : (p q r : ℕ → Bool) → ((l : ℕ) → cond (p l) 1 0 + cond (q l) 1 0 ≤ cond (r l) 1 0) → (xs : List ℕ)
    → count_by p xs + count_by q xs ≤ count_by r xs
counts_apart p q r each [] = omega arith
counts_apart p q r each (x ∷ xs) =
    omega (
      arith,
      each x,
      counts_apart p q r each xs,
      sum_by-cons (λ (l : ℕ). cond (p l) 1 0) x xs,
      sum_by-cons (λ (l : ℕ). cond (q l) 1 0) x xs,
      sum_by-cons (λ (l : ℕ). cond (r l) 1 0) x xs,
    )

-- how many layers a set has
abbrev size : LayerSet → ℕ
size layers = length (members layers)

abbrev stands_in : LayerSet → ℕ → Bool
stands_in layers l = bit_at layers.0 l == 1

-- a layer stands in one of the parts that share out a set, and in the set
stands_apart : (whole part rest : LayerSet) → SharesOut whole part rest → (l : ℕ)
    → cond (stands_in part l) 1 0 + cond (stands_in rest l) 1 0 ≤ cond (stands_in whole l) 1 0
stands_apart whole part rest shares l =
    elim (cases_eq (bit_at part.0 l) 1) [
      | inl first ↦
          let a = ap {B = ℕ} (λ (b : Bool). cond b 1 0) (eq-eqb _ _ first) in
          let b = ap {B = ℕ} (λ (b : Bool). cond b 1 0) (ne_eqb _ _ (shares.once l first)) in
          let c = ap {B = ℕ} (λ (b : Bool). cond b 1 0) (eq-eqb _ _ ((shares.each l).1 (inl first))) in
          omega (arith, a, b, c)
      | inr not_first ↦
          let a = ap {B = ℕ} (λ (b : Bool). cond b 1 0) (ne_eqb _ _ not_first) in
          elim (cases_eq (bit_at rest.0 l) 1) [
            | inl second ↦
                let b = ap {B = ℕ} (λ (b : Bool). cond b 1 0) (eq-eqb _ _ second) in
                let c = ap {B = ℕ} (λ (b : Bool). cond b 1 0) (eq-eqb _ _ ((shares.each l).1 (inr second))) in
                omega (arith, a, b, c)
            | inr not_second ↦
                let b = ap {B = ℕ} (λ (b : Bool). cond b 1 0) (ne_eqb _ _ not_second) in
                omega (arith, a, b)
          ]
    ]

sizes_apart : (whole part rest : LayerSet) → SharesOut whole part rest → size part + size rest ≤ size whole
sizes_apart whole part rest shares =
    let apart = counts_apart (stands_in part) (stands_in rest) (stands_in whole) (stands_apart whole part rest shares)
    layer_numbers in
    omega (
      arith,
      apart,
      length-filter (stands_in part) layer_numbers,
      length-filter (stands_in rest) layer_numbers,
      length-filter (stands_in whole) layer_numbers,
    )

-- where each set has some layer, there is a choice
some_choice : (sets : List LayerSet) → ((i : ℕ) → i < length sets → members (set_of sets i) ≢ []) → 1 ≤ choices sets
some_choice [] some = omega arith
some_choice (x ∷ sets) some =
    one-le-mul (not_empty (members x) (some 0 (omega arith)))
    (some_choice sets (λ i within. some (suc i) (omega (arith, within))))
  where
    not_empty : (xs : List ℕ) → xs ≢ [] → 1 ≤ length xs
    not_empty [] some = absurd (some refl)
    not_empty (y ∷ ys) some = omega arith

-- two parts of a set have together no more choices than the set
choices_apart : (sets : List LayerSet) (i : ℕ) (a b : LayerSet) → i < length sets
    → size a + size b ≤ size (set_of sets i) → choices (set sets i a) + choices (set sets i b) ≤ choices sets
choices_apart [] i a b within few = absurd (omega (arith, within))
choices_apart (x ∷ sets) zero a b within few =
    let all : (size a + size b) * choices sets ≤ size x * choices sets = mul-le-mul_right (choices sets) few in
    omega (arith, all)
choices_apart (x ∷ sets) (suc i) a b within few =
    let fewer = choices_apart sets i a b (omega (arith, within)) few in
    let all : size x * (choices (set sets i a) + choices (set sets i b)) ≤ size x * choices sets =
    mul-le-mul_left (size x) fewer in
    omega (arith, all)

-- a good tree has no more leaves than there are choices of a layer for each trip
pub few_leaves : (p : Problem) → IsInstance p → (t : Tree) (sets : List LayerSet) → IsRestriction p sets
    → IsGoodTree sets t → length (leaves sets t) ≤ choices sets
few_leaves p instance (Leaf table) sets restriction good =
    let some = some_choice sets (λ i within.
    restriction.some_layer i (omega (arith, within, restriction.each_trip))) in
    omega (arith, some)
few_leaves p instance (Split trip left lower upper) sets restriction good =
    let right = right_of sets trip left in
    let l = few_leaves p instance lower (with_set sets trip left)
    (left-restricts p sets trip left good.0 good.1 restriction) good.2 in
    let u = few_leaves p instance upper (with_set sets trip right)
    (right-restricts p sets trip left good.0 good.1 restriction) good.3 in
    let shares = shares_out (set_of sets trip.0) left
    (λ layer has. restriction-layers p sets instance restriction trip.0 layer good.0 has) good.1 in
    let few = choices_apart sets trip.0 left right good.0 (sizes_apart (set_of sets trip.0) left right shares) in
    let all = length-append (leaves (with_set sets trip left) lower) (leaves (with_set sets trip right) upper) in
    omega (arith, l, u, few, all)

-- and one leaf more than splits
pub leaves-splits : (t : Tree) (sets : List LayerSet) → length (leaves sets t) ≡ splits t + 1
leaves-splits (Leaf table) sets = refl
leaves-splits (Split trip left lower upper) sets =
    let right = right_of sets trip left in
    let all = length-append (leaves (with_set sets trip left) lower) (leaves (with_set sets trip right) upper) in
    omega (arith, all, leaves-splits lower (with_set sets trip left), leaves-splits upper (with_set sets trip right))
