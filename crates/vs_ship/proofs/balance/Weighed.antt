-- The weight of what lies at the nodes.
use Rattle.std.proofs.Common.{◌≡◌, ◌≢◌, ℕ, zero, suc, ◌+◌, ◌<◌, List, map, length, set, refl, ap, ◌∙◌, arith, ℤ, pos, ◌+ℤ◌, ◌-ℤ◌, ◌*ℤ◌, length-set}
use Rattle.std.specs.List.{range_with_len}
use Rattle.std.proofs.lemmas.Int.{ints}
use Rattle.std.proofs.lemmas.List.{get_or-set_same, get_or-set_other}
use Rattle.vs_types.proofs.CallerLemmas.{times_none}
use Rattle.vs_instance.specs.Lagrangian.{total}
use Rattle.vs_path.specs.Residual.{price_at}
use Rattle.vs_ship.specs.Balance.{weighed}
use Rattle.vs_ship.proofs.balance.Numbers.{times_suc, times_pred, total-range_but, total-range_same}

-- one of the numbers is another one
pub weighed-set : (weight : ℕ → ℤ) (xs : List ℤ) (i : ℕ) (y : ℤ) → i < length xs
    → weighed weight (set xs i y) ≡ (weighed weight xs +ℤ (weight i *ℤ y -ℤ weight i *ℤ price_at xs i))
weighed-set weight xs i y within =
    let f : ℕ → ℤ = λ v. weight v *ℤ price_at (set xs i y) v in
    let g : ℕ → ℤ = λ v. weight v *ℤ price_at xs v in
    let others : (k : ℕ) → k ≢ i → f k ≡ g k =
    λ k away. ap (λ (z : ℤ). weight k *ℤ z) (get_or-set_other xs i k y (pos 0) (λ e. away e)) in
    let here : f i ≡ weight i *ℤ y = ap (λ (z : ℤ). weight i *ℤ z) (get_or-set_same xs i y (pos 0) within) in
    let same : total (map f (range_with_len 0 (length (set xs i y)))) ≡ total (map f (range_with_len 0 (length xs))) =
    ap (λ (n : ℕ). total (map f (range_with_len 0 n))) (length-set xs i y) in
    let change = total-range_but f g 0 (length xs) i (omega arith) (omega arith) others in
    omega (arith, ints, same, change, here)

-- a unit goes from a node
pub weighed-pred : (weight : ℕ → ℤ) (xs : List ℤ) (i : ℕ) → i < length xs
    → weighed weight (set xs i (price_at xs i -ℤ pos 1)) ≡ weighed weight xs -ℤ weight i
weighed-pred weight xs i within =
    let change = weighed-set weight xs i (price_at xs i -ℤ pos 1) within in
    let product = times_pred (weight i) (price_at xs i) in
    omega (arith, ints, change, product)

-- a unit comes to a node
pub weighed-suc : (weight : ℕ → ℤ) (xs : List ℤ) (i : ℕ) → i < length xs
    → weighed weight (set xs i (price_at xs i +ℤ pos 1)) ≡ weighed weight xs +ℤ weight i
weighed-suc weight xs i within =
    let change = weighed-set weight xs i (price_at xs i +ℤ pos 1) within in
    let product = times_suc (weight i) (price_at xs i) in
    omega (arith, ints, change, product)

none_in_order : (a n : ℕ) → total (map (λ v. pos 0) (range_with_len a n)) ≡ pos 0
none_in_order a zero = refl
none_in_order a (suc n) = let rest = none_in_order (a + 1) n in omega (arith, ints, rest)

-- where nothing lies anywhere, it has no weight
pub weighed-none : (weight : ℕ → ℤ) (xs : List ℤ) → ((v : ℕ) → price_at xs v ≡ pos 0) → weighed weight xs ≡ pos 0
weighed-none weight xs none =
    total-range_same (λ v. weight v *ℤ price_at xs v) (λ v. pos 0) 0 (length xs)
    (λ v from within. ap (λ (z : ℤ). weight v *ℤ z) (none v) ∙ times_none (weight v))
    ∙ none_in_order 0 (length xs)
