-- Totals and least ones of prices, as loops make them.
use Rattle.std.proofs.Common.{◌≡◌, ℕ, zero, suc, ◌+◌, ◌*◌, ◌<◌, ◌≤◌, Bool, true, false, cond, List, [], ◌∷◌, ◌++◌, map, refl, sym, ap, ◌∙◌, subst, arith, Option, Some, None, ℤ, pos, negsuc, ◌+ℤ◌, ◌-ℤ◌, ◌≤ℤ◌, neg_ℤ, ◌*ℤ◌, unwrap_or, to_z, of_z, FitsSigned, w64}
use Rattle.std.specs.Int.{int_min}
use Rattle.std.specs.List.{range_with_len, filter}
use Rattle.std.specs.Option.{IfSome}
use Rattle.std.proofs.lemmas.Int.{ints, clamps}
use Rattle.std.proofs.lemmas.List.{map_push}
use Rattle.std.proofs.lemmas.List.Elements.{filter-append}
use Rattle.std.proofs.lemmas.List.FromFn.{map-range_with_len_more}
use Rattle.std.proofs.lemmas.Nat.{mul-le}
use Rattle.vs_connect.specs.Cost.{lesser_of}
use Rattle.vs_types.specs.declared.numbers.TheConstants.{MAX_LAYERS}
use Rattle.vs_instance.specs.declared.limits.TheConstants.{MAX_FLEET, MAX_TRIPS}
use Rattle.vs_prices.specs.Table.{IsPrice}
use Rattle.vs_instance.specs.Lagrangian.{total}
use Rattle.vs_prices.specs.declared.table_worth.TheConstants.{MAX_TRIP_PRICE}
use Rattle.vs_prices.specs.Worth.{least}
use mir.Syntax.{w128}

pub total-push : (xs : List ℤ) (x : ℤ) → total (xs ++ x ∷ []) ≡ total xs +ℤ x
total-push [] x = omega (arith, ints)
total-push (y ∷ ys) x = ap (λ (t : ℤ). y +ℤ t) (total-push ys x) ∙ omega (arith, ints)

int_min_assoc : (x y z : ℤ) → int_min x (int_min y z) ≡ int_min (int_min x y) z
int_min_assoc x y z = omega (arith, ints, clamps)

least-push : (x : ℤ) (xs : List ℤ) (y : ℤ) → least (x ∷ (xs ++ y ∷ [])) ≡ int_min (least (x ∷ xs)) y
least-push x [] y = refl
least-push x (z ∷ zs) y = ap (int_min x) (least-push z zs y) ∙ int_min_assoc x (least (z ∷ zs)) y

-- the least of some numbers, where there are any
abbrev pub minimum : List ℤ → Option ℤ
minimum [] = None
minimum (x ∷ xs) = Some (least (x ∷ xs))

pub minimum-push : (xs : List ℤ) (y : ℤ)
    → minimum (xs ++ y ∷ []) ≡ lesser_of (minimum xs) (Some y)
minimum-push [] y = refl
minimum-push (x ∷ xs) y = ap Some (least-push x xs y)

pub unwrap_or-minimum : (xs : List ℤ) → unwrap_or (minimum xs) (pos 0) ≡ least xs
unwrap_or-minimum [] = refl
unwrap_or-minimum (x ∷ xs) = refl

id_map : (xs : List ℕ) → map (λ (x : ℕ). x) xs ≡ xs
id_map [] = refl
id_map (x ∷ xs) = ap (λ ys. x ∷ ys) (id_map xs)

range_more : (n : ℕ) → range_with_len 0 (n + 1) ≡ range_with_len 0 n ++ n ∷ []
range_more n =
    sym (id_map (range_with_len 0 (n + 1)))
    ∙ (map-range_with_len_more (λ (x : ℕ). x) 0 n n (omega arith)
    ∙ ap (λ xs. xs ++ n ∷ []) (id_map (range_with_len 0 n)))

filter_range_more : (p : ℕ → Bool) (n : ℕ)
    → filter p (range_with_len 0 (n + 1)) ≡ filter p (range_with_len 0 n) ++ cond (p n) (n ∷ []) []
filter_range_more p n = ap (filter p) (range_more n) ∙ filter-append p (range_with_len 0 n) (n ∷ [])

append_none : (xs : List ℕ) → xs ++ [] ≡ xs
append_none [] = refl
append_none (x ∷ xs) = ap (λ ys. x ∷ ys) (append_none xs)

pub prices_more_yes : (f : ℕ → ℤ) (p : ℕ → Bool) (n : ℕ) → p n ≡ true
    → map f (filter p (range_with_len 0 (n + 1))) ≡ map f (filter p (range_with_len 0 n)) ++ f n ∷ []
prices_more_yes f p n h =
    ap (map f) (filter_range_more p n ∙ ap (λ b. filter p (range_with_len 0 n) ++ cond b (n ∷ []) []) h)
    ∙ map_push f (filter p (range_with_len 0 n)) n

pub prices_more_no : (f : ℕ → ℤ) (p : ℕ → Bool) (n : ℕ) → p n ≡ false
    → map f (filter p (range_with_len 0 (n + 1))) ≡ map f (filter p (range_with_len 0 n))
prices_more_no f p n h =
    ap (map f)
    (filter_range_more p n
    ∙ (ap (λ b. filter p (range_with_len 0 n) ++ cond b (n ∷ []) []) h
    ∙ append_none (filter p (range_with_len 0 n))))

-- numbers past which none passes add nothing
pub filter_range_past : (p : ℕ → Bool) (n d : ℕ) → ((k : ℕ) → n ≤ k → p k ≡ false)
    → filter p (range_with_len 0 (n + d)) ≡ filter p (range_with_len 0 n)
filter_range_past p n zero none = ap (λ m. filter p (range_with_len 0 m)) (omega arith)
filter_range_past p n (suc d) none =
    let e : n + suc d ≡ (n + d) + 1 = omega arith in
    ap (λ m. filter p (range_with_len 0 m)) e
    ∙ (filter_range_more p (n + d)
    ∙ (ap (λ b. filter p (range_with_len 0 (n + d)) ++ cond b ((n + d) ∷ []) []) (none (n + d) (omega arith))
    ∙ (append_none (filter p (range_with_len 0 (n + d))) ∙ filter_range_past p n d none)))

-- the sum so far and what one more trip pays
pub record SumWithin (limit : ℕ) (before price after : ℤ) : Type 0 where
  pub value : after ≡ before +ℤ price
  pub low : neg_ℤ (pos limit) ≤ℤ after
  pub high : after ≤ℤ pos limit

pub trip_added : (bits i : ℕ) (from price : ℤ) → from ≡ to_z w64 (of_z w64 price)
    → neg_ℤ MAX_TRIP_PRICE ≤ℤ price → price ≤ℤ MAX_TRIP_PRICE → i < MAX_TRIPS
    → neg_ℤ (pos (3000000000000000000 * i)) ≤ℤ to_z w128 bits → to_z w128 bits ≤ℤ pos (3000000000000000000 * i)
    → SumWithin (3000000000000000000 * (i + 1)) (to_z w128 bits) price
    (to_z w128 (of_z w128 (to_z w128 bits +ℤ to_z w128 (of_z w128 from))))
trip_added bits i from price e low high few below above = record {
  value = omega (arith, ints);
  low = omega (arith, ints);
  high = omega (arith, ints);
}

pub record ProductWithin (x : ℤ) : Type 0 where
  pub low : neg_ℤ (pos 10000000000000000000000) ≤ℤ x
  pub high : x ≤ℤ pos 10000000000000000000000

pub product_within : (price : ℤ) (fleet : ℕ) → IsPrice price → fleet ≤ MAX_FLEET → ProductWithin (price *ℤ pos fleet)
product_within (pos n) fleet is_price few =
    let n_small : n ≤ 1000000000000000000 = omega (arith, ints) in
    let small = mul-le n fleet 1000000000000000000 MAX_FLEET n_small few in
    record { low = omega (arith, ints); high = omega (arith, ints) }
product_within (negsuc n) fleet is_price few =
    let n_small : suc n ≤ 1000000000000000000 = omega (arith, ints) in
    let small = mul-le (suc n) fleet 1000000000000000000 MAX_FLEET n_small few in
    record { low = omega (arith, ints); high = omega (arith, ints) }

product_passed : (a b price : ℤ) (fleet : ℕ) → a ≡ to_z w64 (of_z w64 price) → b ≡ pos fleet → IsPrice price
    → fleet ≤ MAX_FLEET
    → to_z w128 (of_z w128 (to_z w128 (of_z w128 a) *ℤ to_z w128 (of_z w128 b))) ≡ price *ℤ pos fleet
product_passed a b price fleet e f is_price few =
    let within = product_within price fleet is_price few in
    let a_is : to_z w128 (of_z w128 a) ≡ price = omega (arith, ints) in
    let b_is : to_z w128 (of_z w128 b) ≡ pos fleet = omega (arith, ints) in
    let fits : FitsSigned w128 (price *ℤ pos fleet) = omega (arith, ints) in
    rw (a_is, b_is) (omega (arith, ints))

pub product_added : (bits l fleet : ℕ) (a b price : ℤ) → a ≡ to_z w64 (of_z w64 price) → b ≡ pos fleet
    → IsPrice price → fleet ≤ MAX_FLEET → l < MAX_LAYERS
    → neg_ℤ (pos (10000000000000000000000 * l)) ≤ℤ to_z w128 bits → to_z w128 bits ≤ℤ pos (10000000000000000000000 * l)
    → FitsSigned w128 (to_z w128 bits +ℤ to_z w128 (of_z w128 (to_z w128 (of_z w128 a) *ℤ to_z w128 (of_z w128 b))))
    × SumWithin (10000000000000000000000 * (l + 1)) (to_z w128 bits) (price *ℤ pos fleet)
    (to_z w128
    (of_z w128 (to_z w128 bits +ℤ to_z w128 (of_z w128 (to_z w128 (of_z w128 a) *ℤ to_z w128 (of_z w128 b))))))
product_added bits l fleet a b price e f is_price few inside below above =
    let within = product_within price fleet is_price few in
    rw (product_passed a b price fleet e f is_price few)
    (omega (arith, ints), record { value = omega (arith, ints); low = omega (arith, ints); high = omega (arith, ints) })

pub same_sum : (x x' y y' : ℤ) → x ≡ x' → y ≡ y' → x +ℤ y ≡ x' +ℤ y'
same_sum x x' y y' e f = ap (λ z. z +ℤ y) e ∙ ap (λ z. x' +ℤ z) f

pub same_product : (x x' : ℤ) (n n' : ℕ) → x ≡ x' → n ≡ n' → x *ℤ pos n ≡ x' *ℤ pos n'
same_product x x' n n' e f = ap (λ z. z *ℤ pos n) e ∙ ap (λ m. x' *ℤ pos m) f

-- of prices within limits the lesser is too
pub lesser_limits : (least : Option ℤ) (price : ℤ)
    → IfSome least (λ n. (neg_ℤ MAX_TRIP_PRICE ≤ℤ n) × (n ≤ℤ MAX_TRIP_PRICE))
    → neg_ℤ MAX_TRIP_PRICE ≤ℤ price → price ≤ℤ MAX_TRIP_PRICE
    → IfSome (lesser_of least (Some price))
    (λ n. (neg_ℤ MAX_TRIP_PRICE ≤ℤ n) × (n ≤ℤ MAX_TRIP_PRICE))
lesser_limits None price h low high = (low, high)
lesser_limits (Some x) price h low high = (omega (arith, ints, clamps), omega (arith, ints, clamps))

-- one more price for the least, which stands for what a trip pays
pub lesser_step : (xs : List ℤ) (least after : Option ℤ) (price paid : ℤ) → least ≡ minimum xs → price ≡ paid
    → IfSome least (λ n. (neg_ℤ MAX_TRIP_PRICE ≤ℤ n) × (n ≤ℤ MAX_TRIP_PRICE))
    → neg_ℤ MAX_TRIP_PRICE ≤ℤ price → price ≤ℤ MAX_TRIP_PRICE
    → after ≡ lesser_of least (Some price)
    → (after ≡ minimum (xs ++ paid ∷ []))
    × IfSome after (λ n. (neg_ℤ MAX_TRIP_PRICE ≤ℤ n) × (n ≤ℤ MAX_TRIP_PRICE))
lesser_step xs least after price paid e f limits low high h = (
  h ∙ ap (λ (o : Option ℤ). lesser_of o (Some price)) e ∙ ap (λ (y : ℤ). lesser_of (minimum xs) (Some y)) f
      ∙ sym (minimum-push xs paid),
  subst (λ (o : Option ℤ). IfSome o (λ n. (neg_ℤ MAX_TRIP_PRICE ≤ℤ n) × (n ≤ℤ MAX_TRIP_PRICE)))
      (sym h) (lesser_limits least price limits low high),
)

pub difference_passed : (a b a' b' : ℤ) → a ≡ a' → b ≡ b'
    → neg_ℤ (pos 30000000000000000000000) ≤ℤ a → a ≤ℤ pos 30000000000000000000000
    → neg_ℤ (pos 160000000000000000000000) ≤ℤ b → b ≤ℤ pos 160000000000000000000000
    → to_z w128 (of_z w128 (to_z w128 (of_z w128 a) -ℤ to_z w128 (of_z w128 b))) ≡ a' -ℤ b'
difference_passed a b a' b' e f a_low a_high b_low b_high = omega (arith, ints)
