-- Prices and costs as the code computes them.
use Rattle.std.proofs.Common.{◌≡◌, ℕ, ◌≤◌, Bool, true, false, refl, ap, ◌∙◌, arith, w64, ℤ, pos, negsuc, neg_ℤ, ◌+ℤ◌, ◌-ℤ◌, ◌≤ℤ◌, FitsSigned, to_z, of_z}
use Rattle.std.proofs.lemmas.Int.{ints, to_z-of_z}
use Rattle.vs_connect.specs.Cost.{IsCost}
use Rattle.vs_instance.specs.HoldingTable.{scaled}
use Rattle.vs_prices.specs.declared.table_worth.TheConstants.{MAX_TRIP_PRICE}
use Rattle.vs_prices.specs.Table.{IsPrice}
use lib.Signed.{lt_z}

-- what a scaled piece of cost can be
pub record IsScaled (x : ℤ) : Type 0 where
  pub low : pos 0 ≤ℤ x
  pub high : x ≤ℤ pos 20000000000000

pub scaled-IsScaled : (ray : Bool) (c : ℕ) → c ≤ 20000000000 → IsScaled (scaled ray c)
scaled-IsScaled true c h = record { low = omega (arith, ints); high = omega (arith, ints) }
scaled-IsScaled false c h = record { low = omega (arith, ints); high = omega (arith, ints) }

-- a cost is the number of a piece
pub record IsPieceOf (cost : ℤ) : Type 0 where
  pub piece : ℕ
  pub is : cost ≡ pos piece
  pub small : piece ≤ 20000000000

pub piece_of : (cost : ℤ) → IsCost cost → IsPieceOf cost
piece_of (pos n) is = record { piece = n; is = refl; small = omega (arith, ints, is.1) }
piece_of (negsuc n) is = absurd (omega (arith, ints, is.0))

pub passed_cost : (cost : ℤ) → IsCost cost → to_z w64 (of_z w64 cost) ≡ cost
passed_cost cost is = let fits : FitsSigned w64 cost = omega (arith, ints, is.0, is.1) in to_z-of_z w64 cost fits

pub small_piece : (cost : ℤ) (n : ℕ) → IsCost cost → cost ≡ pos n → n ≤ 20000000000
small_piece cost n is e = omega (arith, ints, is.1)

-- a price and a scaled piece fit together
pub sum_fits : (x s : ℤ) → IsPrice x → IsScaled s → FitsSigned w64 (to_z w64 (of_z w64 x) +ℤ to_z w64 (of_z w64 s))
sum_fits x s is_price is_scaled = let low = is_scaled.low in let high =
    is_scaled.high in omega (arith, ints, is_price.0, is_price.1)

pub sum_is : (x s : ℤ) → IsPrice x → IsScaled s
    → to_z w64 (of_z w64 (to_z w64 (of_z w64 x) +ℤ to_z w64 (of_z w64 s))) ≡ x +ℤ s
sum_is x s is_price is_scaled = let low = is_scaled.low in let high =
    is_scaled.high in omega (arith, ints, is_price.0, is_price.1)

pub passed : (x : ℤ) → FitsSigned w64 x → to_z w64 (of_z w64 x) ≡ x
passed x fits = to_z-of_z w64 x fits

pub price_fits : (x : ℤ) → IsPrice x → FitsSigned w64 x
price_fits x is = omega (arith, ints, is.0, is.1)

-- the test of a price against another and a scaled piece
pub exceeds_by : (price other s more : ℤ) → FitsSigned w64 price → IsPrice other → IsScaled s → s ≡ more
    → lt_z (to_z w64 (of_z w64 (to_z w64 (of_z w64 other) +ℤ to_z w64 (of_z w64 s)))) (to_z w64 (of_z w64 price))
    ≡ lt_z (other +ℤ more) price
exceeds_by price other s more fits is_price is_scaled is =
    ap (λ (x : ℤ). lt_z x (to_z w64 (of_z w64 price)))
    (sum_is other s is_price is_scaled ∙ ap (λ (x : ℤ). other +ℤ x) is)
    ∙ ap (lt_z (other +ℤ more)) (passed price fits)

-- what a trip pays, put together of two prices and a scaled piece
pub record IsDifference (x s y d : ℤ) : Type 0 where
  pub value : d ≡ x +ℤ s -ℤ y
  pub low : neg_ℤ MAX_TRIP_PRICE ≤ℤ d
  pub high : d ≤ℤ MAX_TRIP_PRICE

pub difference : (x s y : ℤ) → IsPrice x → IsScaled s → IsPrice y
    → IsDifference x s y
    (to_z w64
    (of_z w64 (to_z w64 (of_z w64 (to_z w64 (of_z w64 x) +ℤ to_z w64 (of_z w64 s))) -ℤ to_z w64 (of_z w64 y))))
difference x s y is_x is_s is_y =
    let low = is_s.low in
    let high = is_s.high in
    record {
      value = omega (arith, ints, is_x.0, is_x.1, is_y.0, is_y.1);
      low = omega (arith, ints, is_x.0, is_x.1, is_y.0, is_y.1);
      high = omega (arith, ints, is_x.0, is_x.1, is_y.0, is_y.1);
    }

pub difference_fits : (x s y : ℤ) → IsPrice x → IsScaled s → IsPrice y
    → FitsSigned w64 (to_z w64 (of_z w64 (to_z w64 (of_z w64 x) +ℤ to_z w64 (of_z w64 s))) -ℤ to_z w64 (of_z w64 y))
difference_fits x s y is_x is_s is_y =
    let low = is_s.low in
    let high = is_s.high in
    omega (arith, ints, is_x.0, is_x.1, is_y.0, is_y.1)

pub same_difference : (x x' s s' y y' : ℤ) → x ≡ x' → s ≡ s' → y ≡ y' → x +ℤ s -ℤ y ≡ x' +ℤ s' -ℤ y'
same_difference x x' s s' y y' e f g = omega (arith, ints)
