-- The price of a trip in a layer, where it stands in the table, and prices that are all 0.
use Rattle.std.proofs.Common.{◌≡◌, ℕ, ◌+◌, ◌-◌, ◌*◌, ◌<◌, ◌≤◌, false, ◌⊎◌, inl, inr, List, length, get_or, take, drop, sym, ap, ◌∙◌, subst, arith, w64, ℤ, pos, to_z, of_z}
use Rattle.std.specs.List.{All}
use Rattle.std.proofs.Math.Nat.{add-mul}
use Rattle.std.proofs.lemmas.Bool.{cases_lt}
use Rattle.std.proofs.lemmas.Int.{ints}
use Rattle.std.proofs.lemmas.List.{get_or-take, get_or-drop, get_or_past, get_or_default}
use Rattle.std.proofs.lemmas.List.Elements.{All-take, All-drop}
use Rattle.std.proofs.lemmas.Nat.{mul-le}
use Rattle.vs_types.proofs.CallerLemmas.{each_some}
use Rattle.vs_instance.specs.Problem.{Problem}
use Rattle.vs_instance.specs.Pieces.{out_piece, link_piece, in_piece}
use Rattle.vs_instance.specs.HoldingTable.{HoldsInLayer, price_of}
use Rattle.vs_prices.specs.Table.{IsPrice, prices_in}
use Rattle.vs_prices.proofs.PriceNumbers.{passed, price_fits}

price_of-prices_in : (p : Problem) (prices : List ℤ) (l i : ℕ) → i < length p.trips
    → price_of (prices_in p l prices) i ≡ get_or prices (l * length p.trips + i) (pos 0)
price_of-prices_in p prices l i inside =
    let size : l * length p.trips + length p.trips - l * length p.trips ≡ length p.trips = omega arith in
    ap (λ (n : ℕ). get_or (take n (drop (l * length p.trips) prices)) i (pos 0)) size
    ∙ get_or-take (length p.trips) (drop (l * length p.trips) prices) i (pos 0) inside
    ∙ get_or-drop (l * length p.trips) prices i (pos 0)

-- the number at a trip's place in a layer is its price there
pub price_at : (p : Problem) (prices : List ℤ) (l i n : ℕ) (x : ℤ) → l < length p.layers → i < length p.trips
    → length prices ≡ length p.layers * length p.trips → All IsPrice prices → n ≡ length p.trips
    → x ≡ get_or prices (l * n + i) x
    → to_z w64 (of_z w64 x) ≡ price_of (prices_in p l prices) i
price_at p prices l i n x of_layer of_trip size each trips is =
    let row = mul-le (l + 1) (length p.trips) (length p.layers) (length p.trips) (omega arith) (omega arith) in
    let product = add-mul l 1 (length p.trips) in
    let inside : l * length p.trips + i < length prices = omega (arith, row, product) in
    let here : x ≡ get_or prices (l * length p.trips + i) x = is ∙ ap (λ (m : ℕ). get_or prices (l * m + i) x) trips in
    let price = subst IsPrice (sym here) (each (l * length p.trips + i) x inside) in
    passed x (price_fits x price) ∙ here ∙ get_or_default prices (l * length p.trips + i) x (pos 0) inside
    ∙ sym (price_of-prices_in p prices l i of_trip)

-- the price of a layer's vehicle
pub zero_at : (prices : List ℤ) (i : ℕ) → All (λ n. n ≡ pos 0) prices → price_of prices i ≡ pos 0
zero_at prices i zeros = by_place (cases_lt i (length prices))
  where
    by_place : (i < length prices) ⊎ (length prices ≤ i) → price_of prices i ≡ pos 0
    by_place (inl within) = zeros i (pos 0) within
    by_place (inr past) = get_or_past prices i (pos 0) past

pub zero_prices_in : (p : Problem) (prices : List ℤ) (l i : ℕ) → All (λ n. n ≡ pos 0) prices
    → price_of (prices_in p l prices) i ≡ pos 0
zero_prices_in p prices l i zeros =
    zero_at (prices_in p l prices) i
    (All-take (λ (n : ℤ). n ≡ pos 0) _ _ (All-drop (λ (n : ℤ). n ≡ pos 0) _ prices zeros))

-- prices of 0 hold in every layer
pub zeros_hold : (p : Problem) (into from fleet : List ℤ) → All (λ n. n ≡ pos 0) into → All (λ n. n ≡ pos 0) from
    → All (λ n. n ≡ pos 0) fleet
    → (l : ℕ) → HoldsInLayer p l false (prices_in p l into) (prices_in p l from) (price_of fleet l)
zeros_hold p into from fleet no_into no_from no_fleet l =
    let vehicle = zero_at fleet l no_fleet in
    record {
      vehicle = rw vehicle (omega (arith, ints));
      outs = λ i inside permitted. each_some (out_piece p l i) _
          (λ c. rw (zero_prices_in p into l i no_into, vehicle) (omega (arith, ints)));
      links = λ i j inside inside' permitted permitted'. each_some (link_piece p l i j) _
          (λ c. rw (zero_prices_in p into l j no_into, zero_prices_in p from l i no_from) (omega (arith, ints)));
      ins = λ i inside permitted. each_some (in_piece p l i) _
          (λ c. rw (zero_prices_in p from l i no_from) (omega (arith, ints)));
    }
