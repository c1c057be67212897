-- The prices of a table that fits are prices wherever they are looked up.
use Rattle.std.proofs.Common.{◌≡◌, ◌≤ℤ◌, ℕ, ◌+◌, ◌*◌, ◌-◌, List, length, inl, inr, sym, subst, arith, rules, ℤ, pos, All}
use Rattle.std.proofs.lemmas.Bool.{cases_lt}
use Rattle.std.proofs.lemmas.Int.{ints}
use Rattle.std.proofs.lemmas.List.{get_or_past}
use Rattle.std.proofs.lemmas.List.Elements.{All-drop, All-take}
use Rattle.vs_instance.specs.HoldingTable.{price_of}
use Rattle.vs_instance.specs.Problem.{Problem}
use Rattle.vs_plan.specs.declared.costs.TheConstants.{MAX_PLAN_COST}
use Rattle.vs_prices.specs.Table.{IsPrice, prices_in}
use Rattle.vs_rows.specs.declared.limits.TheConstants.{MAX_BOUND, MAX_COST, MAX_PRINTED_PRICE}
use Rattle.vs_rows.specs.DocumentRows.{IsBetween, IsWithin}

-- a price is one that a row may have
pub printed : (n : ℤ) → IsPrice n → IsWithin MAX_PRINTED_PRICE n
printed n price = (omega (arith, ints), omega (arith, ints))

-- and so are the cost of a checked plan, and a bound that is a cost
pub checked_cost : (n : ℕ) (cost : ℤ) → cost ≡ pos n → cost ≤ℤ MAX_PLAN_COST → IsBetween (pos 0) MAX_COST cost
checked_cost n cost is few = (omega (arith, ints), omega (arith, ints))

pub cost_bound : (n cost : ℤ) → n ≡ cost → IsBetween (pos 0) MAX_COST cost → IsWithin MAX_BOUND n
cost_bound n cost is between = (omega (arith, ints), omega (arith, ints))

no_price : IsPrice (pos 0)
no_price = (search rules, search rules)

-- a price looked up among prices, which is 0 past their end
pub price_anywhere : (prices : List ℤ) (k : ℕ) → All IsPrice prices → IsPrice (price_of prices k)
price_anywhere prices k all = elim (cases_lt k (length prices)) [
  | inl lt ↦ all k (pos 0) lt
  | inr ge ↦ let P : ℤ → Type 0 = λ x. IsPrice x in subst P (sym (get_or_past prices k (pos 0) ge)) no_price
]

-- the prices of a layer
pub prices_in_all : (p : Problem) (l : ℕ) (prices : List ℤ) → All IsPrice prices → All IsPrice (prices_in p l prices)
prices_in_all p l prices all =
    All-take IsPrice (l * length p.trips + length p.trips - l * length p.trips) _
    (All-drop IsPrice (l * length p.trips) prices all)
