-- What a table shows of every plan within a restriction.
use Rattle.std.specs.Prelude.{◌≡◌, ℕ, true, List, [], ◌∷◌, map, length, ℤ, pos, ◌+ℤ◌, ◌-ℤ◌, ◌*ℤ◌, ◌≤ℤ◌, ◌<ℤ◌, MatchBool, if◌then◌else◌, int_lt, int_div, int_rem, Option, Some, None}
use Rattle.std.specs.Int.{int_min}
use Rattle.std.specs.List.{range_with_len}
use Rattle.vs_types.specs.declared.layer_set.LayerSet.{LayerSet}
use Rattle.vs_types.specs.declared.numbers.TheConstants.{SCALE}
use Rattle.vs_types.specs.LayerSet.{members}
use Rattle.vs_instance.specs.Problem.{Problem}
use Rattle.vs_instance.specs.Ways.{layer_of}
use Rattle.vs_instance.specs.Pieces.{trip_piece}
use Rattle.vs_instance.specs.Plan.{LayerBlock, IsPlan, plan_cost}
use Rattle.vs_instance.specs.Restriction.{set_of, IsWithin}
use Rattle.vs_instance.specs.HoldingTable.{scaled}
use Rattle.vs_instance.specs.Lagrangian.{total}
use Rattle.vs_prices.specs.declared.bound.Bound.{Bound}
use Rattle.vs_prices.specs.declared.bound.Bound.TheVariants.{AtLeast, NoPlan}
use Rattle.vs_prices.specs.declared.table.Table.{Table}
use Rattle.vs_prices.specs.Table.{into_price, from_price, vehicle_price}

-- what trip i pays in layer l: the price for entering it and its own cost, less the price for leaving it
abbrev pub trip_price : Problem → Table → ℕ → ℕ → ℤ
trip_price p table i l = into_price p table l i +ℤ scaled table.ray (trip_piece p l i) -ℤ from_price p table l i

-- the least of some numbers, 0 where there are none
abbrev pub least : List ℤ → ℤ
least [] = pos 0
least (x ∷ []) = x
least (x ∷ y ∷ rest) = int_min x (least (y ∷ rest))

-- what trip i pays in the cheapest layer of its set
abbrev pub least_price : Problem → List LayerSet → Table → ℕ → ℤ
least_price p sets table i = least (map (trip_price p table i) (members (set_of sets i)))

-- what all vehicles of layer l pay together
abbrev pub fleet_price : Problem → Table → ℕ → ℤ
fleet_price p table l = vehicle_price table l *ℤ pos (layer_of p l).fleet

-- what all trips pay in their cheapest layers, and what all vehicles of all layers pay
abbrev pub trips_pay : Problem → List LayerSet → Table → ℤ
trips_pay p sets table = total (map (least_price p sets table) (range_with_len 0 (length p.trips)))

abbrev pub vehicles_pay : Problem → Table → ℤ
vehicles_pay p table = total (map (fleet_price p table) (range_with_len 0 (length p.layers)))

-- the one less the other, in 1/1000 of a cost unit
abbrev pub table_value : Problem → List LayerSet → Table → ℤ
table_value p sets table = trips_pay p sets table -ℤ vehicles_pay p table

-- n is the least whole number of cost units that is no less than the value
pub record IsRoundedUp (value n : ℤ) : Type 0 where
  pub reaches : value ≤ℤ (n *ℤ SCALE)
  pub least : (m : ℤ) → value ≤ℤ (m *ℤ SCALE) → n ≤ℤ m

-- that number by division, whose rest has the sign of the value
abbrev pub rounded_up : ℤ → ℤ
rounded_up value = if int_lt (pos 0) (int_rem value SCALE) then int_div value SCALE +ℤ pos 1 else int_div value SCALE

-- A cost table is worth its value in whole cost units, rounded up. A ray whose value is above 0 shows that there is no
-- plan, and one whose value
-- isn't shows nothing but that a plan costs 0 or more.
abbrev pub IsWorth : Problem → List LayerSet → Table → Bound → Type 0
IsWorth p sets table (AtLeast n) =
    MatchBool table.ray ((table_value p sets table ≤ℤ pos 0) × (n ≡ pos 0)) (IsRoundedUp (table_value p sets table) n)
IsWorth p sets table NoPlan = (table.ray ≡ true) × (pos 0 <ℤ table_value p sets table)

-- what a table is worth, as a function: IsWorth says what it means
abbrev pub worth_of : Problem → List LayerSet → Table → Bound
worth_of p sets table =
    if table.ray then (if int_lt (pos 0) (table_value p sets table) then NoPlan else AtLeast (pos 0))
    else AtLeast (rounded_up (table_value p sets table))

-- a bound is at least another, where no number says that there is no plan
abbrev pub Reaches : Bound → Option ℤ → Type 0
Reaches (AtLeast n) (Some bound) = bound ≤ℤ n
Reaches (AtLeast n) None = ⊥
Reaches NoPlan bound = Unit {0}

-- a plan of this cost doesn't cost less than the bound, and is none where the bound says that there is no plan
abbrev pub IsBoundOn : Bound → ℕ → Type 0
IsBoundOn (AtLeast n) cost = n ≤ℤ pos cost
IsBoundOn NoPlan cost = ⊥

-- no plan within the sets costs less than the bound
abbrev pub BoundsPlans : Problem → List LayerSet → Bound → Type 0
BoundsPlans p sets bound =
    (blocks : List LayerBlock) → IsPlan p blocks → IsWithin sets blocks → IsBoundOn bound (plan_cost p blocks)
