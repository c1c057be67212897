-- Prices that hold bound every plan.
use Rattle.std.proofs.Common.{◌≡◌, ◌≢◌, ℕ, zero, suc, ◌<◌, Bool, true, false, List, [], ◌∷◌, length, get_or, map, refl, subst, arith, ℤ, pos, ◌≤ℤ◌, ◌<ℤ◌, MatchBool}
use Rattle.std.specs.Prelude.{Contains}
use Rattle.std.specs.List.{All}
use Rattle.std.proofs.lemmas.Int.{ints, clamps}
use Rattle.std.proofs.lemmas.List.Elements.{All-head, All-tail}
use Rattle.vs_types.specs.LayerSet.{Has, members}
use Rattle.vs_types.specs.declared.layer_set.LayerSet.{LayerSet}
use Rattle.vs_types.specs.declared.numbers.TripNo.{TripNo}
use Rattle.vs_types.proofs.CallerLemmas.{Contains-members_below}
use Rattle.vs_instance.specs.Problem.{Problem}
use Rattle.vs_instance.specs.Instance.{IsInstance}
use Rattle.vs_instance.specs.Lagrangian.{total}
use Rattle.vs_instance.specs.Plan.{LayerBlock, IsPlan, plan_cost}
use Rattle.vs_instance.specs.Restriction.{IsWithin, set_of}
use Rattle.vs_instance.specs.HoldingTable.{scaled}
use Rattle.vs_prices.specs.declared.bound.Bound.{Bound}
use Rattle.vs_prices.specs.declared.bound.Bound.TheVariants.{AtLeast, NoPlan}
use Rattle.vs_prices.specs.declared.table.Table.{Table}
use Rattle.vs_prices.specs.Table.{HoldingTable}
use Rattle.vs_prices.specs.Worth.{IsBoundOn, IsRoundedUp, IsWorth, least, least_price, table_value, trip_price}
use Rattle.vs_prices.specs.Laws.{PricesBoundPlans}
use Rattle.vs_instance.proofs.CallerLemmas.{total-map_le}
use Rattle.vs_prices.proofs.PlanPrices.{over_blocks, once_each, plan_pays}

-- the least of some numbers is no more than any of them
pub least-le : (f : ℕ → ℤ) (ks : List ℕ) (k : ℕ) → Contains ks k → least (map f ks) ≤ℤ f k
least-le f [] k among = absurd (omega (arith, among.1))
least-le f (j ∷ []) k (zero, within, is) = ap_le
  where
    ap_le : f j ≤ℤ f k
    ap_le = subst (λ (i : ℕ). f j ≤ℤ f i) is (omega (arith, ints))
least-le f (j ∷ []) k (suc n, within, is) = absurd (omega arith)
least-le f (j ∷ i ∷ rest) k (zero, within, is) =
    subst (λ (m : ℕ). least (map f (j ∷ i ∷ rest)) ≤ℤ f m) is (omega (arith, ints, clamps))
least-le f (j ∷ i ∷ rest) k (suc n, within, is) =
    let after = least-le f (i ∷ rest) k (n, omega arith, is) in
    omega (arith, ints, clamps)

-- what is no more than any of some numbers is no more than their least
pub least_above : (f : ℕ → ℤ) (v : ℤ) (ks : List ℕ) → ks ≢ [] → All (λ k. v ≤ℤ f k) ks → v ≤ℤ least (map f ks)
least_above f v [] some each = absurd (some refl)
least_above f v (k ∷ []) some each = All-head (λ (j : ℕ). v ≤ℤ f j) k [] each
least_above f v (k ∷ j ∷ rest) some each =
    let here = All-head (λ (i : ℕ). v ≤ℤ f i) k (j ∷ rest) each in
    let after = least_above f v (j ∷ rest) (λ e. cc) (All-tail (λ (i : ℕ). v ≤ℤ f i) k (j ∷ rest) each) in
    omega (arith, ints, clamps, here, after)

module _ (p : Problem) (instance : IsInstance p) (sets : List LayerSet) (table : Table) where
  abbrev least_of : ℕ → ℤ
  least_of i = least_price p sets table i

  -- a trip pays no less in a layer of its set than in the cheapest
  cheapest : (i l : ℕ) → l < length p.layers → Has (set_of sets i) l → least_of i ≤ℤ trip_price p table i l
  cheapest i l inside has =
      let few = instance.few_layers in
      least-le (trip_price p table i) (members (set_of sets i)) l
      (Contains-members_below (set_of sets i) l (omega arith) has)

  -- so the trips of a plan within the sets pay no less than in their cheapest layers
  plan_within : (blocks : List LayerBlock) → IsPlan p blocks → IsWithin sets blocks
      → over_blocks (λ i l. least_of i) blocks ≤ℤ over_blocks (trip_price p table) blocks
  plan_within blocks plan within =
      total-map_le (λ (b : LayerBlock). total (map (λ i. least_of i.0) b.1))
      (λ (b : LayerBlock). total (map (λ i. trip_price p table i.0 b.0.0) b.1)) blocks
      (λ k d inside.
      let layer = (plan.each_block k d inside).layer in
      let b = get_or blocks k d in
      total-map_le (λ (i : TripNo). least_of i.0) (λ (i : TripNo). trip_price p table i.0 b.0.0) b.1
      (λ j e at. cheapest (get_or b.1 j e).0 b.0.0 layer (within k d inside j e at)))

  -- the value is no more than what a plan within the sets costs
  value_below : HoldingTable p table → (blocks : List LayerBlock) → IsPlan p blocks → IsWithin sets blocks
      → table_value p sets table ≤ℤ scaled table.ray (plan_cost p blocks)
  value_below holds blocks plan within =
      let once = once_each p blocks plan least_of in
      let paid = plan_within blocks plan within in
      let cost = plan_pays p instance table holds blocks plan in
      omega (arith, ints)

-- a worth is a bound on every cost that is no less than the value
bound_by_value : (ray : Bool) (value n : ℤ) (cost : ℕ)
    → MatchBool ray ((value ≤ℤ pos 0) × (n ≡ pos 0)) (IsRoundedUp value n)
    → value ≤ℤ scaled ray cost → n ≤ℤ pos cost
bound_by_value true value n cost worth below = let zero_bound = worth.1 in omega (arith, ints)
bound_by_value false value n cost worth below = worth.least (pos cost) (omega (arith, ints))

no_plan_by_value : (ray : Bool) (value : ℤ) (cost : ℕ) → ray ≡ true → pos 0 <ℤ value → value ≤ℤ scaled ray cost → ⊥
no_plan_by_value true value cost is above below = omega (arith, ints)
no_plan_by_value false value cost is above below = cc

bound_of_worth : (p : Problem) (sets : List LayerSet) (table : Table) (bound : Bound) (cost : ℕ)
    → IsWorth p sets table bound
    → table_value p sets table ≤ℤ scaled table.ray cost → IsBoundOn bound cost
bound_of_worth p sets table (AtLeast n) cost worth below =
    bound_by_value table.ray (table_value p sets table) n cost worth below
bound_of_worth p sets table NoPlan cost worth below =
    no_plan_by_value table.ray (table_value p sets table) cost worth.0 worth.1 below

-- the law
pub bounds_plans : PricesBoundPlans
bounds_plans p sets table bound instance restriction fits holds worth blocks plan within =
    bound_of_worth p sets table bound (plan_cost p blocks) worth
    (value_below p instance sets table holds blocks plan within)
