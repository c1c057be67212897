-- Rays with the prices of one layer, and zeros in all others.
use Rattle.std.proofs.Common.{◌≡◌, ◌≢◌, ℕ, ◌+◌, ◌<◌, true, List, length, sym, ◌∙◌, subst, arith, inl, inr, pos, ◌+ℤ◌, ◌≤ℤ◌, ◌<ℤ◌}
use Rattle.std.proofs.lemmas.Bool.{cases_eq, cases_lt}
use Rattle.std.proofs.lemmas.Int.{ints}
use Rattle.vs_types.specs.declared.layer_set.LayerSet.{LayerSet}
use Rattle.vs_types.proofs.CallerLemmas.{each_some}
use Rattle.vs_instance.specs.Problem.{Problem}
use Rattle.vs_instance.specs.Instance.{IsInstance}
use Rattle.vs_instance.specs.HoldingTable.{HoldsInLayer, price_of, scaled}
use Rattle.vs_instance.specs.Pieces.{in_piece, link_piece, out_piece}
use Rattle.vs_instance.specs.Restriction.{IsRestriction}
use Rattle.vs_prices.specs.declared.bound.Bound.TheVariants.{NoPlan}
use Rattle.vs_prices.specs.declared.table.Table.{Table}
use Rattle.vs_prices.specs.Table.{HoldingTable, prices_in, vehicle_price}
use Rattle.vs_prices.specs.Worth.{IsWorth}
use Rattle.vs_prices.proofs.CallerLemmas.{zero_at}
use Rattle.vs_circ.specs.declared.circ.LayerPrices.{LayerPrices}
use Rattle.vs_circ.specs.LayerPrices.{shown_of_trips}
use Rattle.vs_circ.proofs.CallerLemmas.{total-only}
use Rattle.vs_node.specs.ChosenLayers.{AreSingle}
use Rattle.vs_node.specs.LayersDone.{AreNoPrices, AreSized, IsOfFirst, StandAt, StandBehind, layer_value, must_in}
use Rattle.vs_node.proofs.tables.LayerValues.{layer_value-shown, no_prices-shown, value_by_layer}
use Rattle.vs_node.proofs.tables.TablePrices.{AreSameAt, holds-stand, of_first-more, same_before, stand_last}

-- prices of 0 hold where costs count nothing
no_prices-hold : (p : Problem) (l : ℕ) (prices : LayerPrices) → AreNoPrices prices
    → HoldsInLayer p l true prices.into.items prices.from.items prices.fleet
no_prices-hold p l prices none =
    let fleet = none.fleet in
    record {
      vehicle = omega (arith, ints, fleet);
      outs = λ i inside permitted.
          each_some (out_piece p l i) (λ c. price_of prices.into.items i ≤ℤ (scaled true c +ℤ prices.fleet))
          (λ c. let zero = zero_at prices.into.items i none.into in omega (arith, ints, zero, fleet));
      links = λ i j inside too permitted also.
          each_some (link_piece p l i j)
          (λ c. price_of prices.into.items j ≤ℤ (price_of prices.from.items i +ℤ scaled true c))
          (λ c. let first = zero_at prices.into.items j none.into in
          let second = zero_at prices.from.items i none.from in omega (arith, ints, first, second));
      ins = λ i inside permitted.
          each_some (in_piece p l i) (λ c. pos 0 ≤ℤ (price_of prices.from.items i +ℤ scaled true c))
          (λ c. let zero = zero_at prices.from.items i none.from in omega (arith, ints, zero));
    }

-- prices stand where they stood
stand-same : (p : Problem) (old new : Table) (k : ℕ) (prices : LayerPrices) → AreSameAt p old new k
    → StandAt p old k prices → StandAt p new k prices
stand-same p old new k prices same stand = record {
  into = same.into ∙ stand.into;
  from = same.from ∙ stand.from;
  fleet = same.fleet ∙ stand.fleet;
}

module _ (p : Problem) (short : ℕ) (prices zeros : LayerPrices) where
  -- of the first layers the short one has its prices, and the others zeros
  pub record IsRayOfFirst (n : ℕ) (table : Table) : Type 0 where
    pub first : IsOfFirst p n table
    pub ray : table.ray ≡ true
    pub own : short < n → StandAt p table short prices
    pub others : (k : ℕ) → k < n → k ≢ short → StandAt p table k zeros

  pub ray_of_none : (table : Table) → IsOfFirst p 0 table → table.ray ≡ true → IsRayOfFirst 0 table
  ray_of_none table first ray = record {
    first = first;
    ray = ray;
    own = λ below. absurd (omega arith);
    others = λ k below other. absurd (omega arith);
  }

  pub ray_of_more : (n : ℕ) (old new : Table) (given : LayerPrices) → IsRayOfFirst n old → AreSized p given
      → StandBehind old given new → (n ≡ short → given ≡ prices) → (n ≢ short → given ≡ zeros)
      → IsRayOfFirst (n + 1) new
  ray_of_more n old new given before sized behind own others =
      let last = stand_last p n old new given before.first behind sized in
      let same = same_before p n old new given before.first behind in
      record {
        first = of_first-more p n old new given before.first behind sized;
        ray = behind.ray ∙ before.ray;
        own = λ below. elim (cases_eq n short) [
          | inl here ↦
              subst (λ (k : ℕ). StandAt p new k prices) here
              (subst (StandAt p new n) (own here) last)
          | inr past ↦
              let earlier : short < n = omega (arith, past) in
              stand-same p old new short prices (same short earlier) (before.own earlier)
        ];
        others = λ k below other. elim (cases_lt k n) [
          | inl earlier ↦ stand-same p old new k zeros (same k earlier) (before.others k earlier other)
          | inr here ↦
              let is : n ≡ k = omega arith in
              subst (λ (j : ℕ). StandAt p new j zeros) is
              (subst (StandAt p new n) (others (λ e. other (sym is ∙ e))) last)
        ];
      }

  module _ (table : Table) (none : AreNoPrices zeros) (all : IsRayOfFirst (length p.layers) table) where
    -- the ray holds
    pub ray_holds : HoldsInLayer p short true prices.into.items prices.from.items prices.fleet → HoldingTable p table
    ray_holds holds l inside = elim (cases_eq l short) [
      | inl here ↦
          let below : short < length p.layers = omega arith in
          subst (λ (k : ℕ). HoldsInLayer p k table.ray (prices_in p k table.into.items)
          (prices_in p k table.from.items)
          (vehicle_price table k)) (sym here)
          (holds-stand p table short true prices all.ray (all.own below) holds)
      | inr other ↦
          holds-stand p table l true zeros all.ray (all.others l inside other) (no_prices-hold p l zeros none)
    ]

    -- and shows that there is no plan where the short layer's prices show something
    pub ray_worth : short < length p.layers → IsInstance p → (sets : List LayerSet) → IsRestriction p sets
        → AreSingle sets → pos 0 <ℤ shown_of_trips p short true (must_in sets short) prices
        → IsWorth p sets table NoPlan
    ray_worth below instance sets restriction single some =
        let own = layer_value-shown p sets table short true prices all.ray (all.own below) in
        let only = total-only (layer_value p sets table) short 0 (length p.layers) (omega arith)
        (omega (arith, below))
        (λ k within other. layer_value-shown p sets table k true zeros all.ray
        (all.others k (omega (arith, within)) other) ∙ no_prices-shown p k (must_in sets k) zeros none) in
        let whole = value_by_layer p sets table instance restriction single in
        (all.ray, omega (arith, ints, own, only, whole, some))
