-- Layers that are done, one after another, and what all of them show.
use Rattle.std.proofs.Common.{◌≡◌, ℕ, ◌+◌, ◌*◌, ◌<◌, false, List, ◌++◌, length, sym, ap, ◌∙◌, subst, arith, inl, inr, Some, ℤ, pos, ◌≤ℤ◌}
use Rattle.std.proofs.lemmas.Bool.{cases_lt}
use Rattle.std.proofs.lemmas.Int.{ints}
use Rattle.std.proofs.lemmas.List.Sums.{sum_by-append}
use Rattle.vs_types.specs.declared.layer_set.LayerSet.{LayerSet}
use Rattle.vs_types.specs.declared.numbers.LayerNo.{LayerNo}
use Rattle.vs_types.proofs.CallerLemmas.{match_false}
use Rattle.vs_instance.proofs.CallerLemmas.{total-range_next}
use Rattle.vs_layer.specs.declared.net.Flow.{Flow}
use Rattle.vs_instance.specs.Problem.{Problem}
use Rattle.vs_instance.specs.Instance.{IsInstance}
use Rattle.vs_instance.specs.Blocks.{block_cost}
use Rattle.vs_instance.specs.Plan.{LayerBlock, plan_cost}
use Rattle.vs_instance.specs.Restriction.{IsRestriction, IsWithin}
use Rattle.vs_plan.specs.CheckedPlan.{Checked, IsChecked}
use Rattle.vs_match.specs.Decomposition.{Decompose}
use Rattle.vs_match.specs.LawfulNets.{IsLawful}
use Rattle.vs_match.specs.LayerGraph.{LayerGraph}
use Rattle.vs_prices.specs.declared.bound.Bound.TheVariants.{AtLeast}
use Rattle.vs_prices.specs.declared.table.Table.{Table}
use Rattle.vs_prices.specs.Table.{Fits}
use Rattle.vs_prices.specs.Worth.{IsRoundedUp, IsWorth, rounded_up, table_value}
use Rattle.vs_prices.proofs.CallerLemmas.{bounds_plans, rounded_up-IsRoundedUp}
use Rattle.vs_circ.specs.declared.circ.LayerPrices.{LayerPrices}
use Rattle.vs_circ.proofs.CallerLemmas.{run_exactly}
use Rattle.vs_circ.proofs.CallerLemmas.{over_range, total-same}
use Rattle.vs_node.specs.ChosenLayers.{AreSingle}
use Rattle.vs_node.specs.LayersDone.{AreDone, AreSized, HoldsAt, IsLayerRun, IsOfFirst, StandBehind, layer_value, must_in}
use Rattle.vs_node.specs.LeastPlans.{ShowsPlan}
use Rattle.vs_node.proofs.plans.LayerBlocks.{all_layers-plan, more_blocks}
use Rattle.vs_node.proofs.tables.LayerValues.{layer_value-same, layer_value-shown, value_by_layer}
use Rattle.vs_node.proofs.tables.TablePrices.{holds-same, holds-stand, of_first-more, same_before, stand_last}

module _ (p : Problem) (sets : List LayerSet) (restriction : IsRestriction p sets) (single : AreSingle sets)
    (l : LayerNo) (n : LayerGraph) (lawful : IsLawful p l.0 n) (flow : Flow) (prices : LayerPrices)
    (run : IsLayerRun p sets l n flow prices) (old new : Table) (before added : List LayerBlock)
    (done : AreDone p sets l.0 old before) (behind : StandBehind old prices new)
    (parts : Decompose p l n flow.units.items added) where
  sized : AreSized p prices
  sized = record {
    into_size = run.holding.into_size;
    from_size = run.holding.from_size;
    into = run.holding.into;
    from = run.holding.from;
    fleet = run.holding.fleet;
  }

  is_cost : new.ray ≡ false
  is_cost = behind.ray ∙ done.costs

  new_holds : (k : ℕ) → k < l.0 + 1 → HoldsAt p new k
  new_holds k below = elim (cases_lt k l.0) [
    | inl earlier ↦
        holds-same p old new k (same_before p l.0 old new prices done.prices behind k earlier) (done.holds k earlier)
    | inr here ↦
        let same : l.0 ≡ k = omega arith in
        subst (HoldsAt p new) same
        (holds-stand p new l.0 false prices is_cost (stand_last p l.0 old new prices done.prices behind sized)
        run.holding.holds)
  ]

  new_cost : pos (1000 * plan_cost p (before ++ added))
      ≤ℤ over_range (layer_value p sets new) 0 (l.0 + 1)
  new_cost =
      let more = total-range_next (layer_value p sets new) l.0 in
      let same = total-same (layer_value p sets new) (layer_value p sets old) 0 l.0
      (λ k from within. layer_value-same p sets old new k
      (same_before p l.0 old new prices done.prices behind k (omega (arith, within)))) in
      let here = layer_value-shown p sets new l.0 false prices is_cost
      (stand_last p l.0 old new prices done.prices behind sized)
      ∙ run.shown in
      let both = sum_by-append (λ (b : LayerBlock). block_cost p b.0 b.1) before added in
      let earlier = done.cost in
      let added_cost = parts.no_dearer in
      omega (arith, ints, more, same, here, both, earlier, added_cost)

  -- the next layer is done too
  pub one_more_done : AreDone p sets (l.0 + 1) new (before ++ added)
  one_more_done = record {
    prices = of_first-more p l.0 old new prices done.prices behind sized;
    costs = is_cost;
    holds = new_holds;
    run =
        more_blocks p sets restriction single l before added done.run
        (run_exactly p l n (must_in sets l.0) lawful flow.units.items run.cover added parts);
    cost = new_cost;
  }

-- a table of all layers fits
pub all_layers-fit : (p : Problem) (table : Table) → IsOfFirst p (length p.layers) table → Fits p table
all_layers-fit p table all = record {
  into_size = all.into_size;
  from_size = all.from_size;
  fleet_size = all.fleet_size;
  into = all.into;
  from = all.from;
  fleet = all.fleet;
}

-- a bound that no plan falls below, rounded up from no less than a plan costs, is just that
same_cost : (value bound : ℤ) (cost : ℕ) → IsRoundedUp value bound → pos (1000 * cost) ≤ℤ value → bound ≤ℤ pos cost
    → bound ≡ pos cost
same_cost value bound cost up less no_more = let reach = up.reaches in omega (arith, ints, reach, less, no_more)

module _ (p : Problem) (sets : List LayerSet) (table : Table) (blocks : List LayerBlock) (instance : IsInstance p)
    (restriction : IsRestriction p sets) (single : AreSingle sets)
    (done : AreDone p sets (length p.layers) table blocks) where
  -- where all layers are done the table is worth just what the blocks cost
  pub done_worth : IsWorth p sets table (AtLeast (pos (plan_cost p blocks)))
  done_worth =
      let value = table_value p sets table in
      let plan = all_layers-plan p sets blocks instance restriction single done.run in
      let worth = match_false table.ray ((value ≤ℤ pos 0) × (rounded_up value ≡ pos 0))
      (IsRoundedUp value (rounded_up value)) done.costs (rounded_up-IsRoundedUp value) in
      let bound = bounds_plans p sets table (AtLeast (rounded_up value)) instance restriction
      (all_layers-fit p table done.prices) done.holds worth blocks plan done.run.within in
      let by_layer = value_by_layer p sets table instance restriction single in
      let cost = done.cost in
      let same = same_cost value (rounded_up value) (plan_cost p blocks) (rounded_up-IsRoundedUp value)
      (omega (arith, ints, by_layer, cost)) bound in
      subst (λ (n : ℤ). IsWorth p sets table (AtLeast n)) same worth

  -- so a checked plan of these blocks is what the table shows
  pub done_shows : (c : Checked) → c.problem ≡ p → c.blocks ≡ blocks → IsChecked c → ShowsPlan p sets table (Some c)
  done_shows c problem is checked =
      let cost = checked.cost ∙ ap (λ (q : Problem). pos (plan_cost q c.blocks)) problem
      ∙ ap (λ (bs : List LayerBlock). pos (plan_cost p bs)) is in (
        record {
          problem = problem;
          checked = checked;
          within = subst (IsWithin sets) (sym is) done.run.within;
        },
        subst (λ (n : ℤ). IsWorth p sets table (AtLeast n)) (sym cost) done_worth,
      )
