-- A least plan of the counting instance, and the ray where there is none, as peaks.
use Rattle.std.proofs.Common.{◌≡◌, ℕ, zero, suc, ◌<◌, ◌≤◌, Bool, true, false, List, [], ◌∷◌, length, map, refl, sym, ap, ◌∙◌, subst, arith, ℤ, pos, ◌+ℤ◌, ◌-ℤ◌, ◌*ℤ◌, ◌≤ℤ◌}
use Rattle.std.specs.List.{range_with_len}
use Rattle.std.proofs.lemmas.Bool.{MatchBool-at_true}
use Rattle.std.proofs.lemmas.Int.{ints}
use Rattle.std.proofs.lemmas.List.{length-map}
use Rattle.vs_types.specs.declared.layer_set.LayerSet.{LayerSet}
use Rattle.vs_types.specs.declared.numbers.LayerNo.{LayerNo}
use Rattle.vs_types.proofs.CallerLemmas.{match_false, none_times}
use Rattle.vs_instance.specs.Problem.{Problem}
use Rattle.vs_instance.specs.Plan.{IsPlan, LayerBlock, plan_cost}
use Rattle.vs_instance.specs.Lagrangian.{total}
use Rattle.vs_instance.specs.Restriction.{permitted_sets}
use Rattle.vs_instance.specs.Ways.{layer_of, no_trip}
use Rattle.vs_instance.proofs.CallerLemmas.{permitted_sets-IsRestriction, plans_lie_within}
use Rattle.vs_plan.specs.CheckedPlan.{Checked}
use Rattle.vs_prices.specs.declared.bound.Bound.TheVariants.{AtLeast, NoPlan}
use Rattle.vs_prices.specs.declared.table.Table.{Table}
use Rattle.vs_prices.specs.Table.{AreZeros, Fits, HoldingTable, vehicle_price}
use Rattle.vs_prices.specs.Worth.{IsRoundedUp, IsWorth, fleet_price, least_price, table_value}
use Rattle.vs_prices.proofs.CallerLemmas.{bounds_plans, rounded_up-IsRoundedUp}
use Rattle.vs_peakcheck.specs.Counting.{counting, own_blocks, own_trips}
use Rattle.vs_peakcheck.specs.CountingLaws.{CountsVehicles}
use Rattle.vs_peakcheck.specs.Peak.{RunAll}
use Rattle.vs_node.specs.ChosenLayers.{AreSingle}
use Rattle.vs_node.specs.LeastPlans.{IsPlanWithin}
use Rattle.vs_peak.specs.Peaks.{IsLeast, IsShown, ShowsNone}

module _ (p : Problem) (l : LayerNo) (law : CountsVehicles p l) where
  abbrev q : Problem
  q = counting p l.0

  -- there is one layer, so no trip may be run in two
  pub only_layers : AreSingle (permitted_sets q)
  only_layers i k m within one other =
      let restriction = permitted_sets-IsRestriction q law.instance in
      let inside : i < length q.trips = omega (arith, within, restriction.each_trip) in
      let trip = law.instance.trips i no_trip inside in
      let first = trip.layers k (restriction.permitted i k inside one) in
      let second = trip.layers m (restriction.permitted i m inside other) in
      omega (arith, first, second)

  own_length : (blocks : List LayerBlock) → length (own_blocks p l blocks) ≡ length blocks
  own_length blocks = length-map blocks (λ b. (l, own_trips p l.0 b.1))

  -- a ray that shows that there is no plan shows that there is no list of blocks
  pub none_found : (table : Table) → Fits q table → HoldingTable q table
      → IsWorth q (permitted_sets q) table NoPlan → ShowsNone p l table
  none_found table fits holds worth = record {
    none = λ list run.
        let plan = law.plans list run in
        bounds_plans q (permitted_sets q) table NoPlan law.instance (permitted_sets-IsRestriction q law.instance) fits
        holds worth plan.0 plan.1 (plans_lie_within q plan.0 plan.1);
    ray = worth.0;
    fits = fits;
    holds = holds;
    worth = worth;
  }

  module _ (c : Checked) (within : IsPlanWithin q (permitted_sets q) c) where
    plan : IsPlan q c.blocks
    plan = subst (λ (x : Problem). IsPlan x c.blocks) within.problem within.checked.plan

    costs : c.cost ≡ pos (length c.blocks)
    costs =
        within.checked.cost ∙ ap (λ (x : Problem). pos (plan_cost x c.blocks)) within.problem
        ∙ ap pos (law.cost c.blocks plan)

    -- a plan that costs nothing has no block, and runs no trip
    no_trips : c.cost ≡ pos 0 → length q.trips ≡ 0
    no_trips free = by_blocks c.blocks plan (omega (arith, ints, free, costs))
      where
        by_count : (n : ℕ) → ((i : ℕ) → i < n → ◌≡◌ {A = ℕ} 0 1) → n ≡ 0
        by_count zero once = refl
        by_count (suc n) once = absurd (let e = once 0 (omega arith) in omega (arith, e))

        by_blocks : (blocks : List LayerBlock) → IsPlan q blocks → length blocks ≡ 0 → length q.trips ≡ 0
        by_blocks [] is none = by_count (length q.trips) is.once
        by_blocks (b ∷ blocks) is none = absurd (omega (arith, none))

    module _ (other table : Table) (fits : Fits q other) (holds : HoldingTable q other)
        (worth : IsWorth q (permitted_sets q) other (AtLeast c.cost)) (shown : IsShown q other table) where
      zero_vehicles : AreZeros table → vehicle_price table 0 ≡ pos 0
      zero_vehicles zeros = let size = shown.fits.fleet_size in zeros.fleet 0 (pos 0) (omega arith)

      -- zeros are worth nothing where there are no trips
      zero_value : AreZeros table → length q.trips ≡ 0 → table_value q (permitted_sets q) table ≡ pos 0
      zero_value zeros none =
          let vehicles : fleet_price q table 0 ≡ pos 0 =
          ap (λ (x : ℤ). x *ℤ pos (layer_of q 0).fleet) (zero_vehicles zeros) ∙ none_times (layer_of q 0).fleet in
          ap (λ (n : ℕ). total (map (least_price q (permitted_sets q) table) (range_with_len 0 n))
          -ℤ total (map (fleet_price q table) (range_with_len 0 1))) none
          ∙ ap (λ (x : ℤ). pos 0 -ℤ (x +ℤ pos 0)) vehicles

      zero_worth : AreZeros table → c.cost ≡ pos 0 → IsWorth q (permitted_sets q) table (AtLeast c.cost)
      zero_worth zeros free =
          let value = table_value q (permitted_sets q) table in
          let none : value ≡ pos 0 = zero_value zeros (no_trips free) in
          let nothing : IsRoundedUp (pos 0) (pos 0) = rounded_up-IsRoundedUp (pos 0) in
          let own : IsRoundedUp value c.cost =
          subst (λ (n : ℤ). IsRoundedUp value n) (sym free)
          (subst (λ (v : ℤ). IsRoundedUp v (pos 0)) (sym none) nothing) in
          match_false table.ray ((value ≤ℤ pos 0) × (c.cost ≡ pos 0)) (IsRoundedUp value c.cost) shown.costs own

      shown_worth : (ray : Bool) → other.ray ≡ ray → IsWorth q (permitted_sets q) table (AtLeast c.cost)
      shown_worth false is =
          subst (λ (t : Table). IsWorth q (permitted_sets q) t (AtLeast c.cost)) (sym (shown.same is)) worth
      shown_worth true is =
          let value = table_value q (permitted_sets q) other in
          let free = MatchBool-at_true ((value ≤ℤ pos 0) × (c.cost ≡ pos 0)) (IsRoundedUp value c.cost) is worth in
          zero_worth (shown.zeros is) free.1

      -- no list of the layer's blocks is shorter
      least : (others : List LayerBlock) → RunAll p l others → length c.blocks ≤ length others
      least others run =
          let them = law.plans others run in
          let bound = bounds_plans q (permitted_sets q) other (AtLeast c.cost) law.instance
          (permitted_sets-IsRestriction q law.instance) fits holds worth them.0 them.1
          (plans_lie_within q them.0 them.1) in
          let size : plan_cost q them.0 ≡ length others =
          law.cost them.0 them.1 ∙ sym (own_length them.0) ∙ ap length them.2 in
          omega (arith, ints, bound, size, costs)

      -- the plan is what the table shows
      pub least_found : IsLeast p l c table
      least_found = record {
        problem = within.problem;
        checked = within.checked;
        count = costs;
        peak = record {
          blocks = own_blocks p l c.blocks;
          run = law.runs c.blocks plan;
          count = own_length c.blocks;
          least = least;
        };
        costs = shown.costs;
        fits = shown.fits;
        holds = shown.holds;
        worth = shown_worth other.ray refl;
      }

  -- the same of an instance that is the counting one, with its own sets
  module _ (counted : Problem) (sets : List LayerSet) (same : counted ≡ q) (are : sets ≡ permitted_sets counted) where
    pub single_sets : AreSingle sets
    single_sets =
        subst AreSingle (sym are) (subst (λ (x : Problem). AreSingle (permitted_sets x)) (sym same) only_layers)

    pub peak_none : (table : Table) → Fits counted table → HoldingTable counted table
        → IsWorth counted sets table NoPlan → ShowsNone p l table
    peak_none table fits holds worth =
        none_found table (subst (λ (x : Problem). Fits x table) same fits)
        (subst (λ (x : Problem). HoldingTable x table) same holds)
        (subst (λ (x : Problem). IsWorth x (permitted_sets x) table NoPlan) same
        (subst (λ (s : List LayerSet). IsWorth counted s table NoPlan) are worth))

    pub peak_some : (c : Checked) (other table : Table) → Fits counted other → HoldingTable counted other
        → IsPlanWithin counted sets c → IsWorth counted sets other (AtLeast c.cost) → IsShown counted other table
        → IsLeast p l c table
    peak_some c other table fits holds within worth shown =
        least_found c
        (subst (λ (x : Problem). IsPlanWithin x (permitted_sets x) c) same
        (subst (λ (s : List LayerSet). IsPlanWithin counted s c) are within)) other table
        (subst (λ (x : Problem). Fits x other) same fits)
        (subst (λ (x : Problem). HoldingTable x other) same holds)
        (subst (λ (x : Problem). IsWorth x (permitted_sets x) other (AtLeast c.cost)) same
        (subst (λ (s : List LayerSet). IsWorth counted s other (AtLeast c.cost)) are worth))
        (subst (λ (x : Problem). IsShown x other table) same shown)
