-- What is claimed and holds proves the peaks.
use Rattle.std.proofs.Common.{◌≡◌, ℕ, ◌<◌, ◌≤◌, List, length, get_or, refl, sym, ap, ◌∙◌, subst, arith, Option, Some, None, pos}
use Rattle.std.specs.Prelude.{IfSome, MatchOption, option_map}
use Rattle.std.proofs.lemmas.Int.{ints}
use Rattle.std.proofs.lemmas.List.{length-map}
use Rattle.vs_types.specs.declared.numbers.LayerNo.{LayerNo}
use Rattle.vs_instance.specs.Problem.{Problem}
use Rattle.vs_instance.specs.Instance.{IsInstance}
use Rattle.vs_instance.specs.Plan.{IsPlan, LayerBlock, plan_cost}
use Rattle.vs_instance.specs.Restriction.{permitted_sets}
use Rattle.vs_instance.proofs.CallerLemmas.{permitted_sets-IsRestriction, plans_lie_within}
use Rattle.vs_plan.specs.Blocks.{pairs_of}
use Rattle.vs_prices.specs.Table.{Fits}
use Rattle.vs_prices.specs.Worth.{IsBoundOn, Reaches}
use Rattle.vs_prices.specs.declared.bound.Bound.{Bound}
use Rattle.vs_prices.specs.declared.bound.Bound.TheVariants.{AtLeast, NoPlan}
use Rattle.vs_prices.proofs.CallerLemmas.{bounds_plans}
use Rattle.vs_peakcheck.specs.Counting.{counting, own_blocks, own_trips}
use Rattle.vs_peakcheck.specs.CountingLaws.{CountsVehicles}
use Rattle.vs_peakcheck.specs.Peak.{HasNoPeak, IsPeak, RunAll}
use Rattle.vs_peakcheck.proofs.problem.CountedLists.{counts_vehicles}
use Rattle.vs_peakcheck.specs.Claims.{AreClaimed}
use Rattle.vs_peakcheck.specs.HoldingClaims.{HoldingClaim, HoldingClaims, ProvePeaks}
use Rattle.vs_peakcheck.specs.declared.claimed.Claimed.{Claimed}

-- what a bound says of a plan's cost beside a count
abbrev IsAbove : Option ℕ → ℕ → Type 0
IsAbove (Some n) cost = n ≤ cost
IsAbove None cost = ⊥

above : (worth : Bound) (count : Option ℕ) (cost : ℕ) → Reaches worth (option_map pos count) → IsBoundOn worth cost
    → IsAbove count cost
above NoPlan count cost reaches none = absurd none
above (AtLeast n) None cost reaches least = absurd reaches
above (AtLeast n) (Some count) cost reaches least = omega (arith, ints, reaches, least)

module _ (p : Problem) (l : LayerNo) (law : CountsVehicles p l) (c : Claimed) (fits : Fits (counting p l.0) c.table)
    (holds : HoldingClaim (counting p l.0) c) where
  own_length : (blocks : List LayerBlock) → length (own_blocks p l blocks) ≡ length blocks
  own_length blocks = length-map blocks (λ b. (l, own_trips p l.0 b.1))

  -- no plan of the counting problem costs less than the count
  bound : (blocks : List LayerBlock) → IsPlan (counting p l.0) blocks
      → IsAbove c.count (plan_cost (counting p l.0) blocks)
  bound blocks plan =
      let q = counting p l.0 in
      above holds.reaches.0 c.count (plan_cost q blocks) holds.reaches.2
      (bounds_plans q (permitted_sets q) c.table holds.reaches.0 law.instance
      (permitted_sets-IsRestriction q law.instance) fits holds.table holds.reaches.1 blocks plan
      (plans_lie_within q blocks plan))

  -- nor has a list of the layer's blocks fewer
  least : (others : List LayerBlock) → RunAll p l others → IsAbove c.count (length others)
  least others run =
      let plan = law.plans others run in
      let size : plan_cost (counting p l.0) plan.0 ≡ length others =
      law.cost plan.0 plan.1 ∙ sym (own_length plan.0) ∙ ap length plan.2 in
      same c.count (plan_cost (counting p l.0) plan.0) (length others) size (bound plan.0 plan.1)
    where
      same : (count : Option ℕ) (a b : ℕ) → a ≡ b → IsAbove count a → IsAbove count b
      same (Some n) a b is above = omega (arith, is, above)
      same None a b is above = absurd above

  by_count : (count : Option ℕ) → c.count ≡ count → MatchOption count (HasNoPeak p l) (IsPeak p l)
  by_count None is = λ blocks run. at None is (length blocks) (least blocks run)
    where
      at : (count : Option ℕ) → c.count ≡ count → (n : ℕ) → IsAbove c.count n → IsAbove count n
      at count is n above = let P : Option ℕ → Type 0 = λ o. IsAbove o n in subst P is above
  by_count (Some n) is =
      let blocks = pairs_of c.blocks.items in
      let own : IsPlan (counting p l.0) blocks × (length blocks ≡ n) =
      subst (λ (o : Option ℕ). IfSome o (λ m. IsPlan (counting p l.0) blocks × (length blocks ≡ m))) is holds.blocks in
      record {
        blocks = own_blocks p l blocks;
        run = law.runs blocks own.0;
        count = own_length blocks ∙ own.1;
        least = λ others run. subst (λ (o : Option ℕ). IsAbove o (length others)) is (least others run);
      }

  -- what is claimed of the layer proves its peak
  pub proves_peak : MatchOption c.count (HasNoPeak p l) (IsPeak p l)
  proves_peak = by_count c.count refl

pub prove_peaks : (p : Problem) (claimed : List Claimed) → IsInstance p → AreClaimed p claimed
    → HoldingClaims p claimed → ProvePeaks p claimed
prove_peaks p claimed instance are holds l d within =
    let inside : l < length p.layers = omega (arith, within, are.each_layer) in
    proves_peak p (record { 0 = l }) (counts_vehicles p (record { 0 = l }) instance inside) (get_or claimed l d)
    (are.each l d within).fits (holds l d within)
