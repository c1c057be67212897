-- What a peak claims holds, and proves it.
use Rattle.std.proofs.Common.{◌≡◌, ℕ, ◌<◌, ◌≤◌, ◌+◌, List, [], ◌∷◌, ◌++◌, length, get_or, refl, sym, ap, ◌∙◌, subst, inl, inr, arith, Option, Some, None, ℤ, pos, to_z, of_z, w64, FitsSigned, rules}
use Rattle.std.specs.Prelude.{IfNone, IfSome, MatchOption, is_none, option_map}
use Rattle.std.specs.List.{All}
use Rattle.std.proofs.lemmas.Bool.{cases_lt}
use Rattle.std.proofs.lemmas.Int.{ints, to_z-of_z}
use Rattle.std.proofs.lemmas.List.{get_or_append_left, get_or_push, length_push}
use Rattle.std.proofs.lemmas.List.Elements.{All-nil, All-weaker}
use Rattle.vs_types.specs.declared.numbers.LayerNo.{LayerNo}
use Rattle.vs_instance.specs.Problem.{Problem}
use Rattle.vs_instance.specs.Blocks.{IsBlock}
use Rattle.vs_instance.specs.Plan.{IsPlan, LayerBlock, all_trips}
use Rattle.vs_instance.proofs.CallerLemmas.{blocks-le-trips}
use Rattle.vs_plan.specs.Blocks.{IsOfInstance, pairs_of}
use Rattle.vs_plan.specs.CheckedPlan.{Checked}
use Rattle.vs_plan.proofs.CallerLemmas.{plan_trips}
use Rattle.vs_prices.specs.declared.bound.Bound.TheVariants.{AtLeast, NoPlan}
use Rattle.vs_prices.specs.declared.table.Table.{Table}
use Rattle.vs_prices.specs.Table.{IsPrice}
use Rattle.vs_prices.specs.Worth.{Reaches}
use Rattle.vs_peakcheck.specs.Counting.{counting}
use Rattle.vs_peakcheck.specs.CountingLaws.{CountsVehicles}
use Rattle.vs_peakcheck.specs.Peak.{HasNoPeak, IsPeak}
use Rattle.vs_peakcheck.specs.Claims.{CanBeChecked, IsClaimed, IsShort}
use Rattle.vs_peakcheck.specs.HoldingClaims.{HoldingClaim, HoldingClaims, ProvePeaks}
use Rattle.vs_peakcheck.specs.PeakRows.{IsCount}
use Rattle.vs_peakcheck.specs.declared.claimed.Claimed.{Claimed}
use Rattle.vs_peak.specs.Peaks.{IsLeast, ProvesPeak, ShowsNone}

module _ (p : Problem) (l : LayerNo) (law : CountsVehicles p l) (claimed : Claimed) where
  abbrev q : Problem
  q = counting p l.0

  module _ (c : Checked) (is : IsLeast p l c claimed.table) (count : claimed.count ≡ Some (length c.blocks))
      (blocks : pairs_of claimed.blocks.items ≡ c.blocks) where
    plan : IsPlan q c.blocks
    plan = subst (λ (x : Problem). IsPlan x c.blocks) is.problem is.checked.plan

    trips : length (all_trips c.blocks) ≡ length q.trips
    trips = plan_trips q c.blocks plan

    few_blocks : length c.blocks ≤ 10000
    few_blocks =
        let fewer = blocks-le-trips c.blocks (λ k d at. (plan.each_block k d at).some_trip) in
        omega (arith, trips, fewer, law.instance.few_trips)

    least_claimed : IsClaimed q claimed
    least_claimed = record {
      few = subst IsCount (sym count) few_blocks;
      no_blocks = subst (λ (o : Option ℕ). IfNone o (pairs_of claimed.blocks.items ≡ [])) (sym count) tt;
      blocks = subst (All (IsOfInstance q)) (sym blocks)
          (All-weaker (λ (b : LayerBlock). IsBlock q b.0 b.1) (IsOfInstance q)
          (λ b own. record { layer = own.layer; some_trip = own.some_trip; trips = own.of_instance }) c.blocks
          plan.each_block);
      fits = is.fits;
      ray = is.costs ∙ ap is_none (sym count);
    }

    least_short : IsShort claimed
    least_short =
        let size : length (all_trips (pairs_of claimed.blocks.items)) ≡ length (all_trips c.blocks) =
        ap (λ (bs : List LayerBlock). length (all_trips bs)) blocks in
        omega (arith, size, trips, law.instance.few_trips)

    least_holds : HoldingClaim q claimed
    least_holds = record {
      blocks =
          subst (λ (o : Option ℕ). IfSome o (λ n. IsPlan q (pairs_of claimed.blocks.items)
          × (length (pairs_of claimed.blocks.items) ≡ n))) (sym count)
          (subst (IsPlan q) (sym blocks) plan, ap length blocks);
      table = is.holds;
      reaches = (
        AtLeast c.cost,
        is.worth,
        subst (λ (o : Option ℕ). Reaches (AtLeast c.cost) (option_map pos o)) (sym count)
            (let cost = is.count in omega (arith, ints, cost)),
      );
    }

    -- of a least plan
    pub claim_of_least : ProvesPeak p l claimed
    claim_of_least = record {
      claimed = least_claimed;
      short = least_short;
      holding = least_holds;
      proves = subst (λ (o : Option ℕ). MatchOption o (HasNoPeak p l) (IsPeak p l)) (sym count) is.peak;
    }

  -- and where there is none
  pub claim_of_none : ShowsNone p l claimed.table → claimed.count ≡ None → pairs_of claimed.blocks.items ≡ []
      → ProvesPeak p l claimed
  claim_of_none is count blocks = record {
    claimed = record {
      few = subst IsCount (sym count) tt;
      no_blocks = subst (λ (o : Option ℕ). IfNone o (pairs_of claimed.blocks.items ≡ [])) (sym count) blocks;
      blocks = subst (All (IsOfInstance q)) (sym blocks) (All-nil (IsOfInstance q));
      fits = is.fits;
      ray = is.ray ∙ ap is_none (sym count);
    };
    short =
        let size : length (all_trips (pairs_of claimed.blocks.items)) ≡ 0 =
        ap (λ (bs : List LayerBlock). length (all_trips bs)) blocks in
        omega (arith, size);
    holding = record {
      blocks = subst (λ (o : Option ℕ). IfSome o (λ n. IsPlan q (pairs_of claimed.blocks.items)
          × (length (pairs_of claimed.blocks.items) ≡ n))) (sym count) tt;
      table = is.holds;
      reaches = (
        NoPlan,
        is.worth,
        subst (λ (o : Option ℕ). Reaches NoPlan (option_map pos o)) (sym count) tt,
      );
    };
    proves = subst (λ (o : Option ℕ). MatchOption o (HasNoPeak p l) (IsPeak p l)) (sym count) is.none;
  }

-- a least plan has few blocks
pub few_in_least : (p : Problem) (l : LayerNo) → CountsVehicles p l → (c : Checked) (table : Table)
    → IsLeast p l c table → length c.blocks ≤ 10000
few_in_least p l law c table is =
    let q = counting p l.0 in
    let plan : IsPlan q c.blocks = subst (λ (x : Problem). IsPlan x c.blocks) is.problem is.checked.plan in
    let fewer = blocks-le-trips c.blocks (λ k d at. (plan.each_block k d at).some_trip) in
    omega (arith, plan_trips q c.blocks plan, fewer, law.instance.few_trips)

-- its cost as a number of 64 bits
pub cost_word : (n : ℕ) (cost : ℤ) → n ≤ 10000 → cost ≡ pos n → to_z w64 (of_z w64 cost) ≡ pos n
cost_word n cost few is =
    let price : IsPrice (pos n) = (omega (arith, ints), omega (arith, ints, few)) in
    let fits : FitsSigned w64 (pos n) = search (rules, price) in
    ap (λ (x : ℤ). to_z w64 (of_z w64 x)) is ∙ to_z-of_z w64 (pos n) fits

-- the peaks of the first layers are claimed
pub record PeaksSoFar (p : Problem) (claimed : List Claimed) (l : ℕ) : Type 0 where
  pub number : length claimed ≡ l
  pub proves : (k : ℕ) (d : Claimed) → k < length claimed
      → ProvesPeak p (record { 0 = k }) (get_or claimed k d)

module _ (p : Problem) where
  pub no_peaks : (claimed : List Claimed) → claimed ≡ [] → PeaksSoFar p claimed 0
  no_peaks claimed is = subst (λ (cs : List Claimed). PeaksSoFar p cs 0) (sym is)
      (record { number = refl; proves = λ k d within. absurd (omega (arith, within)) })

  pub one_more_peak : (l : ℕ) (claimed new : List Claimed) (c : Claimed) → PeaksSoFar p claimed l
      → ProvesPeak p (record { 0 = l }) c → new ≡ claimed ++ c ∷ [] → PeaksSoFar p new (l + 1)
  one_more_peak l claimed new c so_far here pushed =
      subst (λ (cs : List Claimed). PeaksSoFar p cs (l + 1)) (sym pushed)
      (record {
        number = omega (arith, length_push claimed c, so_far.number);
        proves = λ k d inside. elim (cases_lt k (length claimed)) [
          | inl before ↦
              subst (ProvesPeak p (record { 0 = k })) (sym (get_or_append_left claimed (c ∷ []) d k before))
              (so_far.proves k d before)
          | inr last ↦
              let at : length claimed ≡ k = omega (arith, inside, last, length_push claimed c) in
              let own : l ≡ k = omega (arith, at, so_far.number) in
              let Q : ℕ → Type 0 = λ n. ProvesPeak p (record { 0 = n }) c in
              subst (ProvesPeak p (record { 0 = k })) (sym (get_or_push claimed c d k at)) (subst Q own here)
        ];
      })

  module _ (l : ℕ) (claimed : List Claimed) (so_far : PeaksSoFar p claimed l) where
    pub all_checked : l ≡ length p.layers → CanBeChecked p claimed
    all_checked all = record {
      claims = record {
        each_layer = so_far.number ∙ all;
        each = λ k d within. (so_far.proves k d within).claimed;
      };
      short = λ k d within. (so_far.proves k d within).short;
    }

    pub all_hold : HoldingClaims p claimed
    all_hold k d within = (so_far.proves k d within).holding

    pub all_prove : ProvePeaks p claimed
    all_prove k d within = (so_far.proves k d within).proves
