-- Every flaw of what is claimed of peaks names a layer, and trips that it may run.
use Rattle.std.proofs.Common.{◌≡◌, ℕ, ◌<◌, ◌==◌, not, List, [], ◌∷◌, length, Option, Some, None, refl, subst, arith, pos}
use Rattle.std.specs.Prelude.{int_lt}
use Rattle.std.specs.List.{All}
use Rattle.std.proofs.lemmas.List.{length-map}
use Rattle.std.proofs.lemmas.List.Elements.{All-append, All-cons, All-map, All-nil, All-weaker}
use Rattle.vs_types.specs.declared.numbers.LayerNo.{LayerNo}
use Rattle.vs_instance.specs.Firsts.{first}
use Rattle.vs_instance.specs.Plan.{LayerBlock}
use Rattle.vs_instance.specs.Problem.{Problem}
use Rattle.vs_instance.specs.Restriction.{permitted_sets}
use Rattle.vs_instance.specs.Ways.{trip_of}
use Rattle.vs_instance.proofs.CallerLemmas.{All-each, All-when, first_holds}
use Rattle.vs_plan.specs.Blocks.{pairs_of}
use Rattle.vs_plan.specs.PlanFaults.{faults_of}
use Rattle.vs_plan.specs.declared.plan_fault.PlanFault.{PlanFault}
use Rattle.vs_prices.specs.Breaks.{IsBroken, breaks_of}
use Rattle.vs_prices.specs.Worth.{worth_of}
use Rattle.vs_prices.specs.declared.bound.Bound.{Bound}
use Rattle.vs_prices.specs.declared.bound.Bound.TheVariants.{AtLeast, NoPlan}
use Rattle.vs_prices.specs.declared.broken_at.BrokenAt.{BrokenAt}
use Rattle.vs_prices.specs.declared.table.Table.{Table}
use Rattle.vs_prices.proofs.CallerLemmas.{all_broken}
use Rattle.vs_check.specs.Flaws.{IsBreakWithin, IsFaultWithin}
use Rattle.vs_check.proofs.CallerLemmas.{break_of, faults_named}
use Rattle.vs_peakcheck.specs.Counting.{counted_trip, counting, permitted_trips}
use Rattle.vs_peakcheck.specs.Flaws.{blocks_flaws, broken_flaws, count_flaws, flaws_in, flaws_of, layer_flaws, weakness}
use Rattle.vs_peakcheck.specs.declared.claimed.Claimed.{Claimed}
use Rattle.vs_peakcheck.specs.declared.flaw.PeakFlaw.{PeakFlaw}
use Rattle.vs_peakcheck.specs.declared.flaw.PeakFlaw.TheVariants.{Blocks, CountDiffers, TableBroken, TooWeak}
use Rattle.vs_reply.specs.PeakFlawRows.{IsPeakFlawWithin}

-- of the problem that counts the vehicles of layer l
module _ (p : Problem) (l : ℕ) where
  abbrev q : Problem
  q = counting p l

  abbrev own : ℕ
  own = length (permitted_trips p l)

  abbrev Within : PeakFlaw → Type 0
  Within flaw = IsPeakFlawWithin own flaw

  same_count : length q.trips ≡ own
  same_count = length-map (permitted_trips p l) (λ i. counted_trip (trip_of p i))

  one_flaw : (flaw : PeakFlaw) → Within flaw → All Within (flaw ∷ [])
  one_flaw flaw is = All-cons Within flaw [] is (All-nil Within)

  blocks_named : (blocks : List LayerBlock) (n : ℕ) (f : Option PlanFault) → first (faults_of q blocks) ≡ f
      → All Within (blocks_flaws blocks n f)
  blocks_named blocks n None is =
      All-when Within (not (n == length blocks)) (CountDiffers n (length blocks)) (λ _. tt)
  blocks_named blocks n (Some fault) is =
      let within : IsFaultWithin 1 (length q.trips) fault =
      first_holds (IsFaultWithin 1 (length q.trips)) (faults_of q blocks) fault (faults_named q blocks) is in
      one_flaw (Blocks fault) (subst (λ (n : ℕ). IsFaultWithin 1 n fault) same_count within)

  count_named : (blocks : List LayerBlock) (count : Option ℕ) → All Within (count_flaws q blocks count)
  count_named blocks None = All-nil Within
  count_named blocks (Some n) = blocks_named blocks n (first (faults_of q blocks)) refl

  broken_named : (table : Table) (at : Option BrokenAt) → first (breaks_of q table) ≡ at
      → All Within (broken_flaws at)
  broken_named table None is = All-nil Within
  broken_named table (Some at) is =
      let within : IsBreakWithin 1 (length q.trips) at =
      break_of q table at (first_holds (IsBroken q table) (breaks_of q table) at (all_broken q table) is) in
      one_flaw (TableBroken at) (subst (λ (n : ℕ). IsBreakWithin 1 n at) same_count within)

  weak_named : (worth : Bound) (count : Option ℕ) → All Within (weakness worth count)
  weak_named NoPlan count = All-nil Within
  weak_named (AtLeast n) None = one_flaw (TooWeak n None) tt
  weak_named (AtLeast n) (Some count) =
      All-when Within (int_lt n (pos count)) (TooWeak n (Some count)) (λ _. tt)

  in_named : (c : Claimed) → All Within (flaws_in q c)
  in_named c =
      All-append Within _ _
      (All-append Within _ _ (count_named (pairs_of c.blocks.items) c.count)
      (broken_named c.table (first (breaks_of q c.table)) refl))
      (weak_named (worth_of q (permitted_sets q) c.table) c.count)

-- of all layers
module _ (p : Problem) (claimed : List Claimed) (each : length claimed ≡ length p.layers) where
  abbrev Named : LayerNo × PeakFlaw → Type 0
  Named f = (f.0.0 < length p.layers) × IsPeakFlawWithin (length (permitted_trips p f.0.0)) f.1

  named : (l : ℕ) (c : Claimed) → l < length p.layers → All Named (layer_flaws p l c)
  named l c few =
      All-map Named (λ (flaw : PeakFlaw). (record { 0 = l }, flaw)) (flaws_in (counting p l) c)
      (All-weaker (IsPeakFlawWithin (length (permitted_trips p l)))
      (λ (flaw : PeakFlaw). Named (record { 0 = l }, flaw))
      (λ flaw is. (few, is)) (flaws_in (counting p l) c) (in_named p l c))

  all_named : All Named (flaws_of p claimed)
  all_named = All-each Named (layer_flaws p) 0 claimed (λ l c from within. named l c (omega (arith, within, each)))

  pub first_named : (l : LayerNo) (flaw : PeakFlaw) → first (flaws_of p claimed) ≡ Some (l, flaw) → Named (l, flaw)
  first_named l flaw is = first_holds Named (flaws_of p claimed) (l, flaw) all_named is
