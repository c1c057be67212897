-- Every flaw names layers and trips of the instance.
use Rattle.std.proofs.Common.{◌≡◌, ℕ, ◌+◌, ◌-◌, Bool, true, false, cond, not, List, [], ◌∷◌, ◌++◌, length, refl, sym, arith, Option, Some, None, ℤ, pos}
use Rattle.std.specs.Prelude.{int_lt, nat_lt, ◌==◌, is_none}
use Rattle.std.specs.List.{All, flat_map, slice_get}
use Rattle.std.specs.Ordering.{int_eq}
use Rattle.std.proofs.lemmas.List.Elements.{All-append, All-cons, All-nil}
use Rattle.std.proofs.lemmas.List.FromFn.{length-map-range_with_len}
use Rattle.vs_types.specs.declared.layer_set.LayerSet.{LayerSet}
use Rattle.vs_types.specs.declared.numbers.LayerNo.{LayerNo}
use Rattle.vs_types.specs.declared.numbers.TripNo.{TripNo}
use Rattle.vs_instance.specs.Firsts.{first, when}
use Rattle.vs_instance.specs.Pieces.{out_piece, link_piece, in_piece}
use Rattle.vs_instance.specs.Blocks.{last_of}
use Rattle.vs_instance.specs.Ways.{layer_of}
use Rattle.vs_instance.specs.Problem.{Problem}
use Rattle.vs_instance.specs.Restriction.{permitted_sets, set_of}
use Rattle.vs_instance.specs.Plan.{LayerBlock, plan_cost, times_run, vehicles_used}
use Rattle.vs_instance.proofs.CallerLemmas.{All-each, All-numbers, All-when, first_holds}
use Rattle.vs_plan.specs.Blocks.{blocks_of}
use Rattle.vs_plan.specs.PlanFaults.{is_permitted, trip_at, arrival_faults, block_faults, faults_of, layer_faults, place_faults, times_of, twice, uncovered}
use Rattle.vs_plan.specs.declared.plan_fault.PlanFault.{PlanFault}
use Rattle.vs_plan.specs.declared.plan_fault.PlanFault.TheVariants as fault
use Rattle.vs_prices.specs.Breaks.{IsBroken, breaks_of}
use Rattle.vs_prices.specs.declared.bound.Bound.{Bound}
use Rattle.vs_prices.specs.declared.bound.Bound.TheVariants.{AtLeast, NoPlan}
use Rattle.vs_prices.specs.declared.broken_at.BrokenAt.{BrokenAt}
use Rattle.vs_prices.specs.declared.broken_at.BrokenAt.TheVariants as broken
use Rattle.vs_prices.specs.declared.table.Table.{Table}
use Rattle.vs_prices.proofs.CallerLemmas.{all_broken}
use Rattle.vs_rows.specs.declared.document.Document.{Document}
use Rattle.vs_check.specs.declared.flaw.Flaw.{Flaw}
use Rattle.vs_check.specs.declared.flaw.Flaw.TheVariants.{Plan, CostDiffers, TableBroken, BadSplit, LeafTooWeak, ClaimDiffers}
use Rattle.vs_rows.specs.Shapes.{preorder}
use Rattle.vs_prices.specs.Tree.{Tree, Leaf, Split, right_of, with_set}
use Rattle.vs_prices.specs.Claims.{claim_found}
use Rattle.vs_check.specs.Flaws.{IsBreakWithin, IsFaultWithin, IsFlawWithin, IsVerdictWithin, broken_flaws, cost_flaws, flaws_of, leaf_flaws, named_flaws, plan_flaws, same_claim, table_flaws, tree_flaws, verdict_of}
use Rattle.vs_types.specs.Parts.{is_proper_part}
use Rattle.vs_check.specs.Trees.{trees_of}
use Rattle.vs_check.specs.declared.verdict.Verdict.{Verdict}
use Rattle.vs_check.specs.declared.verdict.Verdict.TheVariants.{No}

pub break_of : (p : Problem) (table : Table) (at : BrokenAt) → IsBroken p table at
    → IsBreakWithin (length p.layers) (length p.trips) at
break_of p table (broken.Fleet l) is = is.0
break_of p table (broken.PullOut l i) is = (is.0, is.1)
break_of p table (broken.Link l i j) is = (is.0, is.1, is.2)
break_of p table (broken.PullIn l i) is = (is.0, is.1)

module _ (p : Problem) where
  abbrev OfFault : PlanFault → Type 0
  OfFault f = IsFaultWithin (length p.layers) (length p.trips) f

  abbrev OfFlaw : Flaw → Type 0
  OfFlaw f = IsFlawWithin (length p.layers) (length p.trips) f

  times_size : (blocks : List LayerBlock) → length (times_of p blocks) ≡ length p.trips
  times_size blocks = length-map-range_with_len (times_run blocks) 0 (length p.trips)

  arrival_named : (b : ℕ) (l : LayerNo) (trips : List TripNo) (place : ℕ)
      → All OfFault (arrival_faults p b l trips place)
  arrival_named b l trips place = by_place (place == 0)
    where
      by_place : (first : Bool)
          → All OfFault (cond first (when (is_none (out_piece p l.0 (trip_at trips place))) (fault.NoPullOut b))
          (when (is_none (link_piece p l.0 (trip_at trips (place - 1)) (trip_at trips place)))
          (fault.NoConnection b place)))
      by_place true = All-when OfFault (is_none (out_piece p l.0 (trip_at trips place))) (fault.NoPullOut b) (λ _. tt)
      by_place false =
          All-when OfFault (is_none (link_piece p l.0 (trip_at trips (place - 1)) (trip_at trips place)))
          (fault.NoConnection b place) (λ _. tt)

  block_named : (b : ℕ) (block : LayerBlock) → All OfFault (block_faults p b block)
  block_named b block =
      All-append OfFault _ _
      (All-numbers OfFault (place_faults p b block.0 block.1) 0 (length block.1) (λ place from within.
      All-append OfFault _ _
      (All-when OfFault (not (is_permitted p block.0.0 (trip_at block.1 place))) (fault.NotPermitted b place) (λ _. tt))
      (arrival_named b block.0 block.1 place)))
      (All-when OfFault (is_none (in_piece p block.0.0 (last_of block.1))) (fault.NoPullIn b) (λ _. tt))

  pub faults_named : (blocks : List LayerBlock) → All OfFault (faults_of p blocks)
  faults_named blocks =
      All-append OfFault _ _ (All-each OfFault (block_faults p) 0 blocks (λ b block from within. block_named b block))
      (All-append OfFault _ _
      (All-append OfFault _ _
      (All-each OfFault twice 0 (times_of p blocks) (λ i times from within.
      All-when OfFault (nat_lt 1 times) (fault.Twice (record { 0 = i })) (λ _. omega (arith, times_size blocks))))
      (All-each OfFault uncovered 0 (times_of p blocks) (λ i times from within.
      All-when OfFault (times == 0) (fault.Uncovered (record { 0 = i })) (λ _. omega (arith, times_size blocks)))))
      (All-numbers OfFault (layer_faults p blocks) 0 (length p.layers) (λ l from within.
      All-when OfFault (nat_lt (layer_of p l).fleet (vehicles_used blocks l))
      (fault.Fleet (record { 0 = l }) (vehicles_used blocks l)) (λ _. omega arith))))

  one_flaw : (flaw : Flaw) → IsFlawWithin (length p.layers) (length p.trips) flaw → All OfFlaw (flaw ∷ [])
  one_flaw flaw is = All-cons OfFlaw flaw [] is (All-nil OfFlaw)

  cost_named : (blocks : List LayerBlock) (cost : ℤ) (f : Option PlanFault) → first (faults_of p blocks) ≡ f
      → All OfFlaw (cost_flaws p blocks cost f)
  cost_named blocks cost None is =
      All-when OfFlaw (not (int_eq cost (pos (plan_cost p blocks)))) (CostDiffers cost (pos (plan_cost p blocks)))
      (λ _. tt)
  cost_named blocks cost (Some f) is =
      one_flaw (Plan f) (first_holds OfFault (faults_of p blocks) f (faults_named blocks) is)

  plan_named : (blocks : List LayerBlock) (cost : Option ℤ) → All OfFlaw (plan_flaws p blocks cost)
  plan_named blocks None = All-nil OfFlaw
  plan_named blocks (Some cost) = cost_named blocks cost (first (faults_of p blocks)) refl

  table_named : (t : ℕ) (table : Table) (at : Option BrokenAt) → first (breaks_of p table) ≡ at
      → All OfFlaw (broken_flaws t at)
  table_named t table None is = All-nil OfFlaw
  table_named t table (Some at) is =
      one_flaw (TableBroken t at)
      (break_of p table at (first_holds (IsBroken p table) (breaks_of p table) at (all_broken p table) is))

  leaf_named : (position : ℕ) (worth : Bound) (bound : Option ℤ) → All OfFlaw (leaf_flaws position worth bound)
  leaf_named position NoPlan bound = All-nil OfFlaw
  leaf_named position (AtLeast n) None = one_flaw (LeafTooWeak position n None) tt
  leaf_named position (AtLeast n) (Some bound) =
      All-when OfFlaw (int_lt n bound) (LeafTooWeak position n (Some bound)) (λ _. tt)

  named_named : (bound : Option ℤ) (position : ℕ) (sets : List LayerSet) (table : Option Table)
      → All OfFlaw (named_flaws p bound position sets table)
  named_named bound position sets None = All-nil OfFlaw
  named_named bound position sets (Some table) = leaf_named position _ bound

  split_named : (good : Bool) (position : ℕ) (lower upper : List Flaw) → All OfFlaw lower → All OfFlaw upper
      → All OfFlaw (cond good (lower ++ upper) (BadSplit position ∷ []))
  split_named true position lower upper on_left on_right = All-append OfFlaw lower upper on_left on_right
  split_named false position lower upper on_left on_right = one_flaw (BadSplit position) tt

  tree_named : (tables : List Table) (bound : Option ℤ) (position : ℕ) (sets : List LayerSet) (tree : Tree)
      → All OfFlaw (tree_flaws p tables bound position sets tree)
  tree_named tables bound position sets (Leaf table) = named_named bound position sets (slice_get tables table)
  tree_named tables bound position sets (Split trip left lower upper) =
      split_named (is_proper_part left (set_of sets trip.0)) position
      (tree_flaws p tables bound (position + 1) (with_set sets trip left) lower)
      (tree_flaws p tables bound (position + 1 + length (preorder lower))
      (with_set sets trip (right_of sets trip left)) upper)
      (tree_named tables bound (position + 1) (with_set sets trip left) lower)
      (tree_named tables bound (position + 1 + length (preorder lower))
      (with_set sets trip (right_of sets trip left)) upper)

  trees_named : (tables : List Table) (bound : Option ℤ) (trees : List Tree)
      → All OfFlaw (flat_map (tree_flaws p tables bound 0 (permitted_sets p)) trees)
  trees_named tables bound [] = All-nil OfFlaw
  trees_named tables bound (tree ∷ trees) =
      All-append OfFlaw _ _ (tree_named tables bound 0 (permitted_sets p) tree) (trees_named tables bound trees)

  all_named : (d : Document) → All OfFlaw (flaws_of p d)
  all_named d =
      All-append OfFlaw _ _ (All-append OfFlaw _ _ (All-append OfFlaw _ _ (plan_named (blocks_of d.plan) d.cost)
      (All-each OfFlaw (table_flaws p) 0 d.tables.items
      (λ t table from within. table_named t table (first (breaks_of p table)) refl)))
      (trees_named d.tables.items d.bound (trees_of d.shape.items)))
      (All-when OfFlaw (not (same_claim d.claim (claim_found d.cost d.bound)))
      (ClaimDiffers d.claim (claim_found d.cost d.bound)) (λ _. tt))

  -- so the verdict does
  pub verdict_named : (d : Document) (flaw : Option Flaw) → flaw ≡ first (flaws_of p d)
      → IsVerdictWithin (length p.layers) (length p.trips) (verdict_of flaw)
  verdict_named d None is = tt
  verdict_named d (Some flaw) is = first_holds OfFlaw (flaws_of p d) flaw (all_named d) (sym is)

-- the flaw of a verdict is the first
pub first_of_verdict : (found : Option Flaw) (verdict : Verdict) (flaw : Flaw) → verdict ≡ verdict_of found
    → verdict ≡ No flaw → found ≡ Some flaw
first_of_verdict None verdict flaw is refused = cc
first_of_verdict (Some other) verdict flaw is refused = cc
