-- What is wrong with what is claimed of layers, in the order in which it is answered.
use Rattle.std.specs.Prelude.{ℕ, ◌==◌, not, List, [], ◌∷◌, ◌++◌, length, map, flat_map, pos, Option, Some, None, int_lt}
use Rattle.std.specs.List.{enumerate_from}
use Rattle.vs_types.specs.declared.numbers.LayerNo.{LayerNo}
use Rattle.vs_instance.specs.Firsts.{first, when}
use Rattle.vs_instance.specs.Problem.{Problem}
use Rattle.vs_instance.specs.Plan.{LayerBlock}
use Rattle.vs_instance.specs.Restriction.{permitted_sets}
use Rattle.vs_plan.specs.declared.plan_fault.PlanFault.{PlanFault}
use Rattle.vs_plan.specs.Blocks.{pairs_of}
use Rattle.vs_plan.specs.PlanFaults.{faults_of}
use Rattle.vs_prices.specs.Breaks.{breaks_of}
use Rattle.vs_prices.specs.Worth.{worth_of}
use Rattle.vs_prices.specs.declared.bound.Bound.{Bound}
use Rattle.vs_prices.specs.declared.bound.Bound.TheVariants.{AtLeast, NoPlan}
use Rattle.vs_prices.specs.declared.broken_at.BrokenAt.{BrokenAt}
use Rattle.vs_prices.specs.declared.table.Table.{Table}
use Rattle.vs_peakcheck.specs.Counting.{counting}
use Rattle.vs_peakcheck.specs.declared.claimed.Claimed.{Claimed}
use Rattle.vs_peakcheck.specs.declared.flaw.PeakFlaw.{PeakFlaw}
use Rattle.vs_peakcheck.specs.declared.flaw.PeakFlaw.TheVariants.{Blocks, CountDiffers, TableBroken, TooWeak}
use Rattle.vs_peakcheck.specs.declared.flaw.PeakVerdict.{PeakVerdict}
use Rattle.vs_peakcheck.specs.declared.flaw.PeakVerdict.TheVariants.{Yes, No}

-- so many are claimed and so many blocks there are
abbrev pub difference : ℕ → ℕ → List PeakFlaw
difference claimed found = when (not (claimed == found)) (CountDiffers claimed found)

-- the first fault of the blocks, and where they have none, a count that isn't theirs
abbrev pub blocks_flaws : List LayerBlock → ℕ → Option PlanFault → List PeakFlaw
blocks_flaws blocks n (Some fault) = Blocks fault ∷ []
blocks_flaws blocks n None = difference n (length blocks)

abbrev pub count_flaws : Problem → List LayerBlock → Option ℕ → List PeakFlaw
count_flaws q blocks None = []
count_flaws q blocks (Some n) = blocks_flaws blocks n (first (faults_of q blocks))

-- the first place where the table breaks
abbrev pub broken_flaws : Option BrokenAt → List PeakFlaw
broken_flaws None = []
broken_flaws (Some at) = TableBroken at ∷ []

abbrev pub table_flaws : Problem → Table → List PeakFlaw
table_flaws q table = broken_flaws (first (breaks_of q table))

-- the table is worth so much beside this count
abbrev pub weakness : Bound → Option ℕ → List PeakFlaw
weakness NoPlan count = []
weakness (AtLeast n) None = TooWeak n None ∷ []
weakness (AtLeast n) (Some count) = when (int_lt n (pos count)) (TooWeak n (Some count))

abbrev pub weak_flaws : Problem → Table → Option ℕ → List PeakFlaw
weak_flaws q table count = weakness (worth_of q (permitted_sets q) table) count

-- of what is claimed for a problem that counts vehicles
abbrev pub flaws_in : Problem → Claimed → List PeakFlaw
flaws_in q c = count_flaws q (pairs_of c.blocks.items) c.count ++ table_flaws q c.table ++ weak_flaws q c.table c.count

-- the flaws of layer l with its number
abbrev pub layer_flaws : Problem → ℕ → Claimed → List (LayerNo × PeakFlaw)
layer_flaws p l c = map (λ flaw. (record { 0 = l }, flaw)) (flaws_in (counting p l) c)

-- layer by layer
abbrev pub flaws_of : Problem → List Claimed → List (LayerNo × PeakFlaw)
flaws_of p claimed = flat_map (λ e. layer_flaws p e.0 e.1) (enumerate_from 0 claimed)

-- yes where there is none, and else no for the first
abbrev pub verdict_of : Option (LayerNo × PeakFlaw) → PeakVerdict
verdict_of None = Yes
verdict_of (Some flaw) = No flaw.0 flaw.1
