-- Traces that say the same.
use Rattle.std.specs.Prelude.{◌≡◌, ℕ}
use Rattle.std.specs.List.{AllZip}
use Rattle.vs_instance.specs.Problem.{Problem}
use Rattle.vs_plan.specs.Blocks.{blocks_of}
use Rattle.vs_prices.specs.declared.table.Table.{Table}
use Rattle.vs_rows.specs.DocumentRows.{table_rows}
use Rattle.vs_trace.specs.Traces.{told_first}
use Rattle.vs_trace.specs.declared.trace.Full.{Full}
use Rattle.vs_trace.specs.declared.trace.Full.TheVariants.{Took, Split, Closed, Offered, GaveBack}
use Rattle.vs_trace.specs.declared.trace.Trace.{Trace}

-- the same rows tell two tables, whatever their number: they are of one kind, and have the same prices but for trips
-- that a layer may not run
abbrev pub AreToldAlike : Problem → Table → Table → Type 0
AreToldAlike p t u = (n : ℕ) → table_rows p (n, t) ≡ table_rows p (n, u)

-- two steps of one kind, with the same numbers and blocks, whose tables are told alike
abbrev pub AreAlikeSteps : Problem → Full → Full → Type 0
AreAlikeSteps p (Took worker spot) (Took w k) = (worker ≡ w) × (spot ≡ k)
AreAlikeSteps p (Split worker spot trip left table) (Split w k i l other) =
    (worker ≡ w) × (spot ≡ k) × (trip ≡ i) × (left ≡ l) × AreToldAlike p table other
AreAlikeSteps p (Closed worker spot table) (Closed w k other) = (worker ≡ w) × (spot ≡ k) × AreToldAlike p table other
AreAlikeSteps p (Offered worker cost plan) (Offered w c other) =
    (worker ≡ w) × (cost ≡ c) × (blocks_of plan ≡ blocks_of other)
AreAlikeSteps p (GaveBack worker spot) (GaveBack w k) = (worker ≡ w) × (spot ≡ k)
AreAlikeSteps p step other = ⊥

-- they have the same opening and the same first plan, and their steps are alike, each with the one of its number
pub record AreAlike (p : Problem) (t u : Trace) : Type 0 where
  pub budget : t.budget ≡ u.budget
  pub workers : t.workers ≡ u.workers
  pub first : told_first p t.first ≡ told_first p u.first
  pub steps : AllZip (AreAlikeSteps p) t.steps.items u.steps.items
