-- The steps of a log, as it is seen and as it is kept.
use Rattle.std.specs.List.{All}
use Rattle.std.proofs.Common.{◌≡◌, ℕ, zero, suc, ◌<◌, List, [], ◌∷◌, ◌++◌, length, map, replicate, refl, ap, arith, false, Option, Some, None, slice_get, ℤ, pos}
use Rattle.std.proofs.lemmas.List.{get_or_append_left}
use Rattle.std.proofs.lemmas.List.Elements.{All-head, All-tail}
use Rattle.vs_instance.specs.Problem.{Problem}
use Rattle.vs_plan.specs.CheckedPlan.{Checked}
use Rattle.vs_prices.specs.declared.table.Table.{Table}
use Rattle.vs_prices.specs.Table.{AreZeros, Fits}
use Rattle.vs_tree.specs.History as full
use Rattle.vs_tree.specs.History.{FullStep}
use Rattle.vs_tree.specs.Log.{IsOfLog, full_step, plain_step}
use Rattle.vs_tree.specs.Prices.{Prices, no_prices, prices_of, zero_prices}
use Rattle.vs_tree.specs.declared.step.Step.{Step}
use Rattle.vs_tree.specs.declared.step.Step.TheVariants.{Took, Split, Closed, Offered, GaveBack}

-- a step names the tables and plans that it named, once more of them came
step-kept : (tables more : List Prices) (plans others : List Checked) (step : Step)
    → IsOfLog (length tables) (length plans) step
    → full_step (tables ++ more) (plans ++ others) step ≡ full_step tables plans step
step-kept tables more plans others (Took worker leaf) is = refl
step-kept tables more plans others (Split worker leaf table trip left) is =
    ap (λ (x : Prices). full.Split worker leaf table trip left x) (get_or_append_left tables more no_prices table is)
step-kept tables more plans others (Closed worker leaf table) is =
    ap (λ (x : Prices). full.Closed worker leaf table x) (get_or_append_left tables more no_prices table is)
step-kept tables more plans others (Offered worker cost None) is = refl
step-kept tables more plans others (Offered worker cost (Some k)) is =
    ap (λ (x : Option Checked). full.Offered worker cost (Some k) x) (slice_get-append plans others k is)
  where
    slice_get-append : (xs ys : List Checked) (n : ℕ) → n < length xs → slice_get (xs ++ ys) n ≡ slice_get xs n
    slice_get-append [] ys n inside = absurd (omega arith)
    slice_get-append (x ∷ xs) ys zero inside = refl
    slice_get-append (x ∷ xs) ys (suc n) inside = slice_get-append xs ys n (omega arith)
step-kept tables more plans others (GaveBack worker leaf) is = refl

pub steps-kept : (tables more : List Prices) (plans others : List Checked) (steps : List Step)
    → All (IsOfLog (length tables) (length plans)) steps
    → map (full_step (tables ++ more) (plans ++ others)) steps ≡ map (full_step tables plans) steps
steps-kept tables more plans others [] each = refl
steps-kept tables more plans others (step ∷ steps) each =
    let P : Step → Type 0 = IsOfLog (length tables) (length plans) in
    let first = step-kept tables more plans others step (All-head P step steps each) in
    let rest = steps-kept tables more plans others steps (All-tail P step steps each) in
    cc

-- a step is the same without what it adds
plain-full : (tables : List Prices) (plans : List Checked) (step : Step) → plain_step
    (full_step tables plans step) ≡ step
plain-full tables plans (Took worker leaf) = refl
plain-full tables plans (Split worker leaf table trip left) = refl
plain-full tables plans (Closed worker leaf table) = refl
plain-full tables plans (Offered worker cost plan) = refl
plain-full tables plans (GaveBack worker leaf) = refl

pub plain-steps : (tables : List Prices) (plans : List Checked) (steps : List Step)
    → map plain_step (map (full_step tables plans) steps) ≡ steps
plain-steps tables plans [] = refl
plain-steps tables plans (step ∷ steps) =
    let first = plain-full tables plans step in
    let rest = plain-steps tables plans steps in
    cc

-- zeros are replicated zeros
are_replicated : (xs : List ℤ) (n : ℕ) → length xs ≡ n → All (λ x. x ≡ pos 0) xs → xs ≡ replicate n (pos 0)
are_replicated [] zero size each = refl
are_replicated [] (suc n) size each = absurd (omega arith)
are_replicated (x ∷ xs) zero size each = absurd (omega arith)
are_replicated (x ∷ xs) (suc n) size each =
    let P : ℤ → Type 0 = λ y. y ≡ pos 0 in
    let first : x ≡ pos 0 = All-head P x xs each in
    let rest = are_replicated xs n (omega arith) (All-tail P x xs each) in
    cc

-- a table of zeros has the prices of zero
pub zeros-are : (p : Problem) (table : Table) → Fits p table → AreZeros table → table.ray ≡ false
    → prices_of table ≡ zero_prices p
zeros-are p table fits zeros costs =
    let into = are_replicated table.into.items _ fits.into_size zeros.into in
    let from = are_replicated table.from.items _ fits.from_size zeros.from in
    let fleet = are_replicated table.fleet.items _ fits.fleet_size zeros.fleet in
    cc

-- tables and plans by number, once one more came
pub map-last : (tables : List Table) (table : Table) → map prices_of (tables ++ table ∷ []) ≡ map prices_of tables ++
    prices_of table ∷ []
map-last [] table = refl
map-last (t ∷ tables) table = ap (λ (x : List Prices). prices_of t ∷ x) (map-last tables table)
