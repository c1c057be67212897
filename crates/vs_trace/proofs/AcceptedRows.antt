-- The rows of a trace lead from its opening to behind its end.
use Rattle.std.proofs.Common.{◌≡◌, ℕ, ◌+◌, List, [], ◌∷◌, ◌++◌, length, map, refl, sym, subst, Some, None, Option, ℤ, arith}
use Rattle.std.specs.Prelude.{flat_map}
use Rattle.std.specs.List.{All, range_with_len}
use Rattle.std.proofs.lemmas.List.{append_assoc, map-append}
use Rattle.std.proofs.lemmas.List.Elements.{All-head, All-tail}
use Rattle.vs_instance.specs.Problem.{Problem}
use Rattle.vs_instance.specs.Plan.{LayerBlock}
use Rattle.vs_plan.specs.Blocks.{blocks_of}
use Rattle.vs_plan.specs.declared.block.Plan.{Plan}
use Rattle.vs_prices.specs.Table.{Fits, from_price, into_price, vehicle_price}
use Rattle.vs_prices.specs.declared.table.Table.{Table}
use Rattle.vs_rows.specs.DocumentRows.{DocumentRow, BlockRow, EndRow, FleetRow, PriceRow, TableRow, layer_rows, permitted_trips, table_rows}
use Rattle.vs_rows.specs.PriceOrder.{PriceOf, Trip, Vehicle, prices_of}
use Rattle.vs_rows.proofs.CallerLemmas.{LeadsTo, leads_on, price_anywhere, prices_in_all}
use Rattle.vs_trace.specs.TraceRows.{OpeningRow, PartRow, TraceRow, block_rows, first_rows, part_row, parts, step_rows}
use Rattle.vs_trace.specs.Traces.{HasFitting, first_plans, steps_from, told_first, told_steps}
use Rattle.vs_trace.specs.declared.trace.Full.{Full}
use Rattle.vs_trace.specs.declared.trace.Full.TheVariants.{Took, Split, Closed, Offered, GaveBack}
use Rattle.vs_trace.specs.declared.trace.Trace.{Trace}
use Rattle.vs_trace.specs.TraceRefusals.{traces}
use Rattle.vs_trace.specs.Places.{AtBlocks, AtEnd, AtFirst, AtOpening, AtTable, InTable}
use Rattle.vs_trace.proofs.PricePlaces.{price_leads}

module _ (p : Problem) where
  pub leads_blocks : (n : ℕ) (blocks : List LayerBlock) → LeadsTo traces p (AtBlocks n) (block_rows blocks) (AtBlocks n)
  leads_blocks n [] = refl
  leads_blocks n (b ∷ blocks) =
      (AtBlocks n, record { suits = tt; order = refl; right = (tt, tt) }, leads_blocks n blocks)

  -- where a block may come, a step or the end may come too
  from_blocks : (n : ℕ) (rows : List TraceRow) → LeadsTo traces p (InTable n []) rows AtEnd
      → LeadsTo traces p (AtBlocks n) rows AtEnd
  from_blocks n [] leads = absurd cc
  from_blocks n (PartRow (BlockRow b) ∷ rows) leads = let none = leads.1.order in absurd cc
  from_blocks n (PartRow (TableRow number ray) ∷ rows) leads = let none = leads.1.order in absurd cc
  from_blocks n (said ∷ rows) leads =
      (leads.0, record { suits = tt; order = leads.1.order; right = (tt, leads.1.right.1) }, leads.2)

  module _ (table : Table) (fits : Fits p table) (n : ℕ) where
    abbrev priced : ℕ → ℕ → DocumentRow
    priced l i = PriceRow l i (into_price p table l i) (from_price p table l i)

    leads_trips : (l : ℕ) (trips : List ℕ) (later : List PriceOf)
        → LeadsTo traces p (InTable n (map (Trip l) trips ++ later)) (parts (map (priced l) trips)) (InTable n later)
    leads_trips l [] later = refl
    leads_trips l (i ∷ trips) later = (
      InTable n (map (Trip l) trips ++ later),
      price_leads p n (Trip l i) (map (Trip l) trips ++ later) (priced l i) (refl, refl) (
        price_anywhere _ i (prices_in_all p l table.into.items fits.into),
        price_anywhere _ i (prices_in_all p l table.from.items fits.from),
      ),
      leads_trips l trips later,
    )

    leads_layers : (layers : List ℕ)
        → LeadsTo traces p (InTable n (flat_map (λ l. Vehicle l ∷ map (Trip l) (permitted_trips p l)) layers))
        (parts (flat_map (layer_rows p table) layers)) (InTable n [])
    leads_layers [] = refl
    leads_layers (l ∷ layers) =
        let later : List PriceOf = flat_map (λ k. Vehicle k ∷ map (Trip k) (permitted_trips p k)) layers in
        let trips : List DocumentRow = map (priced l) (permitted_trips p l) in
        let rest : List DocumentRow = flat_map (layer_rows p table) layers in
        let P : List TraceRow → Type 0 = λ rows.
        LeadsTo traces p (InTable n (map (Trip l) (permitted_trips p l) ++ later)) rows (InTable n []) in (
          InTable n (map (Trip l) (permitted_trips p l) ++ later),
          price_leads p n (Vehicle l) (map (Trip l) (permitted_trips p l) ++ later)
              (FleetRow l (vehicle_price table l)) refl (price_anywhere table.fleet.items l fits.fleet),
          subst P (sym (map-append part_row trips rest))
              (leads_on traces p (InTable n (map (Trip l) (permitted_trips p l) ++ later)) (InTable n later)
              (InTable n []) (parts trips) (parts rest)
              (leads_trips l (permitted_trips p l) later) (leads_layers layers)),
        )

  pub leads_table : (table : Table) (n : ℕ) → Fits p table
      → LeadsTo traces p (AtTable n) (parts (table_rows p (n + 1, table))) (InTable (n + 1) [])
  leads_table table n fits = (
    InTable (n + 1) (prices_of p),
    record { suits = tt; order = refl; right = (refl, tt) },
    leads_layers table fits (n + 1) (range_with_len 0 (length p.layers)),
  )

  -- the table of a step, and what comes behind it
  behind_table : (n tables plans : ℕ) (table : Table) (steps : List Full) → Fits p table → tables ≡ n + 1
      → LeadsTo traces p (InTable (n + 1) []) (flat_map (step_rows p) (steps_from p (tables + 1) plans steps)
      ++ PartRow EndRow ∷ []) AtEnd
      → LeadsTo traces p (AtTable n) (parts (table_rows p (tables, table))
      ++ flat_map (step_rows p) (steps_from p (tables + 1) plans steps) ++ PartRow EndRow ∷ []) AtEnd
  behind_table n tables plans table steps fits is later =
      let rest = flat_map (step_rows p) (steps_from p (tables + 1) plans steps) in
      let N : ℕ → Type 0 = λ k. LeadsTo traces p (AtTable n) (parts (table_rows p (k, table))) (InTable (n + 1) []) in
      let P : List TraceRow → Type 0 = λ rows. LeadsTo traces p (AtTable n) rows AtEnd in
      subst P (sym (append_assoc (parts (table_rows p (tables, table))) rest (PartRow EndRow ∷ [])))
      (leads_on traces p (AtTable n) (InTable (n + 1) []) AtEnd (parts (table_rows p (tables, table)))
      (rest ++ PartRow EndRow ∷ []) (subst N (sym is) (leads_table table n fits)) later)

  -- the steps and the end behind so many tables
  leads_steps : (n tables plans : ℕ) (steps : List Full) → All (HasFitting p) steps → tables ≡ n + 1
      → LeadsTo traces p (InTable n [])
      (flat_map (step_rows p) (steps_from p tables plans steps) ++ PartRow EndRow ∷ []) AtEnd
  leads_steps n tables plans [] fit is = (AtEnd, record { suits = tt; order = refl; right = (tt, tt) }, refl)
  leads_steps n tables plans (Took worker spot ∷ steps) fit is = (
    InTable n [],
    record { suits = tt; order = refl; right = (tt, tt) },
    leads_steps n tables plans steps (All-tail (HasFitting p) (Took worker spot) steps fit) is,
  )
  leads_steps n tables plans (GaveBack worker spot ∷ steps) fit is = (
    InTable n [],
    record { suits = tt; order = refl; right = (tt, tt) },
    leads_steps n tables plans steps (All-tail (HasFitting p) (GaveBack worker spot) steps fit) is,
  )
  leads_steps n tables plans (Offered worker cost plan ∷ steps) fit is =
      let rest = flat_map (step_rows p) (steps_from p tables (plans + 1) steps) ++ PartRow EndRow ∷ [] in
      let fit_rest = All-tail (HasFitting p) (Offered worker cost plan) steps fit in
      let blocks = block_rows (blocks_of plan) in
      let P : List TraceRow → Type 0 = λ rows. LeadsTo traces p (AtBlocks n) rows AtEnd in (
        AtBlocks n,
        record { suits = tt; order = refl; right = (tt, tt) },
        subst P (sym (append_assoc blocks (flat_map (step_rows p) (steps_from p tables (plans + 1) steps))
            (PartRow EndRow ∷ [])))
            (leads_on traces p (AtBlocks n) (AtBlocks n) AtEnd blocks rest (leads_blocks n (blocks_of plan))
            (from_blocks n rest (leads_steps n tables (plans + 1) steps fit_rest is))),
      )
  leads_steps n tables plans (Closed worker spot table ∷ steps) fit is =
      let fits : Fits p table = All-head (HasFitting p) (Closed worker spot table) steps fit in
      let fit_rest = All-tail (HasFitting p) (Closed worker spot table) steps fit in (
        AtTable n,
        record { suits = tt; order = refl; right = (tt, tt) },
        behind_table n tables plans table steps fits is (leads_steps (n + 1) (tables + 1) plans steps fit_rest
            (omega (arith, is))),
      )
  leads_steps n tables plans (Split worker spot trip left table ∷ steps) fit is =
      let fits : Fits p table = All-head (HasFitting p) (Split worker spot trip left table) steps fit in
      let fit_rest = All-tail (HasFitting p) (Split worker spot trip left table) steps fit in (
        AtTable n,
        record { suits = tt; order = refl; right = (tt, tt) },
        behind_table n tables plans table steps fits is (leads_steps (n + 1) (tables + 1) plans steps fit_rest
            (omega (arith, is))),
      )

  leads_first : (first : Option (ℤ × Plan)) (rest : List TraceRow) → LeadsTo traces p (InTable 0 []) rest AtEnd
      → LeadsTo traces p AtFirst (first_rows (told_first p first) ++ rest) AtEnd
  leads_first None rest later = (InTable 0 [], record { suits = tt; order = refl; right = (tt, tt) }, later)
  leads_first (Some f) rest later = (
    AtBlocks 0,
    record { suits = tt; order = refl; right = (tt, tt) },
    leads_on traces p (AtBlocks 0) (AtBlocks 0) AtEnd (block_rows (blocks_of f.1)) rest (leads_blocks 0 (blocks_of f.1))
        (from_blocks 0 rest later),
  )

  -- the rows behind the first
  abbrev pub behind_head : Trace → List TraceRow
  behind_head t = OpeningRow t.budget t.workers ∷ first_rows (told_first p t.first)
      ++ flat_map (step_rows p) (told_steps p t) ++ PartRow EndRow ∷ []

  pub leads_text : (t : Trace) → All (HasFitting p) t.steps.items → LeadsTo traces p AtOpening (behind_head t) AtEnd
  leads_text t fit =
      let first = first_rows (told_first p t.first) in
      let steps = flat_map (step_rows p) (told_steps p t) in
      let P : List TraceRow → Type 0 = λ rows. LeadsTo traces p AtFirst rows AtEnd in (
        AtFirst,
        record { suits = tt; order = refl; right = (tt, tt) },
        subst P (sym (append_assoc first steps (PartRow EndRow ∷ [])))
            (leads_first t.first (steps ++ PartRow EndRow ∷ [])
            (leads_steps 0 1 (first_plans t.first) t.steps.items fit refl)),
      )
