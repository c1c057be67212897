-- Steps that are read one after another.
use Rattle.std.proofs.Common.{◌≡◌, ℕ, ◌+◌, ◌≤◌, List, [], ◌∷◌, ◌++◌, length, map, refl, sym, ap, ◌∙◌, subst, arith, All, ℤ}
use Rattle.std.specs.Prelude.{flat_map}
use Rattle.std.proofs.lemmas.List.{append-nil, length_push}
use Rattle.std.proofs.lemmas.List.Concat.{flat_map-append}
use Rattle.std.proofs.lemmas.List.Elements.{All-nil, All-push}
use Rattle.vs_types.specs.declared.layer_set.LayerSet.{LayerSet}
use Rattle.vs_types.specs.declared.numbers.TripNo.{TripNo}
use Rattle.vs_instance.specs.Problem.{Problem}
use Rattle.vs_plan.specs.Blocks.{blocks_of}
use Rattle.vs_plan.specs.declared.block.Plan.{Plan}
use Rattle.vs_prices.specs.declared.table.Table.{Table}
use Rattle.vs_reader.specs.declared.input.Input.{Input}
use Rattle.vs_rows.specs.DocumentRows.{BlockRow}
use Rattle.vs_rows.specs.RowForms.{IsInput}
use Rattle.vs_rows.specs.Standing.{BlocksStand}
use Rattle.vs_rows.specs.TableReading.{ReadsTable}
use Rattle.vs_rows.specs.declared.limits.TheConstants.{MAX_NUMBER}
use Rattle.vs_tree.specs.History.{FullStep}
use Rattle.vs_tree.specs.Prices.{prices_of}
use Rattle.vs_trace.specs.TraceRows.{TraceRow, ClosedRow, GaveBackRow, OfferedRow, SplitRow, TookRow, block_rows, priced_rows, step_rows}
use Rattle.vs_trace.specs.Traces.{IsReadStep, plans_behind, steps_from, tables_behind, told_step}
use Rattle.vs_trace.specs.declared.trace.Full.{Full}
use Rattle.vs_trace.specs.declared.trace.Full.TheVariants.{Took, Split, Closed, Offered, GaveBack}
use Rattle.vs_trace.specs.Places.{AtBlocks, AtTable, InTable}
use Rattle.vs_trace.specs.Reading.{IsBlankStep, IsEnd, IsRefusedAt, ReadsOne, ReadsSteps, StandsThere, steps_rows}
use Rattle.vs_trace.specs.declared.refused.TraceError.{TraceError}
use Rattle.vs_trace.specs.declared.refused.TraceError.TheVariants as error
use Rattle.vs_trace.specs.declared.refused.TraceWhy.TheVariants.{EndsEarly}
use Rattle.vs_trace.proofs.PartReading.{blocks_judged, blocks_read, table_read}
use Rattle.vs_trace.proofs.ReadThrough.{passes, stand_further}
use Rattle.vs_rows.specs.RowReading.{LeadTo, SayTo}
use Rattle.vs_rows.proofs.CallerLemmas.{lead_on, leads_one, read_on, reads_none, reads_one, refused_at_the_end, say_on}
use Rattle.vs_trace.specs.TraceRefusals.{traces}

-- how many tables and accepted plans there are behind some steps
abbrev pub tables_after : ℕ → List Full → ℕ
tables_after tables [] = tables
tables_after tables (step ∷ rest) = tables_after (tables_behind tables step) rest

abbrev pub plans_after : ℕ → List Full → ℕ
plans_after plans [] = plans
plans_after plans (step ∷ rest) = plans_after (plans_behind plans step) rest

-- a step behind others
steps_push : (p : Problem) (tables plans : ℕ) (steps : List Full) (step : Full)
    → steps_from p tables plans (steps ++ step ∷ [])
    ≡ steps_from p tables plans steps ++ told_step p (tables_after tables steps) (plans_after plans steps) step ∷ []
steps_push p tables plans [] step = refl
steps_push p tables plans (first ∷ steps) step =
    ap (λ (rest : List FullStep). told_step p tables plans first ∷ rest)
    (steps_push p (tables_behind tables first) (plans_behind plans first) steps step)

tables_push : (tables : ℕ) (steps : List Full) (step : Full)
    → tables_after tables (steps ++ step ∷ []) ≡ tables_behind (tables_after tables steps) step
tables_push tables [] step = refl
tables_push tables (first ∷ steps) step = tables_push (tables_behind tables first) steps step

-- the rows of one step more
rows_push : (input : Input) (tables plans : ℕ) (steps : List Full) (step : Full)
    → steps_rows input tables plans (steps ++ step ∷ [])
    ≡ steps_rows input tables plans steps
    ++ step_rows input.instance (told_step input.instance (tables_after tables steps) (plans_after plans steps) step)
rows_push input tables plans steps step =
    let p = input.instance in
    let told = told_step p (tables_after tables steps) (plans_after plans steps) step in
    ap (flat_map (step_rows p)) (steps_push p tables plans steps step)
    ∙ flat_map-append (step_rows p) (steps_from p tables plans steps) (told ∷ [])
    ∙ ap (λ (rows : List TraceRow). steps_rows input tables plans steps ++ rows) (append-nil (step_rows p told))

-- the steps that are read so far
pub record StepsSoFar (input : Input) (at row before : ℕ) (steps : List Full) : Type 0 where
  pub can_read : All (IsReadStep input.instance) steps
  pub blank : All (IsBlankStep input.instance) steps
  pub few : length steps + at ≤ row
  pub within : row ≤ length input.rest
  pub few_tables : before ≤ MAX_NUMBER
  pub tables_are : before + 1 ≡ tables_after 1 steps
  pub say : (plans : ℕ) → SayTo traces input at (steps_rows input 1 plans steps) row
  pub lead : LeadTo traces input at (InTable 0 []) row (InTable before [])

module _ (input : Input) (at : ℕ) where
  pub steps_none : at ≤ length input.rest → StepsSoFar input at at 0 []
  steps_none within = record {
    can_read = All-nil (IsReadStep input.instance);
    blank = All-nil (IsBlankStep input.instance);
    few = omega arith;
    within = within;
    few_tables = omega arith;
    tables_are = refl;
    say = λ plans. (reads_none traces input at (InTable 0 []) within).say;
    lead = (reads_none traces input at (InTable 0 []) within).lead;
  }

  pub steps_more : (row before next tables : ℕ) (steps new : List Full) (step : Full)
      → StepsSoFar input at row before steps → ReadsOne input row before step next tables
      → new ≡ steps ++ step ∷ [] → StepsSoFar input at next tables new
  steps_more row before next tables steps new step s one pushed =
      let p = input.instance in
      subst (StepsSoFar input at next tables) (sym pushed) (record {
        can_read = All-push (IsReadStep p) steps step s.can_read one.can_read;
        blank = All-push (IsBlankStep p) steps step s.blank one.blank;
        few = omega (arith, s.few, one.further, length_push steps step);
        within = (one.reads 0).say.within;
        few_tables = one.few_tables;
        tables_are = one.tables_are ∙ ap (λ (n : ℕ). tables_behind n step) s.tables_are
            ∙ sym (tables_push 1 steps step);
        say = λ plans.
            let P : ℕ → Type 0 = λ n.
            SayTo traces input row (step_rows p (told_step p n (plans_after plans steps) step)) next in
            let here = subst P s.tables_are (one.reads (plans_after plans steps)).say in
            let Q : List TraceRow → Type 0 = λ said. SayTo traces input at said next in
            subst Q (sym (rows_push input 1 plans steps step))
            (say_on traces input at row next (steps_rows input 1 plans steps)
            (step_rows p (told_step p (tables_after 1 steps) (plans_after plans steps) step)) (s.say plans) here);
        lead = lead_on traces input at row next (InTable 0 []) (InTable before []) (InTable tables []) s.lead
            (one.reads 0).lead;
      })

  pub steps_done : (row before : ℕ) (steps : List Full) → StepsSoFar input at row before steps → IsEnd input row
      → ReadsSteps input at row steps
  steps_done row before steps s end = record {
    can_read = s.can_read;
    blank = s.blank;
    few = s.few;
    say = s.say;
    ends = end;
    tables = before;
    lead = s.lead;
  }

  -- the rows end before `end`
  pub steps_end_early : (row before : ℕ) (steps : List Full) → StepsSoFar input at row before steps
      → length input.rest ≤ row
      → IsRefusedAt input at (InTable 0 []) (error.Refused (input.before + 1 + row) EndsEarly)
  steps_end_early row before steps s past =
      s.lead.refused (input.before + 1 + row) EndsEarly
      (refused_at_the_end traces input row past (InTable before []) (λ e. cc))

module _ (input : Input) (row n : ℕ) (few : n ≤ MAX_NUMBER) where
  -- a step of one row
  pub read_took : (worker spot : ℕ) → StandsThere input row (TookRow worker spot)
      → ReadsOne input row n (Took worker spot) (row + 1) n
  read_took worker spot says = record {
    can_read = tt;
    blank = tt;
    further = omega arith;
    few_tables = few;
    tables_are = refl;
    reads = λ plans. reads_one traces input row says.0 (InTable n []) (TookRow worker spot) says.1 (InTable n [])
        (record { suits = tt; order = refl; right = (tt, tt) });
  }

  pub read_gave_back : (worker spot : ℕ) → StandsThere input row (GaveBackRow worker spot)
      → ReadsOne input row n (GaveBack worker spot) (row + 1) n
  read_gave_back worker spot says = record {
    can_read = tt;
    blank = tt;
    further = omega arith;
    few_tables = few;
    tables_are = refl;
    reads = λ plans. reads_one traces input row says.0 (InTable n []) (GaveBackRow worker spot) says.1 (InTable n [])
        (record { suits = tt; order = refl; right = (tt, tt) });
  }

  -- an offer, with the blocks behind it
  pub read_offered : (worker to : ℕ) (cost : ℤ) (plan : Plan) → IsInput input
      → StandsThere input row (OfferedRow worker cost) → BlocksStand input (row + 1) to (blocks_of plan)
      → ReadsOne input row n (Offered worker cost plan) to n
  read_offered worker to cost plan is says blocks = record {
    can_read = blocks_judged input (row + 1) to (blocks_of plan) blocks is;
    blank = tt;
    further = omega (arith, stand_further input (map BlockRow (blocks_of plan)) (row + 1) to blocks.stand);
    few_tables = few;
    tables_are = refl;
    reads = λ plans. read_on traces input row (row + 1) to (InTable n []) (AtBlocks n) (InTable n [])
        (OfferedRow worker cost ∷ []) (block_rows (blocks_of plan))
        (reads_one traces input row says.0 (InTable n []) (OfferedRow worker cost) says.1 (AtBlocks n)
        (record { suits = tt; order = refl; right = (tt, tt) }))
        (blocks_read input (row + 1) to (blocks_of plan) blocks n);
  }

  -- a closed leaf, and a split one, with the table behind it
  pub read_closed : (worker spot to : ℕ) (table : Table) → StandsThere input row (ClosedRow worker spot)
      → ReadsTable input (row + 1) n to table → ReadsOne input row n (Closed worker spot table) to (n + 1)
  read_closed worker spot to table says is = record {
    can_read = is.fits;
    blank = is.blank;
    further = omega (arith, is.further);
    few_tables = is.number;
    tables_are = refl;
    reads = λ plans. read_on traces input row (row + 1) to (InTable n []) (AtTable n) (InTable (n + 1) [])
        (ClosedRow worker spot ∷ []) (priced_rows input.instance (n + 1) (prices_of table))
        (reads_one traces input row says.0 (InTable n []) (ClosedRow worker spot) says.1 (AtTable n)
        (record { suits = tt; order = refl; right = (tt, tt) }))
        (table_read input (row + 1) n to table is);
  }

  pub read_split : (worker spot to : ℕ) (trip : TripNo) (left : LayerSet) (table : Table)
      → StandsThere input row (SplitRow worker spot trip left) → ReadsTable input (row + 1) n to table
      → ReadsOne input row n (Split worker spot trip left table) to (n + 1)
  read_split worker spot to trip left table says is = record {
    can_read = is.fits;
    blank = is.blank;
    further = omega (arith, is.further);
    few_tables = is.number;
    tables_are = refl;
    reads = λ plans. read_on traces input row (row + 1) to (InTable n []) (AtTable n) (InTable (n + 1) [])
        (SplitRow worker spot trip left ∷ []) (priced_rows input.instance (n + 1) (prices_of table))
        (reads_one traces input row says.0 (InTable n []) (SplitRow worker spot trip left) says.1 (AtTable n)
        (record { suits = tt; order = refl; right = (tt, tt) }))
        (table_read input (row + 1) n to table is);
  }

  -- what is refused in that table
  pub refused_closed : (worker spot : ℕ) (e : TraceError) → StandsThere input row (ClosedRow worker spot)
      → IsRefusedAt input (row + 1) (AtTable n) e → IsRefusedAt input row (InTable n []) e
  refused_closed worker spot e says =
      passes input e (leads_one traces input row says.0 (InTable n []) (ClosedRow worker spot) says.1 (AtTable n)
      (record { suits = tt; order = refl; right = (tt, tt) }))

  pub refused_split : (worker spot : ℕ) (trip : TripNo) (left : LayerSet) (e : TraceError)
      → StandsThere input row (SplitRow worker spot trip left) → IsRefusedAt input (row + 1) (AtTable n) e
      → IsRefusedAt input row (InTable n []) e
  refused_split worker spot trip left e says =
      passes input e
      (leads_one traces input row says.0 (InTable n []) (SplitRow worker spot trip left) says.1 (AtTable n)
      (record { suits = tt; order = refl; right = (tt, tt) }))
