-- Blocks, first plans and tables that are read.
use Rattle.std.proofs.Common.{◌≡◌, ℕ, ◌+◌, ◌≤◌, List, [], ◌∷◌, length, map, take, drop, refl, sym, ap, ◌∙◌, arith, ℤ, Option, Some, None}
use Rattle.std.proofs.lemmas.List.{drop_more, length-append, length-map, take-append-drop}
use Rattle.std.proofs.lemmas.List.Concat.{flat_map-append}
use Rattle.vs_types.specs.declared.numbers.TripNo.{TripNo}
use Rattle.vs_instance.specs.Problem.{Problem}
use Rattle.vs_instance.specs.Plan.{LayerBlock, all_trips}
use Rattle.vs_plan.specs.Blocks.{CanBeJudged, blocks_of}
use Rattle.vs_plan.specs.declared.block.Plan.{Plan}
use Rattle.vs_prices.specs.declared.table.Table.{Table}
use Rattle.vs_reader.specs.Names.{name_of}
use Rattle.vs_reader.specs.Rows.{Row, all_fields, row_of}
use Rattle.vs_reader.specs.declared.input.Input.{Input}
use Rattle.vs_rows.specs.DocumentRows.{BlockRow, table_rows}
use Rattle.vs_rows.specs.RowForms.{IsInput}
use Rattle.vs_rows.specs.Standing.{BlocksStand, StandFrom}
use Rattle.vs_rows.specs.TableReading.{ReadsTable}
use Rattle.vs_tree.specs.Prices.{prices_of}
use Rattle.vs_trace.specs.TraceRows.{FirstRow, block_rows, priced_rows}
use Rattle.vs_trace.specs.Places.{AtBlocks, AtFirst, AtTable, InTable, behind}
use Rattle.vs_trace.specs.Reading.{ReadsCost, ReadsFirst, behind_cost}
use Rattle.vs_trace.proofs.AcceptedRows.{leads_blocks, leads_table}
use Rattle.vs_trace.proofs.ReadThrough.{reads_through, stand_further}
use Rattle.vs_rows.specs.RowReading.{ReadsTo}
use Rattle.vs_rows.proofs.CallerLemmas.{lead_on, read_on}
use Rattle.vs_trace.specs.TraceRefusals.{traces}
use Rattle.vs_trace.proofs.SamePlaces.{blocks_end}

-- where blocks stand behind the first cost, or not
pub first_order : (p : Problem) (cost : Option ℤ) → behind p AtFirst (FirstRow cost) ≡ Some (behind_cost cost)
first_order p None = refl
first_order p (Some cost) = refl

module _ (input : Input) where
  -- no more trips stand in blocks than there are fields from their first row on
  trips_in_fields : (blocks : List LayerBlock) (at to : ℕ) → StandFrom input at (map BlockRow blocks) to
      → length (all_trips blocks) ≤ length (all_fields (drop at input.rest))
  trips_in_fields [] at to stand = omega arith
  trips_in_fields (b ∷ blocks) at to stand =
      let row = row_of input.rest at in
      omega (
        arith,
        ap length stand.1.written,
        length-map b.1 (λ (t : TripNo). name_of input.names.trips t.0),
        trips_in_fields blocks (at + 1) to stand.2,
        length-append b.1 (all_trips blocks),
        ap (λ (rows : List Row). length (all_fields rows)) (drop_more input.rest at [] stand.0),
        length-append row (all_fields (drop (at + 1) input.rest)),
      )

  -- all rows have no fewer fields than the last of them
  fields_all : (at : ℕ) → length (all_fields (drop at input.rest)) ≤ length (all_fields input.rest)
  fields_all at =
      let whole : length (all_fields input.rest)
      ≡ length (all_fields (take at input.rest)) + length (all_fields (drop at input.rest)) =
      ap (λ (rows : List Row). length (all_fields rows)) (sym (take-append-drop at input.rest))
      ∙ ap length (flat_map-append (λ (r : Row). r) (take at input.rest) (drop at input.rest))
      ∙ length-append (all_fields (take at input.rest)) (all_fields (drop at input.rest)) in
      omega (arith, whole)

  module _ (at to : ℕ) (blocks : List LayerBlock) (are : BlocksStand input at to blocks) where
    pub blocks_judged : IsInput input → CanBeJudged input.instance blocks
    blocks_judged is = record {
      of_instance = are.of_instance;
      few_trips = omega (arith, trips_in_fields blocks at to are.stand, fields_all at, is.counted.few_fields);
    }

    -- behind blocks a step comes, or the end
    pub blocks_read : (n : ℕ) → ReadsTo traces input at (AtBlocks n) (block_rows blocks) to (InTable n [])
    blocks_read n =
        let read = reads_through input (map BlockRow blocks) (AtBlocks n) (AtBlocks n) at to
        (leads_blocks input.instance n blocks) are.stand in
        record {
          say = read.say;
          lead = lead_on traces input at to to (AtBlocks n) (AtBlocks n) (InTable n []) read.lead
              (blocks_end input to n are.ends);
        }

  -- no first plan, or one with its blocks
  pub first_none : ReadsCost input None → ReadsFirst input 3 None
  first_none told = record { can_judge = tt; further = omega arith; reads = told }

  pub first_some : (cost : ℤ) (plan : Plan) (to : ℕ) → IsInput input → ReadsCost input (Some cost)
      → BlocksStand input 3 to (blocks_of plan) → ReadsFirst input to (Some (cost, plan))
  first_some cost plan to is told blocks = record {
    can_judge = blocks_judged 3 to (blocks_of plan) blocks is;
    further = stand_further input (map BlockRow (blocks_of plan)) 3 to blocks.stand;
    reads = read_on traces input 2 3 to AtFirst (AtBlocks 0) (InTable 0 []) (FirstRow (Some cost) ∷ [])
        (block_rows (blocks_of plan)) told (blocks_read 3 to (blocks_of plan) blocks 0);
  }

  pub table_read : (at n to : ℕ) (table : Table) → ReadsTable input at n to table
      → ReadsTo traces input at (AtTable n) (priced_rows input.instance (n + 1) (prices_of table)) to
      (InTable (n + 1) [])
  table_read at n to table is =
      reads_through input (table_rows input.instance (n + 1, table)) (AtTable n) (InTable (n + 1) []) at to
      (leads_table input.instance table n is.fits) is.stand
