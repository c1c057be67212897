-- Which row comes next in a trace.
use Rattle.std.specs.Prelude.{◌≡◌, ℕ, ◌+◌, ◌==◌, ◌&&◌, if◌then◌else◌, List, [], ◌∷◌, Option, Some, None}
use Rattle.vs_instance.specs.Problem.{Problem}
use Rattle.vs_rows.specs.DocumentRows.{BlockRow, EndRow, FleetRow, PriceRow, TableRow}
use Rattle.vs_rows.specs.PriceOrder.{HasPrices, PriceOf, Trip, Vehicle, prices_of}
use Rattle.vs_trace.specs.TraceRows.{TraceRow, ClosedRow, FirstRow, GaveBackRow, OfferedRow, OpeningRow, PartRow, SplitRow, TookRow}

-- a place between two rows
pub data Place : Type 0 where
  -- before the opening, and before the first plan's cost
  AtOpening : Place
  AtFirst : Place
  -- behind so many tables, before a block, a step or the end
  AtBlocks : ℕ → Place
  -- behind so many tables, before the table of a step
  AtTable : ℕ → Place
  -- in the table of this number, of which these rows of prices are still to come; where none are, before a step or the
  -- end
  InTable : ℕ → List PriceOf → Place
  -- behind `end`
  AtEnd : Place

-- how many tables stand before the place, with the one in which it lies
abbrev pub tables_before : Place → ℕ
tables_before (AtBlocks n) = n
tables_before (AtTable n) = n
tables_before (InTable n prices) = n
tables_before _ = 0

-- the place behind a step or the end that comes behind so many tables
abbrev pub behind_step : ℕ → TraceRow → Option Place
behind_step n (TookRow worker spot) = Some (InTable n [])
behind_step n (SplitRow worker spot trip left) = Some (AtTable n)
behind_step n (ClosedRow worker spot) = Some (AtTable n)
behind_step n (OfferedRow worker cost) = Some (AtBlocks n)
behind_step n (GaveBackRow worker spot) = Some (InTable n [])
behind_step n (PartRow EndRow) = Some AtEnd
behind_step n _ = None

-- the same where a block may come too
abbrev pub behind_blocks : ℕ → TraceRow → Option Place
behind_blocks n (PartRow (BlockRow b)) = Some (AtBlocks n)
behind_blocks n said = behind_step n said

-- blocks stand behind a cost alone
abbrev pub behind_first : TraceRow → Option Place
behind_first (FirstRow (Some cost)) = Some (AtBlocks 0)
behind_first (FirstRow None) = Some (InTable 0 [])
behind_first _ = None

abbrev pub behind_kind : Problem → ℕ → TraceRow → Option Place
behind_kind p n (PartRow (TableRow number ray)) = Some (InTable (n + 1) (prices_of p))
behind_kind p n _ = None

-- where this row of prices comes next in table n, and these after it
abbrev pub behind_price : ℕ → PriceOf → List PriceOf → TraceRow → Option Place
behind_price n (Vehicle l) prices (PartRow (FleetRow layer price)) =
    if l == layer then Some (InTable n prices) else None
behind_price n (Trip l i) prices (PartRow (PriceRow layer trip into from)) =
    if (l == layer) && (i == trip) then Some (InTable n prices) else None
behind_price n _ _ _ = None

abbrev pub behind_opening : TraceRow → Option Place
behind_opening (OpeningRow budget workers) = Some AtFirst
behind_opening _ = None

-- the place behind a row that may come at this place; none where another has to come
abbrev pub behind : Problem → Place → TraceRow → Option Place
behind p AtOpening said = behind_opening said
behind p AtFirst said = behind_first said
behind p (AtBlocks n) said = behind_blocks n said
behind p (AtTable n) said = behind_kind p n said
behind p (InTable n []) said = behind_step n said
behind p (InTable n (price ∷ prices)) said = behind_price n price prices said
behind p AtEnd said = None

-- a table has the number that comes next
abbrev pub HasNumber : Place → TraceRow → Type 0
HasNumber place (PartRow (TableRow number ray)) = number ≡ tables_before place + 1
HasNumber place said = Unit {0}

-- what is given for a price is one
abbrev pub GivesPrices : TraceRow → Type 0
GivesPrices (PartRow said) = HasPrices said
GivesPrices said = Unit {0}
