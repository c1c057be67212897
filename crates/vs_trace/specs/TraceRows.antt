-- The rows of a trace: what each says, and how it is written.
use Rattle.std.specs.Prelude.{◌≡◌, ◌≢◌, ℕ, ◌+◌, ◌<◌, ◌≤◌, List, [], ◌∷◌, ◌++◌, length, map, flat_map, codes, decimal, ℤ, pos, Option, Some, None, IfSome}
use Rattle.std.specs.Fmt.{signed_decimal}
use Rattle.std.specs.List.{AllZip}
use Rattle.vs_types.specs.LayerSet.{Has, members}
use Rattle.vs_types.specs.declared.layer_set.LayerSet.{LayerSet}
use Rattle.vs_types.specs.declared.numbers.TripNo.{TripNo}
use Rattle.vs_instance.specs.Plan.{LayerBlock}
use Rattle.vs_instance.specs.Problem.{Problem}
use Rattle.vs_instance.specs.declared.limits.TheConstants.{MAX_BUDGET, MAX_WORKERS}
use Rattle.vs_plan.specs.CheckedPlan.{Checked}
use Rattle.vs_reader.specs.Names.{NameLists, name_of}
use Rattle.vs_reader.specs.Rows.{Row, row_of}
use Rattle.vs_reader.specs.declared.input.Input.{Input}
use Rattle.vs_rows.specs.DocumentRows.{DocumentRow, BlockRow, EndRow, FleetRow, PriceRow, TableRow, AreLayersOf, IsBetween, Says, number_field, written_row}
use Rattle.vs_rows.specs.declared.limits.TheConstants.{MAX_COST}
use Rattle.vs_tree.specs.History as full
use Rattle.vs_tree.specs.History.{FullStep, Opening}
use Rattle.vs_tree.specs.Prices.{Prices}
use Rattle.vs_cert.specs.TreeText.{prices_rows}
use Rattle.vs_trace.specs.declared.limits.TheConstants.{MAX_SPOTS}

-- what one row says; workers and spots are numbered from 0, as in a search
pub data TraceRow : Type 0 where
  HeadRow : TraceRow
  -- how many leaves may be worked on, and how many workers there are
  OpeningRow : ℕ → ℕ → TraceRow
  -- what the first plan costs, none where there is none
  FirstRow : Option ℤ → TraceRow
  -- the worker, and the spot
  TookRow : ℕ → ℕ → TraceRow
  -- the worker, the spot, the trip, and its layers on the left
  SplitRow : ℕ → ℕ → TripNo → LayerSet → TraceRow
  -- the worker, and the spot
  ClosedRow : ℕ → ℕ → TraceRow
  -- the worker, and what its plan costs
  OfferedRow : ℕ → ℤ → TraceRow
  -- the worker, and the spot
  GaveBackRow : ℕ → ℕ → TraceRow
  -- a row of a plan or of a table, or the end, as in a document
  PartRow : DocumentRow → TraceRow

-- the first row
abbrev pub head_row : Row
head_row = codes "result" ∷ codes "1" ∷ codes "trace" ∷ []

-- a kind of step, and its worker and its spot, both counted from 1
abbrev pub spot_row : List ℕ → ℕ → ℕ → Row
spot_row kind worker spot = kind ∷ decimal (worker + 1) ∷ decimal (spot + 1) ∷ []

abbrev pub split_row : NameLists → ℕ → ℕ → TripNo → List ℕ → Row
split_row names worker spot trip layers =
    spot_row (codes "split") worker spot ++ name_of names.trips trip.0 ∷ map (name_of names.layers) layers

abbrev pub offered_row : ℕ → ℤ → Row
offered_row worker cost = codes "offered" ∷ decimal (worker + 1) ∷ signed_decimal cost ∷ []

-- the row as it is written, where a split's layers stand in number order
abbrev pub written_trace : NameLists → TraceRow → Row
written_trace names HeadRow = head_row
written_trace names (OpeningRow budget workers) = codes "opening" ∷ decimal budget ∷ decimal workers ∷ []
written_trace names (FirstRow cost) = codes "first" ∷ number_field cost ∷ []
written_trace names (TookRow worker spot) = spot_row (codes "took") worker spot
written_trace names (SplitRow worker spot trip left) = split_row names worker spot trip (members left)
written_trace names (ClosedRow worker spot) = spot_row (codes "closed") worker spot
written_trace names (OfferedRow worker cost) = offered_row worker cost
written_trace names (GaveBackRow worker spot) = spot_row (codes "gaveback") worker spot
written_trace names (PartRow said) = written_row names said

-- the numbers of a worker and of a spot
pub record AreNumbers (worker spot : ℕ) : Type 0 where
  pub worker_is : worker < MAX_WORKERS
  pub spot_is : spot < MAX_SPOTS

pub record IsOpeningForm (budget workers : ℕ) : Type 0 where
  pub few_leaves : budget ≤ MAX_BUDGET
  pub some_workers : 0 < workers
  pub few_workers : workers ≤ MAX_WORKERS

-- a trip and some layers that have names
pub record IsSplitForm (names : NameLists) (trip : TripNo) (left : LayerSet) : Type 0 where
  pub trip_is : trip.0 < length names.trips
  pub some_layer : members left ≢ []
  pub layers_are : (l : ℕ) → Has left l → l < length names.layers

-- of a document's rows a block, the rows of a table, and the end
abbrev pub IsPart : DocumentRow → Type 0
IsPart (BlockRow b) = Unit {0}
IsPart (TableRow number ray) = Unit {0}
IsPart (FleetRow l price) = Unit {0}
IsPart (PriceRow l i into from) = Unit {0}
IsPart EndRow = Unit {0}
IsPart _ = ⊥

-- the row is that of a split; its layers may stand in any order
pub record IsSplitRow (names : NameLists) (row : Row) (worker spot : ℕ) (trip : TripNo) (left : LayerSet) : Type 0
  where
    pub numbers : AreNumbers worker spot
    pub form : IsSplitForm names trip left
    pub layers : List ℕ
    pub layers_are : AreLayersOf left layers
    pub written : row ≡ split_row names worker spot trip layers

-- the row is that of an offer
pub record IsOfferedRow (row : Row) (worker : ℕ) (cost : ℤ) : Type 0 where
  pub worker_is : worker < MAX_WORKERS
  pub cost_is : IsBetween (pos 0) MAX_COST cost
  pub written : row ≡ offered_row worker cost

-- the row says this: each name in it is declared, each number within the range of its kind, and it is written so
abbrev pub SaysSo : NameLists → Row → TraceRow → Type 0
SaysSo names row (OpeningRow budget workers) =
    IsOpeningForm budget workers × (row ≡ written_trace names (OpeningRow budget workers))
SaysSo names row (FirstRow cost) =
    IfSome cost (IsBetween (pos 0) MAX_COST) × (row ≡ written_trace names (FirstRow cost))
SaysSo names row (TookRow worker spot) = AreNumbers worker spot × (row ≡ written_trace names (TookRow worker spot))
SaysSo names row (SplitRow worker spot trip left) = IsSplitRow names row worker spot trip left
SaysSo names row (ClosedRow worker spot) =
    AreNumbers worker spot × (row ≡ written_trace names (ClosedRow worker spot))
SaysSo names row (OfferedRow worker cost) = IsOfferedRow row worker cost
SaysSo names row (GaveBackRow worker spot) =
    AreNumbers worker spot × (row ≡ written_trace names (GaveBackRow worker spot))
SaysSo names row (PartRow said) = IsPart said × Says names row said
SaysSo names row HeadRow = row ≡ head_row

abbrev pub SaysTrace : Input → ℕ → TraceRow → Type 0
SaysTrace input k said = SaysSo input.names (row_of input.rest k) said

-- the rows say these, one by one
abbrev pub SayAllSo : NameLists → List Row → List TraceRow → Type 0
SayAllSo names rows said = AllZip (SaysSo names) rows said

abbrev pub part_row : DocumentRow → TraceRow
part_row said = PartRow said

-- rows of a document as rows of a trace
abbrev pub parts : List DocumentRow → List TraceRow
parts said = map part_row said

abbrev pub block_rows : List LayerBlock → List TraceRow
block_rows blocks = parts (map BlockRow blocks)

-- the rows of a table of these prices, with its number
abbrev pub priced_rows : Problem → ℕ → Prices → List TraceRow
priced_rows p number prices = parts (prices_rows p (number, prices))

abbrev pub opening_rows : Opening → List TraceRow
opening_rows o = HeadRow ∷ OpeningRow o.budget o.workers ∷ []

abbrev pub first_rows : Option Checked → List TraceRow
first_rows None = FirstRow None ∷ []
first_rows (Some plan) = FirstRow (Some plan.cost) ∷ block_rows plan.blocks

-- an offer is told where its plan was accepted
abbrev pub offered_rows : ℕ → ℤ → Option Checked → List TraceRow
offered_rows worker cost None = []
offered_rows worker cost (Some plan) = OfferedRow worker cost ∷ block_rows plan.blocks

-- a step, with the table or the plan that it adds
abbrev pub step_rows : Problem → FullStep → List TraceRow
step_rows p (full.Took worker leaf) = TookRow worker leaf ∷ []
step_rows p (full.Split worker leaf table trip left prices) =
    SplitRow worker leaf trip left ∷ priced_rows p table prices
step_rows p (full.Closed worker leaf table prices) = ClosedRow worker leaf ∷ priced_rows p table prices
step_rows p (full.Offered worker cost number added) = offered_rows worker cost added
step_rows p (full.GaveBack worker leaf) = GaveBackRow worker leaf ∷ []

-- the opening, the first plan, the steps, and `end`
abbrev pub trace_rows : Opening → List FullStep → List TraceRow
trace_rows o steps =
    opening_rows o ++ first_rows o.first ++ flat_map (step_rows o.problem) steps ++ PartRow EndRow ∷ []

-- the rows as they are written
abbrev pub written_traces : NameLists → List TraceRow → List Row
written_traces names said = map (written_trace names) said

abbrev pub trace_text : NameLists → Opening → List FullStep → List Row
trace_text names o steps = written_traces names (trace_rows o steps)
