-- Rows of a trace, as they are written, say what they are to say.
use Rattle.std.proofs.Common.{ℕ, ◌<◌, ◌≤◌, List, [], ◌∷◌, length, map, refl, subst, arith, pos}
use Rattle.std.specs.Prelude.{flat_map, ◌==◌, All}
use Rattle.std.specs.List.{range_with_len}
use Rattle.std.specs.Int.{bit_at}
use Rattle.std.proofs.lemmas.List.Elements.{All-cons, All-filter, All-head, All-map, All-nil, All-tail, All-weaker}
use Rattle.vs_types.specs.LayerSet.{members}
use Rattle.vs_types.specs.declared.layer_set.LayerSet.{LayerSet}
use Rattle.vs_types.specs.declared.numbers.TripNo.{TripNo}
use Rattle.vs_instance.specs.Instance.{IsInstance}
use Rattle.vs_instance.specs.Plan.{LayerBlock, plan_cost}
use Rattle.vs_instance.specs.Problem.{Problem}
use Rattle.vs_instance.specs.Ways.{trip_of}
use Rattle.vs_instance.proofs.CallerLemmas.{All-numbers}
use Rattle.vs_plan.specs.CheckedPlan.{Checked, IsChecked}
use Rattle.vs_prices.specs.Table.{Fits, from_price, into_price, vehicle_price}
use Rattle.vs_prices.specs.declared.table.Table.{Table}
use Rattle.vs_reader.specs.Names.{HaveCounts, NameLists}
use Rattle.vs_rows.specs.DocumentRows.{BlockRow, DocumentRow, FleetRow, IsBetween, IsNamedBlock, PriceRow, TableRow, layer_rows, permitted_trips, table_rows}
use Rattle.vs_rows.specs.declared.limits.TheConstants.{MAX_COST, MAX_NUMBER}
use Rattle.vs_rows.proofs.CallerLemmas.{price_anywhere, prices_in_all, all_below, members_are, printed, checked_cost}
use Rattle.vs_tree.specs.Prices.{AreLawful, Prices}
use Rattle.vs_trace.specs.TraceRows.{AreNumbers, IsSplitForm, PartRow, SayAllSo, SaysSo, SplitRow, TraceRow, block_rows, part_row, parts, priced_rows, written_trace, written_traces}

-- the row, as it is written, says that
abbrev pub IsSaid : NameLists → TraceRow → Type 0
IsSaid names said = SaysSo names (written_trace names said) said

pub say_all : (names : NameLists) (said : List TraceRow) → All (IsSaid names) said
    → SayAllSo names (written_traces names said) said
say_all names [] all = tt
say_all names (row ∷ said) all =
    (All-head (IsSaid names) row said all, say_all names said (All-tail (IsSaid names) row said all))

pub checked_between : (plan : Checked) → IsChecked plan → IsBetween (pos 0) MAX_COST plan.cost
checked_between plan is = checked_cost (plan_cost plan.problem plan.blocks) plan.cost is.cost is.limit

pub blocks_said : (names : NameLists) (blocks : List LayerBlock) → All (IsNamedBlock names) blocks
    → All (IsSaid names) (block_rows blocks)
blocks_said names [] named = All-nil (IsSaid names)
blocks_said names (b ∷ blocks) named =
    All-cons (IsSaid names) (PartRow (BlockRow b)) (block_rows blocks)
    (tt, record { form = All-head (IsNamedBlock names) b blocks named; written = refl })
    (blocks_said names blocks (All-tail (IsNamedBlock names) b blocks named))

module _ (p : Problem) (names : NameLists) (instance : IsInstance p) (counts : HaveCounts p names) where
  abbrev IsSaidPart : DocumentRow → Type 0
  IsSaidPart said = IsSaid names (PartRow said)

  parts_said : (said : List DocumentRow) → All IsSaidPart said → All (IsSaid names) (parts said)
  parts_said said all = All-map (IsSaid names) part_row said all

  -- the rows of a layer of a table
  layer_said : (table : Table) (l : ℕ) → Fits p table → l < length p.layers → All IsSaidPart (layer_rows p table l)
  layer_said table l fits within =
      let layer : l < length names.layers = omega (arith, counts.layers) in
      let price : ℕ → DocumentRow = λ i. PriceRow l i (into_price p table l i) (from_price p table l i) in
      let numbers = range_with_len 0 (length p.trips) in
      let permitted : All (λ i. i < length p.trips) (permitted_trips p l) =
      All-filter (λ i. bit_at (trip_of p i).layers.0 l == 1) (λ i. i < length p.trips) numbers (all_below
      (length p.trips)) in
      All-cons IsSaidPart (FleetRow l (vehicle_price table l)) (map price (permitted_trips p l))
      (tt, record { form = (layer, printed _ (price_anywhere table.fleet.items l fits.fleet)); written = refl })
      (All-map IsSaidPart price (permitted_trips p l)
      (All-weaker (λ i. i < length p.trips) (λ i. IsSaidPart (price i))
      (λ i inside. (
        tt,
        record {
          form = (
            layer,
            omega (arith, counts.trips),
            printed _ (price_anywhere _ i (prices_in_all p l table.into.items fits.into)),
            printed _ (price_anywhere _ i (prices_in_all p l table.from.items fits.from)),
          );
          written = refl;
        },
      ))
      (permitted_trips p l) permitted))

  table_said : (number : ℕ) (table : Table) → number ≤ MAX_NUMBER → Fits p table
      → All IsSaidPart (table_rows p (number, table))
  table_said number table few fits =
      All-cons IsSaidPart (TableRow number table.ray) (flat_map (layer_rows p table) (range_with_len 0
      (length p.layers)))
      (tt, record { form = few; written = refl })
      (All-numbers IsSaidPart (layer_rows p table) 0 (length p.layers)
      (λ l _ within. layer_said table l fits (omega arith)))

  -- those of a table of lawful prices
  pub prices_said : (number : ℕ) (prices : Prices) → number ≤ MAX_NUMBER → AreLawful p prices
      → All (IsSaid names) (priced_rows p number prices)
  prices_said number prices few lawful =
      subst (λ (x : Prices). All (IsSaid names) (priced_rows p number x)) lawful.listed
      (parts_said (table_rows p (number, lawful.table)) (table_said number lawful.table few lawful.fits))

  -- a split
  pub split_said : (worker spot : ℕ) (trip : TripNo) (left : LayerSet) → AreNumbers worker spot
      → IsSplitForm names trip left → IsSaid names (SplitRow worker spot trip left)
  split_said worker spot trip left numbers form = record {
    numbers = numbers;
    form = form;
    layers = members left;
    layers_are = members_are left (length names.layers) (omega (arith, counts.layers, instance.few_layers))
        form.layers_are;
    written = refl;
  }
