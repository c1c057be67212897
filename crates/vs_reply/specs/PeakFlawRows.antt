-- The row that says why a text of peaks doesn't hold. The instance that counts a layer's vehicles numbers its own
-- trips: here they have the names of the whole instance.
use Rattle.std.specs.Prelude.{ℕ, List, [], ◌∷◌, codes, decimal, slice_index_or}
use Rattle.std.specs.Fmt.{signed_decimal}
use Rattle.vs_types.specs.declared.numbers.LayerNo.{LayerNo}
use Rattle.vs_types.specs.declared.numbers.TripNo.{TripNo}
use Rattle.vs_plan.specs.declared.plan_fault.PlanFault.{PlanFault}
use Rattle.vs_plan.specs.declared.plan_fault.PlanFault.TheVariants as fault
use Rattle.vs_prices.specs.declared.broken_at.BrokenAt.{BrokenAt}
use Rattle.vs_prices.specs.declared.broken_at.BrokenAt.TheVariants as broken
use Rattle.vs_check.specs.Flaws.{IsBreakWithin, IsFaultWithin}
use Rattle.vs_peakcheck.specs.declared.flaw.PeakFlaw.{PeakFlaw}
use Rattle.vs_peakcheck.specs.declared.flaw.PeakFlaw.TheVariants.{Blocks, CountDiffers, TableBroken, TooWeak}
use Rattle.vs_peakcheck.specs.PeakRows.{count_field}
use Rattle.vs_reader.specs.Rows.{Field, Row}
use Rattle.vs_reader.specs.Names.{NameLists}
use Rattle.vs_reply.specs.FlawRows.{broken_fields, fault_fields, layer_field}

-- trip k of those that the layer may run
abbrev pub own_trip : List TripNo → TripNo → TripNo
own_trip trips k = slice_index_or trips k.0 k

-- of the only layer and of its trips, said of layer l
abbrev pub own_fault : LayerNo → List TripNo → PlanFault → PlanFault
own_fault l trips (fault.Twice k) = fault.Twice (own_trip trips k)
own_fault l trips (fault.Uncovered k) = fault.Uncovered (own_trip trips k)
own_fault l trips (fault.Fleet only count) = fault.Fleet l count
own_fault l trips (fault.NotPermitted b place) = fault.NotPermitted b place
own_fault l trips (fault.NoPullOut b) = fault.NoPullOut b
own_fault l trips (fault.NoConnection b place) = fault.NoConnection b place
own_fault l trips (fault.NoPullIn b) = fault.NoPullIn b

abbrev pub own_break : LayerNo → List TripNo → BrokenAt → BrokenAt
own_break l trips (broken.Fleet only) = broken.Fleet l
own_break l trips (broken.PullOut only i) = broken.PullOut l (own_trip trips i)
own_break l trips (broken.Link only i j) = broken.Link l (own_trip trips i) (own_trip trips j)
own_break l trips (broken.PullIn only i) = broken.PullIn l (own_trip trips i)

-- the flaw names the only layer and trips of its own
abbrev pub IsPeakFlawWithin : ℕ → PeakFlaw → Type 0
IsPeakFlawWithin trips (Blocks fault) = IsFaultWithin 1 trips fault
IsPeakFlawWithin trips (CountDiffers claimed found) = Unit {0}
IsPeakFlawWithin trips (TableBroken at) = IsBreakWithin 1 trips at
IsPeakFlawWithin trips (TooWeak worth count) = Unit {0}

-- the flaw's number, its name, the layer, which may run these trips, and what the flaw names
abbrev pub peak_flaw_fields : NameLists → LayerNo → List TripNo → PeakFlaw → List Field
peak_flaw_fields names l trips (Blocks fault) =
    codes "8" ∷ codes "Blocks" ∷ layer_field names l ∷ fault_fields names (own_fault l trips fault)
peak_flaw_fields names l trips (CountDiffers claimed found) =
    codes "9" ∷ codes "CountDiffers" ∷ layer_field names l ∷ decimal claimed ∷ decimal found ∷ []
peak_flaw_fields names l trips (TableBroken at) =
    codes "10" ∷ codes "TableBroken" ∷ layer_field names l ∷ broken_fields names (own_break l trips at)
peak_flaw_fields names l trips (TooWeak worth count) =
    codes "11" ∷ codes "TooWeak" ∷ layer_field names l ∷ signed_decimal worth ∷ count_field count ∷ []

-- `no` and these
abbrev pub no_peak_row : NameLists → LayerNo → List TripNo → PeakFlaw → Row
no_peak_row names l trips flaw = codes "no" ∷ peak_flaw_fields names l trips flaw
