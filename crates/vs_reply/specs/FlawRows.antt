-- The row that says why a document doesn't hold. Blocks, places in a block, tables and positions are printed from 1 on.
use Rattle.std.specs.Prelude.{ℕ, ◌+◌, List, [], ◌∷◌, codes, decimal}
use Rattle.std.specs.Fmt.{signed_decimal}
use Rattle.vs_types.specs.declared.numbers.LayerNo.{LayerNo}
use Rattle.vs_types.specs.declared.numbers.TripNo.{TripNo}
use Rattle.vs_plan.specs.declared.plan_fault.PlanFault.{PlanFault}
use Rattle.vs_plan.specs.declared.plan_fault.PlanFault.TheVariants as fault
use Rattle.vs_prices.specs.declared.broken_at.BrokenAt.{BrokenAt}
use Rattle.vs_prices.specs.declared.broken_at.BrokenAt.TheVariants as broken
use Rattle.vs_check.specs.declared.flaw.Flaw.{Flaw}
use Rattle.vs_check.specs.declared.flaw.Flaw.TheVariants as flaw
use Rattle.vs_reader.specs.Rows.{Field, Row}
use Rattle.vs_reader.specs.Names.{NameLists, name_of}
use Rattle.vs_rows.specs.DocumentRows.{claim_field, number_field}

abbrev pub layer_field : NameLists → LayerNo → Field
layer_field names l = name_of names.layers l.0

abbrev pub trip_field : NameLists → TripNo → Field
trip_field names i = name_of names.trips i.0

abbrev pub position_field : ℕ → Field
position_field k = decimal (k + 1)

abbrev pub fault_fields : NameLists → PlanFault → List Field
fault_fields names (fault.NotPermitted b place) = codes "NotPermitted" ∷ position_field b ∷ position_field place ∷ []
fault_fields names (fault.NoPullOut b) = codes "NoPullOut" ∷ position_field b ∷ []
fault_fields names (fault.NoConnection b place) = codes "NoConnection" ∷ position_field b ∷ position_field place ∷ []
fault_fields names (fault.NoPullIn b) = codes "NoPullIn" ∷ position_field b ∷ []
fault_fields names (fault.Twice i) = codes "Twice" ∷ trip_field names i ∷ []
fault_fields names (fault.Uncovered i) = codes "Uncovered" ∷ trip_field names i ∷ []
fault_fields names (fault.Fleet l count) = codes "Fleet" ∷ layer_field names l ∷ decimal count ∷ []

abbrev pub broken_fields : NameLists → BrokenAt → List Field
broken_fields names (broken.Fleet l) = codes "fleet" ∷ layer_field names l ∷ []
broken_fields names (broken.PullOut l i) = codes "out" ∷ layer_field names l ∷ trip_field names i ∷ []
broken_fields names (broken.Link l i j) =
    codes "link" ∷ layer_field names l ∷ trip_field names i ∷ trip_field names j ∷ []
broken_fields names (broken.PullIn l i) = codes "in" ∷ layer_field names l ∷ trip_field names i ∷ []

-- the flaw's number, its name, and what it names
abbrev pub flaw_fields : NameLists → Flaw → List Field
flaw_fields names (flaw.Plan fault) = codes "1" ∷ fault_fields names fault
flaw_fields names (flaw.CostDiffers printed found) =
    codes "2" ∷ codes "CostDiffers" ∷ signed_decimal printed ∷ signed_decimal found ∷ []
flaw_fields names (flaw.TableBroken t at) = codes "3" ∷ codes "TableBroken" ∷ position_field t ∷ broken_fields names at
flaw_fields names (flaw.BadSplit position) = codes "4" ∷ codes "BadSplit" ∷ position_field position ∷ []
flaw_fields names (flaw.LeafTooWeak position worth bound) =
    codes "5" ∷ codes "LeafTooWeak" ∷ position_field position ∷ signed_decimal worth ∷ number_field bound ∷ []
flaw_fields names (flaw.ClaimDiffers claimed found) =
    codes "6" ∷ codes "ClaimDiffers" ∷ claim_field claimed ∷ claim_field found ∷ []

-- `no` and these
abbrev pub no_row : NameLists → Flaw → Row
no_row names flaw = codes "no" ∷ flaw_fields names flaw
