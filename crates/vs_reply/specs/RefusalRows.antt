-- The rows that tell why words or a text are refused.
use Rattle.std.specs.Prelude.{ℕ, ◌+◌, List, [], ◌∷◌, codes, decimal}
use Rattle.vs_instance.specs.declared.misfit.Misfit.{Misfit}
use Rattle.vs_instance.specs.declared.misfit.Misfit.TheVariants.{Range, TooDear, SelfDeadhead, DeadheadTwice, EndNotAfterStart, NotClosed, LongerMinutes, LongerMetres}
use Rattle.vs_instance.specs.declared.misfit.Field.{Field as RangeField}
use Rattle.vs_instance.specs.declared.misfit.Field.TheVariants.{Fleet, Fixed, PerMinute, PerMetre, Stay, Minutes, Metres}
use Rattle.vs_reader.specs.declared.refused.Refused.{Refused}
use Rattle.vs_reader.specs.declared.refused.Why.{Why}
use Rattle.vs_reader.specs.declared.refused.Why.TheVariants as why
use Rattle.vs_reader.specs.Rows.{Field, Row}
use Rattle.vs_document.specs.declared.refused.DocWhy.{DocWhy}
use Rattle.vs_document.specs.declared.refused.DocWhy.TheVariants as doc
use Rattle.vs_peakcheck.specs.declared.refused.PeakWhy.{PeakWhy}
use Rattle.vs_peakcheck.specs.declared.refused.PeakWhy.TheVariants as peak

abbrev pub misfit_name : Misfit → Field
misfit_name (Range field place) = codes "Range"
misfit_name (TooDear l) = codes "TooDear"
misfit_name (SelfDeadhead n) = codes "SelfDeadhead"
misfit_name (DeadheadTwice n) = codes "DeadheadTwice"
misfit_name (EndNotAfterStart i) = codes "EndNotAfterStart"
misfit_name (NotClosed k s t) = codes "NotClosed"
misfit_name (LongerMinutes k s t) = codes "LongerMinutes"
misfit_name (LongerMetres k s t) = codes "LongerMetres"

-- the number of a refusal, and its name
abbrev pub why_number : Why → ℕ
why_number why.NoHeader = 1
why_number why.UnknownKind = 2
why_number why.FieldCount = 3
why_number why.BadName = 4
why_number why.NameTwice = 5
why_number why.UnknownName = 6
why_number why.BadNumber = 7
why_number why.BadTime = 8
why_number why.TooMany = 9
why_number (why.Misfit misfit) = 10

abbrev pub why_name : Why → Field
why_name why.NoHeader = codes "NoHeader"
why_name why.UnknownKind = codes "UnknownKind"
why_name why.FieldCount = codes "FieldCount"
why_name why.BadName = codes "BadName"
why_name why.NameTwice = codes "NameTwice"
why_name why.UnknownName = codes "UnknownName"
why_name why.BadNumber = codes "BadNumber"
why_name why.BadTime = codes "BadTime"
why_name why.TooMany = codes "TooMany"
why_name (why.Misfit misfit) = misfit_name misfit

abbrev pub range_name : RangeField → Field
range_name Fleet = codes "fleet"
range_name Fixed = codes "fixed"
range_name PerMinute = codes "per_minute"
range_name PerMetre = codes "per_metre"
range_name Stay = codes "stay"
range_name Minutes = codes "minutes"
range_name Metres = codes "metres"

-- the numbers of three stops, counted from 1
abbrev pub stop_fields : ℕ → ℕ → ℕ → List Field
stop_fields k s t = decimal (k + 1) ∷ decimal (s + 1) ∷ decimal (t + 1) ∷ []

abbrev pub misfit_details : Misfit → List Field
misfit_details (Range field place) = range_name field ∷ []
misfit_details (TooDear l) = []
misfit_details (SelfDeadhead n) = []
misfit_details (DeadheadTwice n) = []
misfit_details (EndNotAfterStart i) = []
misfit_details (NotClosed k s t) = stop_fields k.0 s.0 t.0
misfit_details (LongerMinutes k s t) = stop_fields k.0 s.0 t.0
misfit_details (LongerMetres k s t) = stop_fields k.0 s.0 t.0

abbrev pub why_details : Why → List Field
why_details (why.Misfit misfit) = misfit_details misfit
why_details _ = []

-- `refused`, ROW, NUMBER, NAME, and the details of a misfit
abbrev pub refusal_row : Refused → Row
refusal_row refused =
    codes "refused" ∷ decimal refused.row ∷ decimal (why_number refused.why) ∷ why_name refused.why
    ∷ why_details refused.why

-- the number of a refusal of what follows the instance, and its name
abbrev pub document_number : DocWhy → ℕ
document_number doc.NoResult = 20
document_number doc.BadRow = 21
document_number doc.OutOfOrder = 22
document_number doc.TableNumber = 23
document_number doc.EndsEarly = 24
document_number doc.RowsAfterEnd = 25
document_number doc.PriceRange = 26

abbrev pub document_name : DocWhy → Field
document_name doc.NoResult = codes "NoResult"
document_name doc.BadRow = codes "BadRow"
document_name doc.OutOfOrder = codes "OutOfOrder"
document_name doc.TableNumber = codes "TableNumber"
document_name doc.EndsEarly = codes "EndsEarly"
document_name doc.RowsAfterEnd = codes "RowsAfterEnd"
document_name doc.PriceRange = codes "PriceRange"

-- `refused`, ROW, NUMBER, NAME
abbrev pub document_refusal_row : ℕ → DocWhy → Row
document_refusal_row at why =
    codes "refused" ∷ decimal at ∷ decimal (document_number why) ∷ document_name why ∷ []

-- the number of a refusal of what follows the instance as a text of peaks, and its name
abbrev pub peak_number : PeakWhy → ℕ
peak_number peak.NoPeak = 60
peak_number peak.BadRow = 61
peak_number peak.OutOfOrder = 62
peak_number peak.EndsEarly = 63
peak_number peak.RowsAfterEnd = 64
peak_number peak.PriceRange = 65

abbrev pub peak_name : PeakWhy → Field
peak_name peak.NoPeak = codes "NoPeak"
peak_name peak.BadRow = codes "BadRow"
peak_name peak.OutOfOrder = codes "OutOfOrder"
peak_name peak.EndsEarly = codes "EndsEarly"
peak_name peak.RowsAfterEnd = codes "RowsAfterEnd"
peak_name peak.PriceRange = codes "PriceRange"

-- `refused`, ROW, NUMBER, NAME
abbrev pub peak_refusal_row : ℕ → PeakWhy → Row
peak_refusal_row at why = codes "refused" ∷ decimal at ∷ decimal (peak_number why) ∷ peak_name why ∷ []

-- the row that refuses a search of too many nodes for the instance
abbrev pub too_large_row : Row
too_large_row = codes "refused" ∷ decimal 0 ∷ decimal 40 ∷ codes "TooLarge" ∷ []

-- the row that tells the first bad word
abbrev pub words_row : ℕ → Row
words_row n = codes "words" ∷ decimal n ∷ []
