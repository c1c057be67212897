-- The rows of `replay` that are no document.
use Rattle.std.specs.Prelude.{ℕ, [], ◌∷◌, codes, decimal}
use Rattle.vs_reader.specs.Rows.{Field, Row}
use Rattle.vs_trace.specs.declared.refused.TraceWhy.{TraceWhy}
use Rattle.vs_trace.specs.declared.refused.TraceWhy.TheVariants as trace

-- the number of a refusal of what follows the instance as a trace, and its name
abbrev pub trace_number : TraceWhy → ℕ
trace_number trace.NoTrace = 50
trace_number trace.BadRow = 51
trace_number trace.OutOfOrder = 52
trace_number trace.TableNumber = 53
trace_number trace.EndsEarly = 54
trace_number trace.RowsAfterEnd = 55
trace_number trace.PriceRange = 56

abbrev pub trace_name : TraceWhy → Field
trace_name trace.NoTrace = codes "NoTrace"
trace_name trace.BadRow = codes "BadRow"
trace_name trace.OutOfOrder = codes "OutOfOrder"
trace_name trace.TableNumber = codes "TableNumber"
trace_name trace.EndsEarly = codes "EndsEarly"
trace_name trace.RowsAfterEnd = codes "RowsAfterEnd"
trace_name trace.PriceRange = codes "PriceRange"

-- `refused`, ROW, NUMBER, NAME
abbrev pub trace_refusal_row : ℕ → TraceWhy → Row
trace_refusal_row at why = codes "refused" ∷ decimal at ∷ decimal (trace_number why) ∷ trace_name why ∷ []

-- `no`, 7, `NotAStep`, and the first step that may not come
abbrev pub not_a_step_row : ℕ → Row
not_a_step_row step = codes "no" ∷ codes "7" ∷ codes "NotAStep" ∷ decimal step ∷ []
