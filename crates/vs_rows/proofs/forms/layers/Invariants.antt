use Rattle.std.proofs.Common.{◌-◌, take, drop}
use Rattle.vs_reader.specs.Rows.{row_of}
use Rattle.vs_rows.specs.RowForms.{NameSet}
use Rattle.vs_rows.proofs.forms.layers.Given as goal

abbrev pub invariant-loop-k : goal.invariant-loop-k
invariant-loop-k l =
    NameSet l.input.names.layers (take (l.k - l.from) (drop l.from (row_of l.input.rest l.row))) l.left
