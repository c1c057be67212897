use Rattle.std.proofs.Common.{refl}
use Rattle.vs_document.proofs.rows.RowKinds.{no_other_row, none_weaker}
use Rattle.vs_document.proofs.reading.said.other_said.Goals as goal

pub returns-in-Some-clause-says : goal.returns-in-Some-clause-says
returns-in-Some-clause-says c = c.in-Some.ensures.found c.args.input.now.names

pub returns-in-Some-table-clause-says : goal.returns-in-Some-table-clause-says
returns-in-Some-table-clause-says c = c.in-Some-table.ensures.found c.args.input.now.names

pub returns-then-is_end-clause-says : goal.returns-then-is_end-clause-says
returns-then-is_end-clause-says c = c.if-is_end.ensures.found refl c.args.input.now.names

pub returns-clause-none : goal.returns-clause-none
returns-clause-none c =
    none_weaker _ _ _ c.head_said.ensures.none
    (λ head. no_other_row c.args.input.now.names _ (λ n. c.in_default.ensures.none n c.args.input.now.names)
    c.in_default-split.ensures.none
    (λ n ray. c.in_default-table.ensures.none n ray c.args.input.now.names)
    (c.if-is_end.ensures.none refl c.args.input.now.names) (λ said is. head said is c.args.input.now.names))
