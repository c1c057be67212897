use Rattle.std.proofs.Common.{ap, arith}
use Rattle.std.proofs.lemmas.Result.{err_from_is_err_and}
use Rattle.vs_reader.specs.Rows.{Row}
use Rattle.vs_reader.specs.RowEnds.{row_weight}
use Rattle.vs_reader.proofs.texts.TextLemmas.{has_rows, one_reading, text_none, text_refused, weight_of-rows}
use Rattle.vs_reader.proofs.reading.read_instance.Goals as goal

pub read_head-requires : goal.read_head-requires
read_head-requires c =
    let all = has_rows c.args.bytes.now in
    record {
      rows = all.0;
      left = c.new-records.ensures.left all.0 all.1;
      few = omega (
        arith,
        weight_of-rows c.args.bytes.now all.0 all.1,
        c.requires,
        ap (λ (row : Row). row_weight row) c.new-records.ensures.current,
      );
    }

pub returns-in_err-head-clause-refused : goal.returns-in_err-head-clause-refused
returns-in_err-head-clause-refused c =
    let all = has_rows c.args.bytes.now in
    let p = err_from_is_err_and c.from_residual.result c.from_residual.ensures.1 in
    rw (p.1, p.2)
    (text_refused c.args.bytes.now all.0 all.1 _
    (c.in_err-head.ensures.read all.0 (c.new-records.ensures.left all.0 all.1)))

pub returns-in_err-head-clause-none : goal.returns-in_err-head-clause-none
returns-in_err-head-clause-none c =
    let all = has_rows c.args.bytes.now in
    let p = err_from_is_err_and c.from_residual.result c.from_residual.ensures.1 in
    rw (p.1, p.2)
    (text_none c.args.bytes.now _
    (text_refused c.args.bytes.now all.0 all.1 _
    (c.in_err-head.ensures.read all.0 (c.new-records.ensures.left all.0 all.1))))

pub returns-clause-found : goal.returns-clause-found
returns-clause-found c =
    let all = has_rows c.args.bytes.now in
    let is = c.in_ok-head.ensures.read all.0 (c.new-records.ensures.left all.0 all.1) in
    (c.in_ok-head.head.before, is.rest, record { rows = all.0; has_rows = all.1; text = is.text })

pub returns-clause-only : goal.returns-clause-only
returns-clause-only c = λ p names before rest stands.
    let found = returns-clause-found c in
    let same = one_reading c.args.bytes.now _ p _ names _ before _ rest found.2 stands in
    (same.0, same.1)
