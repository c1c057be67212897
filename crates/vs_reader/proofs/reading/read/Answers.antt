use Rattle.std.proofs.Common.{ℕ, List, ap, sym, subst, arith}
use Rattle.std.proofs.lemmas.Result.{err_from_is_err_and}
use Rattle.vs_reader.specs.Rows.{Row}
use Rattle.vs_reader.specs.RowEnds.{row_weight}
use Rattle.vs_reader.specs.InstanceText.{InstanceText}
use Rattle.vs_reader.proofs.texts.TextLemmas.{has_rows, one_reading, text_none, text_refused, weight_of-rows}
use Rattle.vs_reader.proofs.reading.read.Goals as goal

pub read_head-requires : goal.read_head-requires
read_head-requires c =
    let all = has_rows c.args.bytes.now in
    record {
      rows = all.0;
      left = c.new-records.ensures.left all.0 all.1;
      few = omega (
        arith,
        weight_of-rows c.args.bytes.now all.0 all.1,
        c.requires,
        ap (λ (row : Row). row_weight row) c.new-records.ensures.current,
      );
    }

pub returns-in_err-head-clause-refused : goal.returns-in_err-head-clause-refused
returns-in_err-head-clause-refused c =
    let all = has_rows c.args.bytes.now in
    let p = err_from_is_err_and c.from_residual.result c.from_residual.ensures.1 in
    rw (p.1, p.2)
    (text_refused c.args.bytes.now all.0 all.1 _
    (c.in_err-head.ensures.read all.0 (c.new-records.ensures.left all.0 all.1)))

pub returns-in_err-head-clause-none : goal.returns-in_err-head-clause-none
returns-in_err-head-clause-none c =
    let all = has_rows c.args.bytes.now in
    let p = err_from_is_err_and c.from_residual.result c.from_residual.ensures.1 in
    rw (p.1, p.2)
    (text_none c.args.bytes.now _
    (text_refused c.args.bytes.now all.0 all.1 _
    (c.in_err-head.ensures.read all.0 (c.new-records.ensures.left all.0 all.1))))

pub returns-in_err-rest-clause-refused : goal.returns-in_err-rest-clause-refused
returns-in_err-rest-clause-refused c =
    let p = err_from_is_err_and c.from_residual-in_err-rest.result c.from_residual-in_err-rest.ensures.1 in
    rw (p.1, p.2) tt

pub returns-in_err-rest-clause-none : goal.returns-in_err-rest-clause-none
returns-in_err-rest-clause-none c =
    let p = err_from_is_err_and c.from_residual-in_err-rest.result c.from_residual-in_err-rest.ensures.1 in
    rw (p.1, p.2) (λ is. absurd is)

pub returns-clause-found : goal.returns-clause-found
returns-clause-found c =
    let all = has_rows c.args.bytes.now in
    let is = c.in_ok-head.ensures.read all.0 (c.new-records.ensures.left all.0 all.1) in
    let p = c.in_ok-head.head.instance in
    let names = c.in_ok-head.head.names in
    let rest = c.in_ok-rest.ensures.rows is.rest is.rest_are in
    record {
      rows = all.0;
      has_rows = all.1;
      text = subst (λ (r : List Row). InstanceText all.0 p names c.from-before.result r) (sym rest)
          (subst (λ (b : ℕ). InstanceText all.0 p names b is.rest) (sym c.from-before.ensures) is.text);
    }

pub returns-clause-only : goal.returns-clause-only
returns-clause-only c = λ p names before rest stands.
    one_reading c.args.bytes.now _ p _ names _ before _ rest (returns-clause-found c) stands
