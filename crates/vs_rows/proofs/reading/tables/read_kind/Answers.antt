use Rattle.std.proofs.Common.{◌≡◌, ℕ, ◌+◌, [], length, ap, arith, subst}
use Rattle.std.proofs.lemmas.List.{get_or_past}
use Rattle.vs_reader.specs.Rows.{row_of}
use Rattle.vs_rows.specs.DocumentRows.{TableRow}
use Rattle.vs_rows.specs.RowForms.{SaysThere}
use Rattle.vs_rows.proofs.reading.tables.read_kind.Goals as goal

pub returns-then-row-len-clause-refused : goal.returns-then-row-len-clause-refused
returns-then-row-len-clause-refused c =
    let input = c.args.input.now in
    let past : row_of input.rest c.args.row ≡ [] =
    get_or_past input.rest c.args.row [] (omega (arith, c.if-row-len.true, c.len.ensures)) in
    λ number ray says. omega (arith, ap length says.written, ap length past)

pub returns-in_default-clause-refused : goal.returns-in_default-clause-refused
returns-in_default-clause-refused c = λ number ray. c.in_default.ensures.none number ray c.args.input.now.names

pub returns-then-number-before-clause-refused : goal.returns-then-number-before-clause-refused
returns-then-number-before-clause-refused c = record {
  number = c.in-Some.number;
  ray = c.in-Some.ray;
  here = omega (arith, c.if-row-len.false, c.len.ensures);
  says = c.in-Some.ensures.found c.args.input.now.names;
  another = c.if-number-before.true;
}

pub returns-clause-found : goal.returns-clause-found
returns-clause-found c =
    let input = c.args.input.now in
    let says = c.in-Some.ensures.found input.names in
    let same : c.in-Some.number ≡ c.args.before + 1 = c.if-number-before.false in
    let P : ℕ → Type 0 = λ n. SaysThere input c.args.row (TableRow n c.in-Some.ray) in
    record {
      number = omega (arith, says.form, same);
      here = omega (arith, c.if-row-len.false, c.len.ensures);
      says = subst P same says;
    }
