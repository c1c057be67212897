use Rattle.std.proofs.Common.{Bool, List, length, ap, subst, arith}
use Rattle.std.proofs.lemmas.List.{length-append}
use Rattle.std.proofs.lemmas.Result.{err_from_is_err_and}
use Rattle.csv.specs.Records.{fields_of}
use Rattle.vs_reader.specs.Rows.{Row}
use Rattle.vs_reader.specs.RowEnds.{weight_of}
use Rattle.vs_reader.specs.Kinds.{before_result}
use Rattle.vs_reader.specs.InstanceText.{nothing_yet}
use Rattle.vs_reader.specs.Drafts.{declared_of}
use Rattle.vs_reader.specs.Left.{GivesNext}
use Rattle.vs_reader.proofs.places.RowBuilderLemmas.{weight_of-append}
use Rattle.vs_reader.proofs.declaring.DeclaredLemmas.{IsSound-nothing, IsSound-AddAll, few_deadheads}
use Rattle.vs_reader.proofs.texts.CsvRecords.{length-records}
use Rattle.vs_reader.proofs.texts.TextLemmas.{header_refused, rule_refused, misfit_refused, instance_text}
use Rattle.vs_reader.proofs.reading.read_head.Goals as goal

pub returns-in_default-clause-read : goal.returns-in_default-clause-read
returns-in_default-clause-read c = λ rows left.
    let lacks = rw c.in_default.is at (c.in_ok-version.ensures rows left) in
    header_refused rows lacks

pub read_declarations-requires : goal.read_declarations-requires
read_declarations-requires c =
    let begins = rw c.in-Some.is at (c.in_ok-version.ensures c.requires.rows c.requires.left) in
    record {
      rows = begins.1.0;
      left = begins.1.2;
      few = omega (arith, c.requires.few, ap weight_of begins.1.1);
    }

pub returns-in_err-declarations-clause-read : goal.returns-in_err-declarations-clause-read
returns-in_err-declarations-clause-read c = λ rows left.
    let begins = rw c.in-Some.is at (c.in_ok-version.ensures rows left) in
    let p = err_from_is_err_and c.from_residual-in_err-declarations.result
    c.from_residual-in_err-declarations.ensures.1 in
    rw (p.1, p.2)
    (rule_refused c.in-Some.version rows begins.1.0 (fields_of c.read_header.new.records.current) begins.0 begins.1.1 _
    (c.in_err-declarations.ensures begins.1.0 begins.1.2))

pub made-requires-clause-sound : goal.made-requires-clause-sound
made-requires-clause-sound c =
    let begins = rw c.in-Some.is at (c.in_ok-version.ensures c.requires.rows c.requires.left) in
    let d = c.in_ok-declarations.ensures begins.1.0 begins.1.2 in
    IsSound-AddAll c.in-Some.version nothing_yet (declared_of c.in_ok-declarations.declarations.draft)
    (before_result begins.1.0) (IsSound-nothing c.in-Some.version) d.declares

pub made-requires-clause-few : goal.made-requires-clause-few
made-requires-clause-few c =
    let rows = c.requires.rows in
    let begins = rw c.in-Some.is at (c.in_ok-version.ensures rows c.requires.left) in
    let more = begins.1.0 in
    let d = c.in_ok-declarations.ensures more begins.1.2 in
    omega (
      arith,
      few_deadheads c.in-Some.version nothing_yet (declared_of c.in_ok-declarations.declarations.draft)
          (before_result more) d.declares,
      length-records _ _ _ rows c.requires.left.are_records,
      c.requires.few,
      ap (λ (rs : List Row). length rs) begins.1.1,
      ap (λ (rs : List Row). length rs) d.rows_are,
      length-append (before_result more) d.left,
    )

pub returns-in_err-instance-clause-read : goal.returns-in_err-instance-clause-read
returns-in_err-instance-clause-read c = λ rows left.
    let begins = rw c.in-Some.is at (c.in_ok-version.ensures rows left) in
    let d = c.in_ok-declarations.ensures begins.1.0 begins.1.2 in
    let p = err_from_is_err_and c.from_residual-in_err-instance.result c.from_residual-in_err-instance.ensures.1 in
    rw (p.1, p.2)
    (misfit_refused c.in-Some.version rows begins.1.0 (fields_of c.read_header.new.records.current) begins.0 begins.1.1
    c.in_ok-declarations.declarations.draft d.declares d.numbers _ c.in_err-instance.ensures.refused)

pub returns-clause-read : goal.returns-clause-read
returns-clause-read c = λ rows left.
    let begins = rw c.in-Some.is at (c.in_ok-version.ensures rows left) in
    let d = c.in_ok-declarations.ensures begins.1.0 begins.1.2 in
    record {
      rest = d.left;
      text = instance_text c.in-Some.version rows begins.1.0 (fields_of c.read_header.new.records.current) begins.0
          begins.1.1
          c.in_ok-declarations.declarations.draft d.declares d.left d.rows_are c.in_ok-instance.instance
          c.in_ok-instance.names c.in_ok-declarations.declarations.before c.in_ok-instance.ensures.found.0
          c.in_ok-instance.ensures.found.1 d.before;
      rest_are = d.left_are;
    }

pub returns-clause-goes_on : goal.returns-clause-goes_on
returns-clause-goes_on c = λ any.
    let begins = rw c.in-Some.is at (c.in_ok-version.ensures c.requires.rows c.requires.left) in
    let more = begins.1.0 in
    let d = c.in_ok-declarations.ensures more begins.1.2 in
    let next = subst (λ (b : Bool). GivesNext c.read_declarations.new.records d.left b) any d.left_are in
    record {
      rows = next.0;
      left = next.2;
      few = omega (
        arith,
        c.requires.few,
        ap weight_of begins.1.1,
        ap weight_of d.rows_are,
        weight_of-append (before_result more) d.left,
        ap weight_of next.1,
      );
    }
