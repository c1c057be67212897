use Rattle.vs_check.specs.HoldingDocument.{HoldingDocument}
use Rattle.vs_rows.specs.DocumentText.{HasText}
use Rattle.test_resume.proofs.chains.chained.Given as goal

abbrev pub invariant-loop : goal.invariant-loop
invariant-loop l = record {
  text : HasText l.instance l.document;
  holds : HoldingDocument l.instance l.document;
}
