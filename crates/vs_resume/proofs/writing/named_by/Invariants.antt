use Rattle.std.proofs.Common.{◌≡◌, take, slice_get, Some}
use Rattle.std.specs.List.{AllZip}
use Rattle.vs_cert.specs.StateDocument.{first_times}
use Rattle.vs_resume.proofs.worths.Settled.{tables_in}
use Rattle.vs_resume.proofs.writing.named_by.Given as goal

-- the tables of the leaves before have their places
abbrev pub invariant-loop-case : goal.invariant-loop-case
invariant-loop-case l = record {
  limit : l.numbering.limit ≡ l.tables;
  numbers : l.numbering.numbers ≡ first_times (tables_in (take l.case-index l.cases));
  places : AllZip (λ place n. slice_get l.numbering.numbers place ≡ Some n) l.places.items
      (tables_in (take l.case-index l.cases));
}
