use Rattle.std.proofs.Common.{ℕ, ◌+◌, List, take, sym, ap, ◌∙◌, subst}
use Rattle.std.specs.List.{AllZip}
use Rattle.std.proofs.lemmas.List.{take_all}
use Rattle.vs_cert.specs.StateDocument.{first_times}
use Rattle.vs_resume.specs.declared.cases.Case.{Case}
use Rattle.vs_resume.proofs.worths.Settled.{tables_in}
use Rattle.vs_resume.proofs.documents.Taking.{StandsIn, numbers_more, places_more}
use Rattle.vs_resume.proofs.writing.named_by.Goals as goal

pub loop-case-preserved : goal.loop-case-preserved
loop-case-preserved c =
    let cases = c.args.cases.now in
    let i = c.loop-case.case-index in
    let found = c.case-item.result in
    let before = c.loop-case.invariant in
    let old = c.loop-case.numbering.numbers in
    let new = c.place.new.self.numbers in
    let came = c.in_ok-place.ensures in
    record {
      limit = c.place.ensures.limit ∙ before.limit;
      numbers = numbers_more cases i found c.loop-case-test.true c.case-item.is old new before.numbers came.numbers;
      places = subst (λ (places : List ℕ). AllZip (StandsIn new) places (tables_in (take (i + 1) cases)))
          (sym c.in_ok-push.ensures.items)
          (places_more cases i found c.loop-case-test.true c.case-item.is old new c.loop-case.places.items
          c.in_ok-place.place came.numbers came.named before.places);
    }

pub returns : goal.returns
returns c =
    let cases = c.args.cases.now in
    let all = take_all c.loop-case.case-index cases c.loop-case-test.false in
    let numbers_are = c.into_numbers.ensures.numbers in
    record {
      numbers = numbers_are ∙ c.loop-case.invariant.numbers
          ∙ ap (λ (some : List Case). first_times (tables_in some)) all;
      places = subst (λ (numbers : List ℕ). AllZip (StandsIn numbers) c.loop-case.places.items (tables_in cases))
          (sym numbers_are)
          (subst (λ (some : List Case).
          AllZip (StandsIn c.loop-case.numbering.numbers) c.loop-case.places.items (tables_in some)) all
          c.loop-case.invariant.places);
    }
