use Rattle.std.proofs.Common.{◌≡◌, ℕ, ◌+◌, ◌<◌, List, length, get_or, take, refl, sym, ap, ◌∙◌, subst, arith, Some, slice_get}
use Rattle.std.proofs.lemmas.List.{take_all}
use Rattle.std.proofs.lemmas.Option.{slice_get-get_or}
use Rattle.vs_resume.specs.Writing.{AreTaken}
use Rattle.vs_resume.proofs.documents.Taking.{left_more, taken_more}
use Rattle.vs_resume.proofs.writing.taken.Goals as goal

pub loop-number-preserved : goal.loop-number-preserved
loop-number-preserved c =
    let before = c.args.tables.now in
    let now = c.loop-number.tables in
    let numbers = c.args.numbers.now in
    let i = c.loop-number.number-index in
    let n = get_or numbers i 0 in
    let inside = c.loop-number-test.true in
    let first : n < length before = c.requires.inside i 0 inside in
    let still : n < length now = omega (arith, first) in
    let left = c.loop-number.invariant.left in
    let at : slice_get now n ≡ Some c.replace.result =
    slice_get-get_or now n c.index-tables-number.result still ∙ ap Some (sym c.replace.ensures.value) in
    record {
      taken = subst (AreTaken before (take (i + 1) numbers)) (sym c.in_ok-push.ensures.items)
          (taken_more before now numbers c.requires.once i n inside refl left c.loop-number.some.items
          c.replace.result at c.loop-number.invariant.taken);
      left = left_more before now numbers c.requires.once i n inside refl left c.replace.new.dest;
    }

pub returns : goal.returns
returns c =
    let numbers = c.args.numbers.now in
    subst (λ (some : List ℕ). AreTaken c.args.tables.now some c.loop-number.some.items)
    (take_all c.loop-number.number-index numbers c.loop-number-test.false) c.loop-number.invariant.taken
