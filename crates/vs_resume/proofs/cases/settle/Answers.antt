use Rattle.std.proofs.Common.{◌≡◌, ◌+◌, ◌<◌, length, get_or, sym, ◌∙◌, subst, arith}
use Rattle.std.proofs.lemmas.List.{get_or_default}
use Rattle.vs_instance.specs.Restriction.{IsRestriction}
use Rattle.vs_resume.specs.declared.cases.Case.{Case}
use Rattle.vs_resume.proofs.worths.Settling.{others_stay, same_here, settled_more}
use Rattle.vs_resume.proofs.cases.settle.Goals as goal

pub settle_case-requires-clause-sets : goal.settle_case-requires-clause-sets
settle_case-requires-clause-sets c =
    let xs = c.args.cases.now in
    let i = c.loop-case.case-index in
    let inside : i < length xs = omega arith in
    let same = same_here xs c.loop-case.cases i c.case-item.result c.loop-case.invariant.after in
    subst (λ (found : Case). IsRestriction c.args.instance.now found.sets.items) (sym same)
    (c.requires.sets i c.case-item.result inside)

pub settle_case-requires-clause-few : goal.settle_case-requires-clause-few
settle_case-requires-clause-few c =
    let xs = c.args.cases.now in
    let i = c.loop-case.case-index in
    let inside : i < length xs = omega arith in
    let same = same_here xs c.loop-case.cases i c.case-item.result c.loop-case.invariant.after in
    subst (λ (found : Case). c.args.base + found.table < 4294967296) (sym same)
    (c.requires.few i c.case-item.result inside)

pub loop-case-preserved : goal.loop-case-preserved
loop-case-preserved c =
    let p = c.args.instance.now in
    let xs = c.args.cases.now in
    let ys = c.loop-case.cases in
    let i = c.loop-case.case-index in
    let inside : i < length xs = omega arith in
    let also : i < length ys = omega arith in
    let x = get_or ys i c.case-item.result in
    let y = c.settle_case.new.case in
    let is : x ≡ get_or xs i x =
    get_or_default ys i c.case-item.result x also ∙ same_here xs ys i x c.loop-case.invariant.after in
    record {
      before = settled_more p c.args.old.now c.args.number c.args.base xs ys i inside also x y is
          c.loop-case.invariant.before c.settle_case.ensures;
      after = others_stay p c.args.old.now c.args.number c.args.base xs ys i inside also y
          c.loop-case.invariant.after;
    }
