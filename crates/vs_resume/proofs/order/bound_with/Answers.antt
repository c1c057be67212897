use Rattle.std.proofs.Common.{◌≡◌, ◌+◌, List, [], ◌∷◌, ◌++◌, take, sym, ap, ◌∙◌, subst}
use Rattle.std.proofs.lemmas.List.{map_more, take_all}
use Rattle.vs_prices.specs.declared.bound.Bound.{Bound}
use Rattle.vs_resume.specs.declared.cases.Case.{Case}
use Rattle.vs_resume.specs.Order.{IsLeastWith, worths_in}
use Rattle.vs_resume.proofs.worths.LeastWorths.{least_alone, least_more}
use Rattle.vs_resume.proofs.order.bound_with.Goals as goal

pub loop-case-init : goal.loop-case-init
loop-case-init c = subst (IsLeastWith c.args.cost []) (sym c.bound_at-least.ensures) (least_alone c.args.cost)

pub loop-case-preserved : goal.loop-case-preserved
loop-case-preserved c =
    let cases = c.args.cases.now in
    let i = c.loop-case.case-index in
    let x = c.case-item.result in
    let before = worths_in (take i cases) in
    let new = c.lesser-least.result in
    let more : worths_in (take (i + 1) cases) ≡ before ++ x.worth ∷ [] =
    map_more (λ (found : Case). found.worth) cases i x c.loop-case-test.true
    ∙ ap (λ (found : Case). before ++ found.worth ∷ []) (sym c.case-item.is) in
    subst (λ (worths : List Bound). IsLeastWith c.args.cost worths new) (sym more)
    (least_more c.args.cost before x.worth c.loop-case.least new c.loop-case.invariant c.lesser-least.ensures.choice
    c.lesser-least.ensures.one c.lesser-least.ensures.other)

pub returns : goal.returns
returns c =
    let cases = c.args.cases.now in
    subst (IsLeastWith c.args.cost (worths_in cases)) (sym c.number_in.ensures)
    (subst (λ (all : List Case). IsLeastWith c.args.cost (worths_in all) c.loop-case.least)
    (take_all c.loop-case.case-index cases c.loop-case-test.false) c.loop-case.invariant)
