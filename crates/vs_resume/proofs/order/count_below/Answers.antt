use Rattle.std.proofs.Common.{◌≡◌, ◌∙◌, ℕ, ◌+◌, ◌-◌, ◌^◌, ◌<◌, min, List, get_or, take, sym, ap, subst, arith, true, false, refl, Option, Some, None, ℤ}
use Rattle.std.proofs.lemmas.Int.{ints}
use Rattle.std.proofs.lemmas.List.{take_all}
use Rattle.std.proofs.lemmas.List.Sums.{count_by_more_no, count_by_more_yes}
use Rattle.vs_prices.specs.Bounds.{IsBelow}
use Rattle.vs_prices.specs.declared.bound.Bound.{Bound}
use Rattle.vs_prices.specs.declared.bound.Bound.TheVariants.{AtLeast, NoPlan}
use Rattle.vs_cert.specs.Answers.{is_below}
use Rattle.vs_cert.proofs.AnswerBounds.{no_below}
use Rattle.vs_resume.specs.declared.cases.Case.{Case}
use Rattle.vs_resume.specs.Order.{below_in}
use Rattle.vs_resume.proofs.order.count_below.Goals as goal
use Rattle.vs_resume.proofs.order.count_below.Goals.{else-is_below, then-is_below}

-- a worth below a cost passes the test
passes : (cost : Option ℤ) (worth : Bound) → IsBelow worth cost → is_below cost worth ≡ true
passes None NoPlan below = absurd below
passes (Some c) NoPlan below = absurd below
passes None (AtLeast n) below = refl
passes (Some c) (AtLeast n) below = grind (arith, ints)

pub loop-case-preserved : goal.loop-case-preserved
loop-case-preserved c =
    let cases = c.args.cases.now in
    let i = c.loop-case.case-index in
    let x = c.case-item.result in
    let test = λ (found : Case). is_below c.args.cost found.worth in
    elim c.if-is_below.branch [
      | then-is_below w ↦
          let yes : is_below c.args.cost x.worth ≡ true =
          passes c.args.cost x.worth (c.is_below.ensures.0 w.if-is_below.true) in
          let here : is_below c.args.cost (get_or cases i x).worth ≡ true =
          ap (λ (found : Case). is_below c.args.cost found.worth) (sym c.case-item.is) ∙ yes in
          let more = count_by_more_yes test cases i x c.loop-case-test.true here in
          grind (arith, more, w.count-is, c.loop-case.invariant)
      | else-is_below w ↦
          let no : is_below c.args.cost x.worth ≡ false =
          no_below c.args.cost x.worth (λ below. let yes = c.is_below.ensures.1 below in
          let not = w.if-is_below.false in absurd cc) in
          let here : is_below c.args.cost (get_or cases i x).worth ≡ false =
          ap (λ (found : Case). is_below c.args.cost found.worth) (sym c.case-item.is) ∙ no in
          let more = count_by_more_no test cases i x c.loop-case-test.true here in
          grind (arith, more, w.count-is, c.loop-case.invariant)
    ]

pub returns : goal.returns
returns c =
    let all = take_all c.loop-case.case-index c.args.cases.now c.loop-case-test.false in
    subst (λ (cases : List Case). c.loop-case.count ≡ min (below_in c.args.cost cases) (2 ^ 32 - 1)) all
    c.loop-case.invariant
