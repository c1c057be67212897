use Rattle.std.proofs.Common.{List, ℕ, arith, sym, ap, ◌∙◌, length}
use Rattle.vs_instance.specs.Firsts.{first}
use Rattle.vs_instance.proofs.CallerLemmas.{first-skip, first-stop}
use Rattle.vs_plan.specs.Blocks.{pairs_of}
use Rattle.vs_plan.specs.PlanFaults.{times_of, twice_faults, uncovered_faults}
use Rattle.vs_plan.proofs.cover.cover_fault.Goals as goal

pub twice_fault-requires : goal.twice_fault-requires
twice_fault-requires c = omega (arith, ap length c.deref.ensures.value, c.in_ok-times.ensures.few)

pub uncovered_fault-requires : goal.uncovered_fault-requires
uncovered_fault-requires c = omega (arith, ap length c.deref-in-None.ensures.value, c.in_ok-times.ensures.few)

pub returns-in-Some : goal.returns-in-Some
returns-in-Some c =
    let times = times_of c.args.instance.now (pairs_of c.args.blocks.now) in
    let same = c.deref.ensures.value ∙ c.in_ok-times.ensures.times in
    let found = sym c.in-Some.is ∙ c.twice_fault.ensures ∙ ap (λ (ts : List ℕ). first (twice_faults ts)) same in
    sym (first-stop (twice_faults times) (uncovered_faults times) c.in-Some.fault (sym found))

pub returns : goal.returns
returns c =
    let times = times_of c.args.instance.now (pairs_of c.args.blocks.now) in
    let same = c.deref.ensures.value ∙ c.in_ok-times.ensures.times in
    let same' = c.deref-in-None.ensures.value ∙ c.in_ok-times.ensures.times in
    let none = sym c.in-None.is ∙ c.twice_fault.ensures ∙ ap (λ (ts : List ℕ). first (twice_faults ts)) same in
    c.uncovered_fault.ensures ∙ ap (λ (ts : List ℕ). first (uncovered_faults ts)) same'
    ∙ sym (first-skip (twice_faults times) (uncovered_faults times) (sym none))
