use Rattle.std.proofs.Common.{ℤ, length, ap, ◌∙◌, Fits, w32, rules, Some}
use Rattle.std.specs.Prelude.{nat_abs}
use Rattle.vs_peakcheck.proofs.CallerLemmas.{counts_vehicles}
use Rattle.vs_peak.proofs.ClaimedPeaks.{claim_of_least, cost_word, few_in_least}
use Rattle.vs_peak.proofs.claiming.claim_of.Goals as goal

pub overflow_cast-result : goal.overflow_cast-result
overflow_cast-result c =
    let p = c.args.instance.now in
    let l = c.args.l in
    let plan = c.in-Least.plan in
    let is = rw c.in-Least.is at c.requires.peak in
    let few = few_in_least p l (counts_vehicles p l c.layers-layers.ensures.instance c.requires.layer) plan
    c.in-Least.table is in
    let small : Fits w32 (length plan.blocks) = search (rules, few) in
    rw (cost_word (length plan.blocks) c.cost.result few (c.cost.ensures.value ∙ is.count)) (tt, small)

pub returns-in-Least : goal.returns-in-Least
returns-in-Least c =
    let p = c.args.instance.now in
    let l = c.args.l in
    let plan = c.in-Least.plan in
    let law = counts_vehicles p l c.layers-layers.ensures.instance c.requires.layer in
    let is = rw c.in-Least.is at c.requires.peak in
    let few = few_in_least p l law plan c.in-Least.table is in
    claim_of_least p l law _ plan is
    (ap (λ (x : ℤ). Some (nat_abs x))
    (cost_word (length plan.blocks) c.cost.result few (c.cost.ensures.value ∙ is.count)))
    c.into_plan.ensures.blocks
