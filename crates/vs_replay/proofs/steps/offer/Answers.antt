use Rattle.std.proofs.Common.{◌≡◌, ◌∙◌, Option, ℤ, sym, ap, subst, rules, SFits, w64}
use Rattle.std.proofs.lemmas.Bool.{false≢true}
use Rattle.std.proofs.lemmas.Int.{to_z-of_z}
use Rattle.vs_instance.specs.Problem.{Problem}
use Rattle.vs_plan.specs.CheckedPlan.{Checked}
use Rattle.vs_tree.specs.History.{IsCheaper, known}
use Rattle.vs_tree.specs.Search.{state}
use Rattle.vs_tree.specs.Sound.{IsPlanOf}
use Rattle.vs_trace.specs.Traces.{told_plan}
use Rattle.vs_trace.specs.declared.trace.Full.TheVariants.{Offered}
use Rattle.vs_replay.specs.Making.{next_step}
use Rattle.vs_replay.proofs.MadeSteps.{not_made, offered_made, offers_some}
use Rattle.vs_replay.proofs.steps.offer.Goals as goal

pub returns-then-not-may_offer : goal.returns-then-not-may_offer
returns-then-not-may_offer c =
    let t = c.args.tree.now in
    let told = told_plan t.opening.problem c.args.cost c.args.plan in
    not_made t t (next_step t (Offered c.args.w c.args.cost c.args.plan))
    (λ may. false≢true (sym c.if-not-may_offer.true
    ∙ c.may_offer.ensures.1 (offers_some t.opening (state t) c.args.w told may)))

pub returns-in-Some : goal.returns-in-Some
returns-in-Some c =
    let t = c.args.tree.now in
    let p = t.opening.problem in
    let cost = c.args.cost in
    let fits : SFits w64 cost = search rules in
    let below = rw to_z-of_z at (c.is_cheaper.ensures.0 c.if-not-is_cheaper.false) in
    let cheaper : IsCheaper cost (known (state t)) =
    subst (λ (k : Option ℤ). IsCheaper cost k) c.known_cost-known.ensures below in
    let found = rw c.in-Some.is at c.in_ok-checked.ensures in
    let checked = c.in-Some.checked in
    let told = told_plan p cost c.args.plan in
    let same : checked ≡ told =
    (rw to_z-of_z at found.0) ∙ ap (λ (q : Problem). told_plan q cost c.args.plan) (sym c.requires.same) in
    let is : IsPlanOf p told =
    subst (λ (x : Checked). IsPlanOf p x) same
    (subst (λ (q : Problem). IsPlanOf q checked) (sym c.requires.same) found.1) in
    offered_made t c.offer.new.self c.args.w told checked c.offer.result same
    (c.may_offer.ensures.0 c.if-not-may_offer.false) cheaper is c.offer.ensures.answer c.offer.ensures.search
