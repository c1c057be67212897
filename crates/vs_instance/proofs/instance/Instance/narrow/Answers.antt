use Rattle.std.proofs.Common.{sym, ap, ◌∙◌, subst}
use Rattle.vs_instance.specs.Instance.{IsInstance}
use Rattle.vs_instance.specs.Narrowed.{narrowed_trips}
use Rattle.vs_instance.specs.Problem.{Problem}
use Rattle.vs_instance.specs.Restriction.{IsRestriction}
use Rattle.vs_instance.specs.deadheads.WayMap.{problem_with}
use Rattle.vs_instance.proofs.NarrowedProblems.{narrowed-IsInstance}
use Rattle.vs_instance.proofs.instance.Instance.narrow.Goals as goal

pub invariant_of-result : goal.invariant_of-result
invariant_of-result c =
    let own = c.self.inside in
    let p : Problem = problem_with own.ways own.layers.items own.trips.items in
    let layers = c.in_ok-layers.ensures.items ∙ c.as_slice-own_layers.ensures.value in
    let trips = c.in_ok-trips.ensures
    ∙ ap (λ trips. narrowed_trips trips c.args.sets.now) c.as_slice-own_trips.ensures.value in
    let restricts = subst (λ (q : Problem). IsRestriction q c.args.sets.now) (sym c.self.view_is) c.requires in
    subst IsInstance (λ k. problem_with (sym c.in_ok-ways.ensures k) (sym layers k) (sym trips k))
    (narrowed-IsInstance p c.args.sets.now c.self.invariant restricts)
