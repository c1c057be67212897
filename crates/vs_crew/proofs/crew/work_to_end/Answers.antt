use Rattle.std.proofs.Common.{ℕ, List, length, sym, subst, ap, ◌∙◌}
use Rattle.std.specs.Vec.{with_items}
use Rattle.std.proofs.lemmas.List.{with_items_is}
use Rattle.vs_crew.specs.Sharing.{KnowsEnds}
use Rattle.vs_crew.specs.Workers.{AreDone, AreSeated}
use Rattle.vs_crew.specs.declared.worker.Worker.{Worker}
use Rattle.vs_crew.proofs.crew.work_to_end.Goals as goal

pub work_together-requires-clause-seated : goal.work_together-requires-clause-seated
work_together-requires-clause-seated g c κs within =
    let written = with_items_is c.args.crew c.give_seats.new.crew (c.give_seats.auto.crew ∙ c.deref_mut.ensures.len) in
    subst (AreSeated c.args.site.now.turn.now.name c.args.site.now.start.now.value)
    (sym (c.as_mut_slice-together.ensures.value ∙ written)) c.give_seats.ensures.each

pub joined-requires-clause-done : goal.joined-requires-clause-done
joined-requires-clause-done g c =
    let second = with_items_is (with_items c.args.crew c.give_seats.new.crew) c.work_together.new.crew
    (c.work_together.auto.crew ∙ c.as_mut_slice-together.ensures.len) in
    subst (AreDone (g.G.Gate.may_stop c.args.site.now.gate.now) c.args.site.now.turn.now.name
    c.args.site.now.start.now.value) (sym second) c.work_together.ensures.done

-- there are as many workers as before
pub returns : goal.returns
returns g c =
    let written = with_items_is c.args.crew c.give_seats.new.crew (c.give_seats.auto.crew ∙ c.deref_mut.ensures.len) in
    let second = with_items_is (with_items c.args.crew c.give_seats.new.crew) c.work_together.new.crew
    (c.work_together.auto.crew ∙ c.as_mut_slice-together.ensures.len) in
    let count =
    ap (λ (l : List Worker). length l) second
    ∙ (c.work_together.ensures.count ∙ (ap (λ (l : List Worker). length l)
    (c.as_mut_slice-together.ensures.value ∙ written)
    ∙ (c.give_seats.ensures.count ∙ ap (λ (l : List Worker). length l) c.deref_mut.ensures.value))) in
    subst (λ (n : ℕ). KnowsEnds (g.G.Gate.may_stop c.args.site.now.gate.now) c.args.site.now.turn.now.name
    c.args.site.now.start.now.value 0 n c.joined.result.1 c.joined.result.0) count c.joined.ensures
