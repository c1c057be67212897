use Rattle.std.proofs.Common.{ℕ, List, length, sym, subst, ap, ◌∙◌}
use Rattle.vs_turn.proofs.CallerLemmas.{length-tickets_from}
use Rattle.vs_tree.specs.Search.{Search}
use Rattle.vs_crew.specs.Crew.{HasGoneOn}
use Rattle.vs_crew.specs.Sharing.{Shared}
use Rattle.vs_crew.specs.Workers.{IsFresh}
use Rattle.vs_crew.proofs.others.Closing.{has_gone_on, is_over, unchanged}
use Rattle.vs_crew.proofs.crew.run.Goals as goal

pub returns-in-Err-clause-memory : goal.returns-in-Err-clause-memory
returns-in-Err-clause-memory g c =
    unchanged c.args.tree c.into_tree.result c.requires.none_held
    (c.into_tree.ensures.tree ∙ ap (λ (a : Shared). a.search) (c.in-Err.ensures.err ∙ c.new.ensures))

pub work_to_end-seat-requires-clause-fresh : goal.work_to_end-seat-requires-clause-fresh
work_to_end-seat-requires-clause-fresh g c κs within =
    subst (λ (t : Search). IsFresh (length c.in-Ok.crew.items) t) (sym c.of-start.ensures)
    (record {
      workers_are = c.requires.workers ∙ sym c.in-Ok.ensures.count;
      none_held = c.requires.none_held;
      none_gone = c.requires.none_gone;
    })

pub close-requires-clause-all : goal.close-requires-clause-all
close-requires-clause-all g c =
    ap (λ (l : List ℕ). length l) c.work_to_end-seat.ensures.tickets
    ∙ (length-tickets_from 0 (length c.in-Ok.crew.items)
    ∙ (c.in-Ok.ensures.count ∙ sym c.in-Ok-new.ensures.turn.seats_are))

pub returns-then-over-clause-goes_on : goal.returns-then-over-clause-goes_on
returns-then-over-clause-goes_on g c =
    let stops = g.G.Gate.may_stop c.args.gate.now in
    let start = c.of-start.result.value in
    let after = c.into_tree-tree.result in
    let end = c.work_to_end-seat in
    let workers_are =
    ap (λ (t : Search). t.opening.workers) c.of-start.ensures ∙ (c.requires.workers ∙ sym c.in-Ok.ensures.count) in
    subst (λ (t : Search). HasGoneOn t after) c.of-start.ensures
    (has_gone_on stops c.in-Ok-new.made.0.name start after (length c.in-Ok.crew.items) end.result.1 end.result.0
    end.ensures c.close.result c.close.ensures.seen c.close.ensures.entries c.into_tree-tree.ensures.tree workers_are
    c.into_tree-tree.ensures.worked c.into_tree-tree.ensures.opening c.into_tree-tree.ensures.history)

pub returns-then-over-clause-over : goal.returns-then-over-clause-over
returns-then-over-clause-over g c never =
    let stops = g.G.Gate.may_stop c.args.gate.now in
    let start = c.of-start.result.value in
    let after = c.into_tree-tree.result in
    let end = c.work_to_end-seat in
    let workers_are =
    ap (λ (t : Search). t.opening.workers) c.of-start.ensures ∙ (c.requires.workers ∙ sym c.in-Ok.ensures.count) in
    is_over stops c.in-Ok-new.made.0.name start after (length c.in-Ok.crew.items) end.result.1 end.result.0
    end.ensures c.close.result c.close.ensures.seen c.close.ensures.entries c.into_tree-tree.ensures.tree workers_are
    c.into_tree-tree.ensures.worked c.into_tree-tree.ensures.opening c.into_tree-tree.ensures.history c.if-over.true
    never

pub returns-clause-memory : goal.returns-clause-memory
returns-clause-memory g c =
    let stops = g.G.Gate.may_stop c.args.gate.now in
    let start = c.of-start.result.value in
    let after = c.into_tree-tree.result in
    let end = c.work_to_end-seat in
    let workers_are =
    ap (λ (t : Search). t.opening.workers) c.of-start.ensures ∙ (c.requires.workers ∙ sym c.in-Ok.ensures.count) in
    subst (λ (t : Search). HasGoneOn t after) c.of-start.ensures
    (has_gone_on stops c.in-Ok-new.made.0.name start after (length c.in-Ok.crew.items) end.result.1 end.result.0
    end.ensures c.close.result c.close.ensures.seen c.close.ensures.entries c.into_tree-tree.ensures.tree workers_are
    c.into_tree-tree.ensures.worked c.into_tree-tree.ensures.opening c.into_tree-tree.ensures.history)
