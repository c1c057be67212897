use Rattle.std.proofs.Common.{ℕ, length, refl, sym, ap, ◌∙◌, subst, append-nil, Some, None, []}
use Rattle.vs_tree.specs.History.{Opening}
use Rattle.vs_tree.specs.Takes.{IsSized}
use Rattle.vs_crew.specs.Leaves.{IsAsked}
use Rattle.vs_crew.specs.Sharing.{GoesOnBy, IsIdle, Shared}
use Rattle.vs_crew.proofs.others.Turns.{turn_entries, turn_knows, turn_left, turn_problem}
use Rattle.vs_crew.proofs.turns.ask.Goals as goal

-- a turn in which nothing is changed
unchanged : (worker : ℕ) (a : Shared) → GoesOnBy worker a a
unchanged worker a = record {
  before = refl;
  opening = refl;
  added = [];
  goes_on = append-nil a.search.steps;
  by_worker = tt;
}

pub release-requires-clause-entries : goal.release-requires-clause-entries
release-requires-clause-entries g c =
    let held = c.hold-held.ensures in
    turn_entries c.args.site.now.turn.now.name c.args.site.now.start.now.value c.args.w (IsIdle c.args.w)
    c.args.seat c.hold-held.result.seat c.hold-held.result.found c.hold-held.result.value c.value.result.now
    c.requires.idle held.seat held.opening held.begins held.unmade held.found c.value.ensures.value
    c.value.result.now (unchanged c.args.w c.value.result.now)

pub returns-then-is_over-clause-told : goal.returns-then-is_over-clause-told
returns-then-is_over-clause-told g c =
    let held = c.hold-held.ensures in
    let left = turn_left c.args.site.now.turn.now.name c.args.site.now.start.now.value c.args.w (IsIdle c.args.w)
    c.args.seat c.hold-held.result.seat c.hold-held.result.found c.hold-held.result.value c.value.result.now
    c.requires.idle held.seat held.opening held.begins held.unmade held.found c.value.ensures.value in
    turn_knows c.args.site.now.turn.now.name c.args.site.now.start.now.value c.args.w (IsIdle c.args.w)
    c.args.seat c.hold-held.result.seat c.hold-held.result.found c.hold-held.result.value c.value.result.now
    c.requires.idle held.seat held.opening held.begins held.unmade held.found c.value.ensures.value
    c.value.result.now (unchanged c.args.w c.value.result.now)
    (IsAsked (g.G.Gate.may_stop c.args.site.now.gate.now) c.args.w c.args.task.now None)
    c.release.result (c.is_over.ensures c.if-is_over.true, c.stand-stand.ensures c.args.w left)
    c.release.ensures.seat c.release.ensures.knows

pub take-take-requires-clause-idle : goal.take-take-requires-clause-idle
take-take-requires-clause-idle g c =
    let held = c.hold-held.ensures in
    turn_left c.args.site.now.turn.now.name c.args.site.now.start.now.value c.args.w (IsIdle c.args.w)
    c.args.seat c.hold-held.result.seat c.hold-held.result.found c.hold-held.result.value c.value-tree.result.now
    c.requires.idle held.seat held.opening held.begins held.unmade held.found
    (c.value-tree.ensures.value ∙ c.value.ensures.value)

pub take-take-requires-clause-sets : goal.take-take-requires-clause-sets
take-take-requires-clause-sets g c =
    let held = c.hold-held.ensures in
    let opening = turn_problem c.args.site.now.turn.now.name c.args.site.now.start.now.value c.args.w (IsIdle c.args.w)
    c.args.seat c.hold-held.result.seat c.hold-held.result.found c.hold-held.result.value c.value-tree.result.now
    c.requires.idle held.seat held.opening held.begins held.unmade held.found
    (c.value-tree.ensures.value ∙ c.value.ensures.value) in
    c.requires.sets ∙ ap (λ (o : Opening). length o.problem.trips) (sym opening)

pub take-take-requires-clause-table : goal.take-take-requires-clause-table
take-take-requires-clause-table g c =
    let held = c.hold-held.ensures in
    let opening = turn_problem c.args.site.now.turn.now.name c.args.site.now.start.now.value c.args.w (IsIdle c.args.w)
    c.args.seat c.hold-held.result.seat c.hold-held.result.found c.hold-held.result.value c.value-tree.result.now
    c.requires.idle held.seat held.opening held.begins held.unmade held.found
    (c.value-tree.ensures.value ∙ c.value.ensures.value) in
    subst (λ (o : Opening). IsSized o.problem c.args.task.now.table) (sym opening) c.requires.table

pub release-seat-requires-clause-entries : goal.release-seat-requires-clause-entries
release-seat-requires-clause-entries g c =
    let held = c.hold-held.ensures in
    turn_entries c.args.site.now.turn.now.name c.args.site.now.start.now.value c.args.w (IsIdle c.args.w)
    c.args.seat c.hold-held.result.seat c.hold-held.result.found c.hold-held.result.value c.value-tree.result.now
    c.requires.idle held.seat held.opening held.begins held.unmade held.found
    (c.value-tree.ensures.value ∙ c.value.ensures.value) c.take-take.new.self c.take-take.ensures.steps

pub returns-clause-told : goal.returns-clause-told
returns-clause-told g c =
    let held = c.hold-held.ensures in
    turn_knows c.args.site.now.turn.now.name c.args.site.now.start.now.value c.args.w (IsIdle c.args.w)
    c.args.seat c.hold-held.result.seat c.hold-held.result.found c.hold-held.result.value c.value-tree.result.now
    c.requires.idle held.seat held.opening held.begins held.unmade held.found
    (c.value-tree.ensures.value ∙ c.value.ensures.value) c.take-take.new.self c.take-take.ensures.steps
    (IsAsked (g.G.Gate.may_stop c.args.site.now.gate.now) c.args.w c.take-take.new.task (Some c.take-take.result))
    c.release-seat.result c.take-take.ensures.told c.release-seat.ensures.seat c.release-seat.ensures.knows

pub returns-clause-table : goal.returns-clause-table
returns-clause-table g c =
    let held = c.hold-held.ensures in
    let opening = turn_problem c.args.site.now.turn.now.name c.args.site.now.start.now.value c.args.w (IsIdle c.args.w)
    c.args.seat c.hold-held.result.seat c.hold-held.result.found c.hold-held.result.value c.value-tree.result.now
    c.requires.idle held.seat held.opening held.begins held.unmade held.found
    (c.value-tree.ensures.value ∙ c.value.ensures.value) in
    subst (λ (o : Opening). IsSized o.problem c.take-take.new.task.table) opening c.take-take.ensures.table
