use Rattle.std.proofs.Common.{refl, sym, ap, ◌∙◌, subst}
use Rattle.std.proofs.lemmas.List.{with_items_is}
use Rattle.vs_tree.specs.Search.{Search, state}
use Rattle.vs_tree.specs.Takes.{IsOver, IsTake, taking}
use Rattle.vs_tree.specs.declared.calls.Take.{Take}
use Rattle.vs_crew.proofs.CallerLemmas.{told_node}
use Rattle.test_resume.proofs.AloneSearches.{kept_search, none_held, taken_finished, taken_worked, told_end}
use Rattle.test_resume.proofs.searching.take.Goals as goal

pub returns-in-Node-clause-finished : goal.returns-in-Node-clause-finished
returns-in-Node-clause-finished c =
    taken_finished c.args.tree.now c.take.new.self c.take.result c.in-Node.leaf c.in-Node.known c.in-Node.is
    c.take.ensures.search

pub returns-in-Node-clause-leaf : goal.returns-in-Node-clause-leaf
returns-in-Node-clause-leaf c =
    let old = c.args.tree.now in
    let new = c.take.new.self in
    let between = c.requires.between in
    let own = c.instance-instance.ensures in
    let written = with_items_is c.args.task.now.sets c.take.new.sets (c.take.auto.sets ∙ c.deref_mut.ensures.len) in
    record {
      workers = ap (λ (t : Search). t.opening.workers) c.take.ensures.search ∙ between.workers;
      holds = told_node old new 0 c.take.new.sets c.take.new.table _ c.in-Node.leaf c.in-Node.known own.opening
          own.history between.idle.is_worker
          (subst (IsTake old.opening (state old) c.take.new.sets c.take.new.table) c.in-Node.is c.take.ensures.answer)
          written refl refl refl
          (c.take.ensures.search ∙ ap (λ (t : Take). record old { steps = taking 0 old.steps t }) c.in-Node.is);
      worked = taken_worked old new c.take.result c.in-Node.leaf c.in-Node.known c.in-Node.is c.take.ensures.search
          between.worked;
    }

pub returns-in_default : goal.returns-in_default
returns-in_default c =
    let old = c.args.tree.now in
    let own = c.instance-instance.ensures in
    let between = c.requires.between in
    let none = none_held old own.opening own.history between.workers between.idle in
    let same = kept_search old c.take.new.self c.take.result c.in_default.not-Node c.take.ensures.search in
    record {
      opening = ap (λ (t : Search). t.opening) same;
      finished = ap (λ (t : Search). (state t).finished) same;
      leaf = tt;
      over = subst (λ (t : Search). IsOver t.opening (state t)) (sym same)
          (told_end old.opening (state old) c.take.new.sets c.take.new.table c.take.result none c.take.ensures.answer
          c.in_default.not-Node);
      same = same;
    }
