use Rattle.std.proofs.Common.{◌∙◌, refl, sym, ap, subst, List}
use Rattle.std.proofs.lemmas.Bool.{false≢true}
use Rattle.vs_need.specs.Nets.{AreNets}
use Rattle.vs_prices.specs.declared.broken_at.BrokenAt.{BrokenAt}
use Rattle.vs_instance.specs.Firsts.{first}
use Rattle.vs_instance.proofs.CallerLemmas.{none_from_first}
use Rattle.vs_prices.proofs.CallerLemmas.{holds_nowhere_broken, nowhere_broken}
use Rattle.vs_prices.specs.Breaks.{breaks_of}
use Rattle.vs_replay.proofs.finishing.table_holds.Goals as goal

pub returns-in-None-clause-holds : goal.returns-in-None-clause-holds
returns-in-None-clause-holds c =
    let p = c.args.instance.now in
    let table = c.args.table.now in (
      λ _. holds_nowhere_broken p table
          (none_from_first (breaks_of p table) (sym c.broken_for-found.ensures.first ∙ c.in-None.is)),
      λ _. refl,
    )

pub returns-in_default-clause-holds : goal.returns-in_default-clause-holds
returns-in_default-clause-holds c =
    let p = c.args.instance.now in
    let table = c.args.table.now in (
      λ t. absurd (false≢true t),
      λ holds. absurd (c.in_default.not-None (c.broken_for-found.ensures.first
          ∙ ap (λ (found : List BrokenAt). first found) (nowhere_broken p table holds))),
    )

pub returns-in-None-clause-ground : goal.returns-in-None-clause-ground
returns-in-None-clause-ground c = record {
  nets = subst (AreNets c.args.instance.now) (sym c.broken_for-found.ensures.nets) c.requires.ground.nets;
  room = c.broken_for-found.ensures.room;
  sets = c.requires.ground.sets;
  table = c.requires.ground.table;
}

pub returns-in_default-clause-ground : goal.returns-in_default-clause-ground
returns-in_default-clause-ground c = record {
  nets = subst (AreNets c.args.instance.now) (sym c.broken_for-found.ensures.nets) c.requires.ground.nets;
  room = c.broken_for-found.ensures.room;
  sets = c.requires.ground.sets;
  table = c.requires.ground.table;
}
