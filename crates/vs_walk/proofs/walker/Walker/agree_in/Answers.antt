use Rattle.std.proofs.Common.{◌∙◌, ap, length, subst, sym}
use Rattle.std.proofs.lemmas.List.{with_items_is}
use Rattle.vs_multi.specs.Multipliers.{AreMultipliers, AreWithin}
use Rattle.vs_walk.proofs.walker.Walker.agree_in.Goals as goal

pub begin_from-requires-clause-within : goal.begin_from-requires-clause-within
begin_from-requires-clause-within g c =
    let same = c.offer_free.ensures.each ∙ c.deref_mut.ensures.len in
    let written = with_items_is c.args.self.now.offered c.offer_free.new.offered same in
    subst AreWithin (sym (c.deref-offered.ensures.value ∙ written)) c.offer_free.ensures.within

pub returns-clause-walker : goal.returns-clause-walker
returns-clause-walker g c =
    let old = c.requires.walker in
    let offered = c.args.self.now.offered in
    let new = c.offer_free.new.offered in
    let same = c.offer_free.ensures.each ∙ c.deref_mut.ensures.len in
    let written = with_items_is offered new same in
    record {
      best = old.best;
      penalties = c.agree.ensures.penalties;
      pool = old.pool;
      draft = old.draft;
      next = old.next;
      sets = old.sets;
      nearby = old.nearby;
      offered = subst (AreMultipliers c.args.case.now.instance.now) (sym written) (record {
        each_trip = c.offer_free.ensures.each ∙ ap length c.deref_mut.ensures.value ∙ old.offered.each_trip;
        within = c.offer_free.ensures.within;
      });
    }
