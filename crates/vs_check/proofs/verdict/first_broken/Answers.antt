use Rattle.std.proofs.Common.{sym, ap, subst, ◌∙◌, Option}
use Rattle.vs_instance.specs.Firsts.{first}
use Rattle.vs_instance.proofs.CallerLemmas.{first_from-here, first_from-more, first_from-past}
use Rattle.vs_prices.specs.declared.broken_at.BrokenAt.{BrokenAt}
use Rattle.vs_prices.specs.declared.table.Table.{Table}
use Rattle.vs_need.specs.Nets.{AreNets}
use Rattle.vs_check.specs.declared.flaw.Flaw.TheVariants.{TableBroken}
use Rattle.vs_check.specs.Flaws.{broken_flaws, table_flaws}
use Rattle.vs_check.proofs.verdict.first_broken.Goals as goal

pub returns-in-Some : goal.returns-in-Some
returns-in-Some c =
    let p = c.args.instance.now in
    let t = c.loop-t.t in
    let table = c.index-tables-t.result in
    sym (first_from-here (table_flaws p) c.args.tables.now t table (TableBroken t c.in-Some.at) c.loop-t-test.true
    (ap (λ (x : Table). first (table_flaws p t x)) (sym c.index-tables-t.is)
    ∙ ap (λ (at : Option BrokenAt). first (broken_flaws t at)) (sym c.broken_for-found.ensures.first ∙ c.in-Some.is)))
    ∙ c.loop-t.invariant.so_far

pub loop-t-preserved : goal.loop-t-preserved
loop-t-preserved c =
    let p = c.args.instance.now in
    let t = c.loop-t.t in
    let table = c.index-tables-t.result in
    record {
      nets = subst (AreNets p) (sym c.broken_for-found.ensures.nets) c.loop-t.invariant.nets;
      room = c.broken_for-found.ensures.room;
      so_far =
          first_from-more (table_flaws p) c.args.tables.now t table c.loop-t-test.true
          (ap (λ (x : Table). first (table_flaws p t x)) (sym c.index-tables-t.is)
          ∙ ap (λ (at : Option BrokenAt). first (broken_flaws t at))
          (sym c.broken_for-found.ensures.first ∙ c.in_default.is))
          ∙ c.loop-t.invariant.so_far;
    }

pub returns : goal.returns
returns c =
    sym (first_from-past (table_flaws c.args.instance.now) c.args.tables.now c.loop-t.t c.loop-t-test.false)
    ∙ c.loop-t.invariant.so_far
