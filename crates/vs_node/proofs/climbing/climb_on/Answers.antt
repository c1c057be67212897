use Rattle.vs_multi.proofs.CallerLemmas.{better_of}
use Rattle.vs_node.proofs.sets.Leads.{leads_for}
use Rattle.vs_node.proofs.climbing.climb_on.Goals as goal

pub returns : goal.returns
returns g c =
    let case = c.args.case.now in
    let best = c.in_ok-best in
    let better = c.keep_better-worth in
    let is = better_of case.instance.now case.sets.now c.args.table.now best.best.table better.new.best better.new.table
    c.args.own_worth best.best.worth better.result
    (record { fits = c.requires.fits; holds = c.requires.holds; is_worth = c.requires.worth })
    (record { fits = best.ensures.fits; holds = best.ensures.holds; is_worth = best.ensures.worth }) better.ensures in
    record {
      fits = is.lawful.fits;
      holds = is.lawful.holds;
      no_less = is.no_less;
      worth = is.lawful.is_worth;
      leads = leads_for case.instance.now case.nets.now case.sets.now _ c.requires.case c.in_ok-climbed.ensures.shares;
    }
