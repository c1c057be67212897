use Rattle.vs_node.proofs.sets.Leads.{leads_for}
use Rattle.vs_node.proofs.climbing.as_it_is.Goals as goal

pub returns-clause-leads : goal.returns-clause-leads
returns-clause-leads c =
    let case = c.args.case.now in
    leads_for case.instance.now case.nets.now case.sets.now _ c.requires.case c.in_ok-none.ensures.shares
