use Rattle.vs_node.proofs.searches.WorkedSearches.{worked_searches_reach_the_start}
use Rattle.vs_node.proofs.working.worked_searches_reach_the_start.Goals as goal

pub returns : goal.returns
returns c = worked_searches_reach_the_start
