use Rattle.std.proofs.Common.{rules}
use Rattle.vs_need.proofs.scratch.Scratch.new.Goals as goal

pub returns : goal.returns
returns c = record {
  values = λ l within. let most = c.most_nodes-nodes.ensures l within in search rules;
  outs = search rules;
  nexts = search rules;
  ins = search rules;
  links = search rules;
}
