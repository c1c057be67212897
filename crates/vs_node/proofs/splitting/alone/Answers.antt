use Rattle.vs_node.proofs.sets.SetMembers.{layer_alone-part}
use Rattle.vs_node.proofs.splitting.alone.Goals as goal

pub returns : goal.returns
returns c =
    layer_alone-part c.only.result c.args.set c.requires.choice
    (record { layer = c.args.l.0; among = c.requires.among; alone = c.only.ensures }) c.requires.few
