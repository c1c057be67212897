use Rattle.vs_tree.proofs.Spots.{split-steps}
use Rattle.vs_tree.proofs.places.Places.split.Goals as goal

pub returns-clause-places : goal.returns-clause-places
returns-clause-places c =
    split-steps c.args.self.now.places c.add_lower-lower.new.self.places c.add.new.self.places c.args.k c.args.trip
    c.args.left c.args.right c.args.table c.requires.spot c.add_lower-lower.ensures.places c.add.ensures.places
