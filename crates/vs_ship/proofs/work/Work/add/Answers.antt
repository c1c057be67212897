use Rattle.std.proofs.Common.{arith}
use Rattle.vs_ship.proofs.shipping.Keeping.{kept-at}
use Rattle.vs_ship.proofs.work.Work.add.Goals as goal

pub returns : goal.returns
returns c =
    kept-at c.args.net.now c.args.self.now.kept.items c.push.new.self.items c.in_ok-kept.kept c.len-place.result
    c.in_ok-push.ensures.items (omega arith) c.in_ok-kept.ensures.kept.ready
