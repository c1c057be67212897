use Rattle.std.proofs.Common.{arith}
use Rattle.vs_ship.proofs.shipping.Keeping.{added-at}
use Rattle.vs_ship.proofs.work.Work.renew.Goals as goal

pub returns : goal.returns
returns c =
    added-at c.args.net.now c.args.self.now.kept.items c.push.new.self.items c.in_ok-kept.kept c.args.place
    c.in_ok-push.ensures.items (omega (arith, c.requires, c.if-place-len.false, c.len.ensures))
    c.in_ok-kept.ensures.kept.ready c.in_ok-kept.ensures.new
