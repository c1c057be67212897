use Rattle.std.proofs.Common.{◌∙◌, ℕ, ◌<◌, List, length, sym, ap, subst, ℤ}
use Rattle.vs_match.specs.LayerNets.{net_at}
use Rattle.vs_need.specs.Nets.{CanBePassed}
use Rattle.vs_need.specs.Gains.{AreGains}
use Rattle.vs_need.proofs.FoundFor.{found_for, length-prices, prices-are}
use Rattle.vs_need.proofs.LawfulPasses.{can_be_passed}
use Rattle.vs_need.proofs.finding.find.Goals as goal

pub pass-requires-clause-net : goal.pass-requires-clause-net
pass-requires-clause-net g c =
    let given = c.requires.1 in
    let n = net_at (g.N.ArcReader.nets c.args.nets.now) c.args.at.l.0 in
    let cut = prices-are g.p c.args.at.l.0 c.args.trips c.args.table.now.into.items c.deref.result.now given.trips_are
    c.deref.ensures.value in
    let size = ap (λ (xs : List ℤ). length xs) cut
    ∙ length-prices g.p c.args.at.l.0 c.args.table.now.into.items given.layer given.fits.into_size in
    let of_net = subst (λ (m : ℕ). c.args.at.l.0 < m) (sym given.nets_are.of_layers.each_layer) given.layer in
    subst (CanBePassed n) (sym size)
    (can_be_passed g.p c.args.at.l.0 n (given.nets_are.of_layers.lawful c.args.at.l.0 of_net)
    (given.nets_are.rising c.args.at.l.0 of_net))

pub returns-clause-found : goal.returns-clause-found
returns-clause-found g c =
    let given = c.requires.1 in
    let n = net_at (g.N.ArcReader.nets c.args.nets.now) c.args.at.l.0 in
    let cut = prices-are g.p c.args.at.l.0 c.args.trips c.args.table.now.into.items c.deref.result.now given.trips_are
    c.deref.ensures.value in
    let of_net = subst (λ (m : ℕ). c.args.at.l.0 < m) (sym given.nets_are.of_layers.each_layer) given.layer in
    let P : List ℤ → Type 0 = λ into. AreGains n into c.args.table.now.ray c.args.at.aim c.pass.new.found in
    found_for g.p c.args.at.l.0 n (given.nets_are.of_layers.lawful c.args.at.l.0 of_net) c.args.table.now
    c.pass.new.found c.args.at.aim
    (subst P cut c.pass.ensures.found)
