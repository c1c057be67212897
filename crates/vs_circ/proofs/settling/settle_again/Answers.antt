use Rattle.std.proofs.Common.{◌≡◌, ◌∙◌, refl, sym, subst}
use Rattle.vs_ship.specs.declared.start.Start.{Start}
use Rattle.vs_circ.specs.shipping.Refitted.{AreForOffers, WasSettled}
use Rattle.vs_circ.proofs.settling.settle_again.Goals as goal

pub returns-clause-kept : goal.returns-clause-kept
returns-clause-kept c =
    let n = c.args.net.now in
    let old = c.args.kept.now in
    let new = c.send_all.new.kept in
    let ready = c.send_all.ensures.kept in
    let settled = c.send_all.ensures.settled in
    let costs : AreForOffers n new.shipment.costs = record {
      offers = c.args.offers.now;
      cost = settled.offered.costs;
      room = settled.offered.rooms;
    } in
    let same : new.before ≡ old.before = c.send_all.ensures.before ∙ c.prepare_again.ensures.before in
    let said : new.was_settled ≡ old.was_settled =
    c.send_all.ensures.was_settled ∙ c.prepare_again.ensures.was_settled in
    let Was : Start → Type 0 = λ start. WasSettled n start.units.items start.prices.items in
    record {
      ready = record {
        sized = ready.sized;
        before = ready.before;
        nodes = ready.nodes;
        lists = ready.lists;
        space = ready.space;
      };
      now = λ yes. (
        record {
          offers = c.args.offers.now;
          shipment = new.shipment;
          settled = settled;
          units_are = refl;
          prices_are = refl;
        },
        costs,
      );
      before = λ yes. (subst Was (sym same) (c.requires.kept.before (sym said ∙ yes)).0, costs);
    }
