use Rattle.std.proofs.Common.{◌∙◌, ◌%◌, ◌<◌, arith, inl, inr}
use Rattle.std.proofs.lemmas.Bool.{cases_lt}
use Rattle.vs_ship.specs.declared.draining.TheConstants.{STRIDE}
use Rattle.vs_ship.proofs.balance.Numbers.{all-none}
use Rattle.vs_ship.proofs.shipping.Shipping.{ships-on}
use Rattle.vs_ship.proofs.draining.drain.Goals as goal

pub returns-in-Some-clause-ships : goal.returns-in-Some-clause-ships
returns-in-Some-clause-ships c =
    ships-on c.args.net.now c.args.shipment.now c.loop-first.shipment c.drain_from.new.shipment
    c.loop-first.invariant.ships c.in-Some.ensures.ships

pub loop-first-preserved : goal.loop-first-preserved
loop-first-preserved c =
    let now = c.drain_from.new.shipment in
    let inv = c.loop-first.invariant in
    record {
      ships = ships-on c.args.net.now c.args.shipment.now c.loop-first.shipment now inv.ships
          c.in_default.ensures.ships;
      none_left = λ v below.
          elim (cases_lt (v % STRIDE) c.loop-first.first) [
            | inl before ↦ c.in_default.ensures.ships.none_left v (inv.none_left v before)
            | inr last ↦ c.in_default.ensures.left v (omega (arith, below, last))
          ];
      nodes = c.in_default.ensures.nodes ∙ inv.nodes;
      loads = c.in_default.ensures.loads;
    }

pub returns-clause-left : goal.returns-clause-left
returns-clause-left c =
    let inv = c.loop-first.invariant in
    all-none c.loop-first.shipment.surplus.items
    (λ v.
    let below : v % STRIDE < c.loop-first.first = omega (arith, c.loop-first-test.false) in
    inv.none_left v below)
    inv.ships.can.even
