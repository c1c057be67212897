use Rattle.std.proofs.Common.{◌≡◌, ◌∙◌, ◌≤ℤ◌, ℕ, pos, arith, inl, inr, subst}
use Rattle.std.proofs.lemmas.Int.{ints}
use Rattle.std.proofs.lemmas.Bool.{cases_lt}
use Rattle.std.proofs.lemmas.List.{get_or_past}
use Rattle.vs_path.specs.Residual.{price_at}
use Rattle.vs_ship.proofs.shipping.Shipping.{ships-on}
use Rattle.vs_ship.proofs.draining.drain_from.Goals as goal

pub returns-then-not-drain_node-clause-ships : goal.returns-then-not-drain_node-clause-ships
returns-then-not-drain_node-clause-ships c =
    ships-on c.args.net.now c.args.shipment.now c.loop-node.shipment c.drain_node.new.shipment
    c.loop-node.invariant.ships c.drain_node.ensures.ships

pub loop-node-preserved : goal.loop-node-preserved
loop-node-preserved c =
    let now = c.drain_node.new.shipment in
    let inv = c.loop-node.invariant in
    record {
      ships = ships-on c.args.net.now c.args.shipment.now c.loop-node.shipment now inv.ships c.drain_node.ensures.ships;
      place = omega (arith, inv.place);
      none_left = λ v below of_first.
          elim (cases_lt v c.loop-node.node) [
            | inl before ↦ c.drain_node.ensures.ships.none_left v (inv.none_left v before of_first)
            | inr after ↦
                let e : c.loop-node.node ≡ v = omega (arith, inv.place, of_first, below, after) in
                let P : ℕ → Type 0 = λ u. price_at now.surplus.items u ≤ℤ pos 0 in
                subst P e c.if-not-drain_node.ensures.left
          ];
      nodes = c.drain_node.ensures.nodes ∙ inv.nodes;
      loads = c.drain_node.ensures.loads;
    }

pub returns-clause-left : goal.returns-clause-left
returns-clause-left c =
    let xs = c.loop-node.shipment.surplus.items in
    let inv = c.loop-node.invariant in
    λ v of_first.
    elim (cases_lt v c.loop-node.node) [
      | inl before ↦ inv.none_left v before of_first
      | inr after ↦
          let past = get_or_past xs v (pos 0) (omega
          (arith, inv.ships.can.sized.surplus, c.nodes.ensures.count, c.loop-node-test.false)) in
          omega (arith, ints, past)
    ]
