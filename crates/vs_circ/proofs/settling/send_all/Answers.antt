use Rattle.std.proofs.Common.{◌≡◌, ◌∙◌, ℕ, ℤ, [], ap, sym, subst, arith, Option, Some, None, MatchOption, ◌+ℤ◌}
use Rattle.std.proofs.lemmas.Int.{ints}
use Rattle.vs_layer.specs.Graph.{Graph}
use Rattle.vs_path.specs.declared.residual.Costs.{Costs}
use Rattle.vs_ship.specs.Balance.{gained, weighed}
use Rattle.vs_circ.specs.shipping.Prepared.{AreOfferedCosts, AreOfferedRooms}
use Rattle.vs_ship.specs.Shipments.{IsDrained, IsStuck, Ships}
use Rattle.vs_circ.proofs.shipping.Settling.{is-settled, not-stuck}
use Rattle.vs_circ.proofs.settling.send_all.Goals as goal

-- the first of two, where the second can't be
none_of : (found : Option ℕ) (P : Type 0) (Q : ℕ → Type 0) → MatchOption found P Q → ((k : ℕ) → Q k → ⊥) → P
none_of None P Q is never = is
none_of (Some k) P Q is never = absurd (never k is)

pub returns-clause-kept : goal.returns-clause-kept
returns-clause-kept c =
    let Sent : Graph → Type 0 = λ g. Ships g c.args.kept.now.shipment c.drain.new.shipment in
    let ships = subst Sent c.net.ensures.graph c.drain.ensures.ships in
    record {
      sized = ships.can.sized;
      before = c.requires.kept.before;
      nodes = c.drain.ensures.nodes ∙ c.requires.kept.nodes;
      lists = c.drain.ensures.lists ∙ ap (λ (g : Graph). g.nodes) c.net.ensures.graph;
      space = c.requires.kept.space;
    }

pub returns-clause-settled : goal.returns-clause-settled
returns-clause-settled c =
    let n = c.args.net.now in
    let layer = c.requires.of_layer in
    let offers = c.args.offers.now in
    let ready = c.args.kept.now.shipment in
    let now = c.drain.new.shipment in
    let reached = c.drain.new.search.reached in
    let Sent : Graph → Type 0 = λ g. Ships g ready now in
    let ships = subst Sent c.net.ensures.graph c.drain.ensures.ships in
    let ready_balanced : (weight : ℕ → ℤ)
    → weighed weight ready.surplus.items ≡ weighed weight [] +ℤ gained weight n.graph.arcs ready.flow.units.items =
    λ weight. let left = c.requires.left.balanced weight in omega (arith, ints, left) in
    let balanced : (weight : ℕ → ℤ)
    → weighed weight now.surplus.items ≡ gained weight n.graph.arcs now.flow.units.items =
    λ weight. let sent = ships.balanced [] ready_balanced weight in omega (arith, ints, sent) in
    let Stuck : Graph → ℕ → Type 0 = λ g source. IsStuck g now source reached in
    let Ends : Graph → Type 0 = λ g. MatchOption c.drain.result (IsDrained now.surplus.items) (Stuck g) in
    let drained =
    none_of c.drain.result (IsDrained now.surplus.items) (Stuck n.graph)
    (subst Ends c.net.ensures.graph c.drain.ensures.left)
    (λ source stuck. not-stuck n.graph now source reached ships.can balanced stuck) in
    is-settled layer.0 layer.2 layer.1 n layer.3 offers now ships.can drained balanced
    (subst (λ (cs : Costs). AreOfferedCosts n offers cs.cost.items) (sym ships.same_costs) c.requires.cost)
    (subst (λ (cs : Costs). AreOfferedRooms n offers cs.room.items) (sym ships.same_costs) c.requires.room)
