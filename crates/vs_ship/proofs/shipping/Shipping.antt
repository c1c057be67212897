-- Shipments one after another, and one from which nothing is sent.
use Rattle.std.proofs.Common.{◌≡◌, ◌∙◌, List, length, refl, sym, ap, subst, arith, Vec, Global, ℤ}
use Rattle.std.proofs.lemmas.Int.{ints}
use Rattle.vs_layer.specs.Graph.{Graph}
use Rattle.vs_path.specs.declared.residual.TheConstants.{MAX_SEARCH_PRICE}
use Rattle.vs_path.specs.Residual.{HasSignRule, IsWithin, AllWithin, price_at}
use Rattle.vs_ship.specs.declared.shipment.Shipment.{Shipment}
use Rattle.vs_ship.specs.declared.shipment.TheConstants.{MAX_FIRST_PRICE}
use Rattle.vs_ship.specs.Shipments.{CanShip, Ships, residual_of}

-- nothing is sent, and the prices are the same
pub ships-same : (g : Graph) (s : Shipment) (prices : Vec ℤ Global) → CanShip g s → prices.items ≡ s.prices.items
    → Ships g s (record s { prices = prices })
ships-same g s prices can same = record {
  can = record {
    sized = record {
      units = can.sized.units;
      cost = can.sized.cost;
      room = can.sized.room;
      prices = ap length same ∙ can.sized.prices;
      surplus = can.sized.surplus;
    };
    nodes = can.nodes;
    costs = can.costs;
    rooms = can.rooms;
    prices = subst (AllWithin MAX_SEARCH_PRICE) (sym same) can.prices;
    first = λ v lacks. subst (λ (ps : List ℤ). IsWithin MAX_FIRST_PRICE (price_at ps v)) (sym same) (can.first v lacks);
    signs = subst (λ (ps : List ℤ). HasSignRule (residual_of g s) ps) (sym same) can.signs;
    in_room = can.in_room;
    even = can.even;
  };
  same_costs = refl;
  balanced = λ supply balance. balance;
  few = λ k within. omega (arith, ints);
  fell = λ v. let e = ap (λ (ps : List ℤ). price_at ps v) same in omega (arith, ints, e);
  none_left = λ v none. none;
}

pub ships-on : (g : Graph) (a b c : Shipment) → Ships g a b → Ships g b c → Ships g a c
ships-on g a b c ab bc = record {
  can = bc.can;
  same_costs = bc.same_costs ∙ ab.same_costs;
  balanced = λ supply balance. bc.balanced supply (ab.balanced supply balance);
  few = λ k within. let first = ab.few k within in let second = bc.few k within in omega (arith, ints, first, second);
  fell = λ v. let first = ab.fell v in let second = bc.fell v in omega (arith, ints, first, second);
  none_left = λ v none. bc.none_left v (ab.none_left v none);
}
