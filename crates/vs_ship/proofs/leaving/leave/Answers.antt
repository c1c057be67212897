use Rattle.std.proofs.Common.{◌≡◌, ◌∙◌, ◌<◌, ◌*◌, ℕ, ℤ, List, pos, ap, sym, arith, length, get_or, map}
use Rattle.std.specs.List.{range_with_len}
use Rattle.std.proofs.lemmas.Int.{ints}
use Rattle.vs_instance.proofs.CallerLemmas.{total-range_next}
use Rattle.vs_layer.specs.declared.arc.Arc.{Arc}
use Rattle.vs_layer.specs.Graph.{arc_of}
use Rattle.vs_instance.specs.declared.limits.TheConstants.{MAX_FLEET}
use Rattle.vs_instance.specs.Lagrangian.{total}
use Rattle.vs_path.specs.Residual.{price_at}
use Rattle.vs_ship.specs.Balance.{weighed}
use Rattle.vs_ship.specs.Leaving.{passed_along}
use Rattle.vs_ship.proofs.balance.Numbers.{total-none}
use Rattle.vs_ship.proofs.balance.Weighed.{weighed-none}
use Rattle.vs_ship.proofs.balance.AtMost.{gained_on}
use Rattle.vs_ship.proofs.balance.InOrder.{gained-in_order}
use Rattle.vs_ship.proofs.balance.Leaving.{passed-total, passed-weighed, passed-within}
use Rattle.vs_ship.proofs.leaving.leave.Goals as goal

pub loop-k-init : goal.loop-k-init
loop-k-init c = record {
  balanced = λ weight. weighed-none weight c.clear.new.numbers c.clear.ensures;
  even = total-none c.clear.new.numbers c.clear.ensures;
  within = λ v. let none = c.clear.ensures v in record {
    low = omega (arith, ints, none);
    high = omega
        (arith, ints, none);
  };
}

pub pass-requires : goal.pass-requires
pass-requires c =
    let right =
    c.arcs-k-end.ensures.net.each_arc c.loop-k.k (omega (arith, c.loop-k-test.true, c.arcs-k-end.ensures.count)) in
    let arc = c.arc.ensures in
    let few_arcs = c.arcs-k-end.ensures.net.few_arcs in
    let size = c.loop-k.auto.surplus ∙ c.clear.auto.numbers ∙ c.requires.each_node in
    record {
      from = omega (arith, size, right.from, ap (λ (a : Arc). a.from) arc);
      to = omega (arith, size, right.to, ap (λ (a : Arc). a.to) arc);
      few = c.requires.few c.loop-k.k (omega (arith, c.loop-k-test.true, c.arcs-k-end.ensures.count));
      within = λ v.
          let near = c.loop-k.invariant.within v in
          record {
            low = omega (arith, ints, near.low, few_arcs, c.loop-k-test.true, c.arcs-k-end.ensures.count);
            high = omega (arith, ints, near.high, few_arcs, c.loop-k-test.true, c.arcs-k-end.ensures.count);
          };
    }

pub loop-k-preserved : goal.loop-k-preserved
loop-k-preserved c =
    let g = c.args.net.now in
    let k = c.loop-k.k in
    let units = c.args.units.now in
    let n = get_or units k 0 in
    let old = c.loop-k.surplus in
    let inv = c.loop-k.invariant in
    let inside : k < length g.arcs = omega (arith, c.loop-k-test.true, c.arcs-k-end.ensures.count) in
    let right = c.arcs-k-end.ensures.net.each_arc k inside in
    let size = c.loop-k.auto.surplus ∙ c.clear.auto.numbers ∙ c.requires.each_node in
    let from : (arc_of g k).from < length old = omega (arith, size, right.from) in
    let to : (arc_of g k).to < length old = omega (arith, size, right.to) in
    let is : c.pass.new.surplus ≡ passed_along old (arc_of g k) n =
    c.pass.ensures ∙ ap (λ (a : Arc). passed_along old a n) c.arc.ensures in
    let few = c.requires.few k inside in
    record {
      balanced = λ weight.
          let same = ap (weighed weight) is in
          let here = passed-weighed old (arc_of g k) n from to weight in
          let before = inv.balanced weight in
          let more = total-range_next (gained_on weight g.arcs units) k in
          omega (arith, ints, same, here, before, more);
      even = ap total is ∙ passed-total old (arc_of g k) n from to ∙ inv.even;
      within = λ v.
          let near = passed-within old (arc_of g k) n from to (pos (2 * MAX_FLEET * k)) inv.within v in
          let same = ap (λ (xs : List ℤ). price_at xs v) is in
          record {
            low = omega (arith, ints, near.low, same, few);
            high = omega (arith, ints, near.high, same, few);
          };
    }

pub returns : goal.returns
returns c =
    let g = c.args.net.now in
    let units = c.args.units.now in
    let inv = c.loop-k.invariant in
    let all : c.loop-k.k ≡ length g.arcs =
    omega (arith, c.loop-k-test.false, c.arcs-k-end.ensures.count, c.loop-k.auto.k-end) in
    record {
      each_node = c.loop-k.auto.surplus ∙ c.clear.auto.numbers ∙ c.requires.each_node;
      balanced = λ weight.
          inv.balanced weight
          ∙ ap (λ (n : ℕ). total (map (gained_on weight g.arcs units) (range_with_len 0 n))) all
          ∙ sym (gained-in_order weight g.arcs units c.requires.each_arc);
      even = inv.even;
    }
