use Rattle.std.proofs.Common.{◌≡◌, ◌≢◌, ◌<◌, ◌≤◌, ◌+◌, ◌*◌, ◌∙◌, ℕ, ℤ, List, pos, length, get_or, map, set, sym, subst, ap, arith, inl, inr}
use Rattle.std.specs.List.{range_with_len}
use Rattle.std.proofs.lemmas.Int.{ints}
use Rattle.std.proofs.lemmas.Bool.{cases_lt}
use Rattle.std.proofs.lemmas.List.{get_or-set_same, get_or-set_other, get_or_default}
use Rattle.vs_layer.specs.declared.arc.Arc.{Arc}
use Rattle.vs_layer.specs.Graph.{arc_of}
use Rattle.vs_instance.specs.declared.limits.TheConstants.{MAX_FLEET}
use Rattle.vs_instance.specs.Lagrangian.{total}
use Rattle.vs_path.specs.Residual.{price_at}
use Rattle.vs_ship.specs.Balance.{weighed}
use Rattle.vs_ship.specs.Leaving.{passed_along}
use Rattle.vs_ship.specs.Suiting.{DoSuit, worth_less}
use Rattle.vs_ship.proofs.balance.AtMost.{gained_on}
use Rattle.vs_ship.proofs.balance.InOrder.{gained-in_order}
use Rattle.vs_ship.proofs.balance.Leaving.{gained-set, passed-total, passed-weighed, passed-within}
use Rattle.vs_ship.proofs.balance.Numbers.{total-none}
use Rattle.vs_ship.proofs.balance.Weighed.{weighed-none}
use Rattle.vs_ship.proofs.fitting.suit.Goals as goal

-- the same of equal numbers
suit-as : (loss loss' : ℤ) (room room' most most' n : ℕ) → loss ≡ loss' → room ≡ room' → most ≡ most'
    → DoSuit loss room most n → DoSuit loss' room' most' n
suit-as loss loss' room room' most most' n same_loss same_room same_most suits =
    subst (λ (m : ℕ). DoSuit loss' room' m n) same_most
    (subst (λ (m : ℕ). DoSuit loss' m most n) same_room
    (subst (λ (z : ℤ). DoSuit z room most n) same_loss suits))

-- so do the units of one arc more
suits-more : (loss : ℕ → ℤ) (room most : ℕ → ℕ) (units : List ℕ) (k n : ℕ) → k < length units
    → DoSuit (loss k) (room k) (most k) n
    → ((j : ℕ) → j < k → DoSuit (loss j) (room j) (most j) (get_or units j 0))
    → (j : ℕ) → j < k + 1 → DoSuit (loss j) (room j) (most j) (get_or (set units k n) j 0)
suits-more loss room most units k n within here before j below =
    elim (cases_lt j k) [
      | inl less ↦
          let other : j ≢ k = λ e. omega arith in
          subst (λ (m : ℕ). DoSuit (loss j) (room j) (most j) m) (sym (get_or-set_other units k j n 0 (λ e. other e)))
          (before j less)
      | inr last ↦
          let e : k ≡ j = omega arith in
          subst (λ (i : ℕ). DoSuit (loss i) (room i) (most i) (get_or (set units k n) i 0)) e
          (subst (λ (m : ℕ). DoSuit (loss k) (room k) (most k) m) (sym (get_or-set_same units k n 0 within)) here)
    ]

pub loop-k-init : goal.loop-k-init
loop-k-init c = record {
  suits = λ j below. absurd (omega (arith, below));
  balanced = λ weight. weighed-none weight c.clear.new.numbers c.clear.ensures;
  even = total-none c.clear.new.numbers c.clear.ensures;
  within = λ v. let none = c.clear.ensures v in record {
    low = omega (arith, ints, none);
    high = omega (arith, ints, none);
  };
}

pub pass-requires : goal.pass-requires
pass-requires c =
    let inside : c.loop-k.k < length c.args.net.now.arcs =
    omega (arith, c.loop-k-test.true, c.arcs-k-end.ensures.count) in
    let right = c.arcs-k-end.ensures.net.each_arc c.loop-k.k inside in
    let arc = c.arc-arc.ensures in
    let few_arcs = c.arcs-k-end.ensures.net.few_arcs in
    let size = c.loop-k.auto.surplus ∙ c.clear.auto.numbers ∙ c.requires.surplus in
    let room = c.requires.few c.loop-k.k inside in
    record {
      from = omega (arith, size, right.from, ap (λ (a : Arc). a.from) arc);
      to = omega (arith, size, right.to, ap (λ (a : Arc). a.to) arc);
      few = omega (arith, room, c.in-Some.ensures.few, ap (λ (a : Arc). a.room) arc);
      within = λ v.
          let near = c.loop-k.invariant.within v in
          record {
            low = omega (arith, ints, near.low, few_arcs, inside);
            high = omega (arith, ints, near.high, few_arcs, inside);
          };
    }

pub loop-k-preserved : goal.loop-k-preserved
loop-k-preserved c =
    let g = c.args.net.now in
    let k = c.loop-k.k in
    let cost = c.args.costs.now.cost.items in
    let room = c.args.costs.now.room.items in
    let prices = c.args.prices.now in
    let within : k < length g.arcs = omega (arith, c.loop-k-test.true, c.arcs-k-end.ensures.count) in
    let cost_is = get_or_default cost k (pos 0) c.index.result.now (omega
    (arith, within, c.requires.cost_size)) ∙ sym c.index.ensures in
    let room_is = get_or_default room k 0 c.index-room.result.now (omega
    (arith, within, c.requires.room_size)) ∙ sym c.index-room.ensures in
    let from = ap (λ (a : Arc). price_at prices a.from) c.arc-arc.ensures in
    let to = ap (λ (a : Arc). price_at prices a.to) c.arc-arc.ensures in
    let small = c.requires.cost k in
    let small_from = c.requires.prices (arc_of g k).from in
    let small_to = c.requires.prices (arc_of g k).to in
    let n = c.in-Some.n in
    let units = c.loop-k.units in
    let old = c.loop-k.surplus in
    let inv = c.loop-k.invariant in
    let right = c.arcs-k-end.ensures.net.each_arc k within in
    let size = c.loop-k.auto.surplus ∙ c.clear.auto.numbers ∙ c.requires.surplus in
    let leaves : (arc_of g k).from < length old = omega (arith, size, right.from) in
    let reaches : (arc_of g k).to < length old = omega (arith, size, right.to) in
    let is : c.pass.new.surplus ≡ passed_along old (arc_of g k) n =
    c.pass.ensures ∙ ap (λ (a : Arc). passed_along old a n) c.arc-arc.ensures in
    let most : n ≤ MAX_FLEET =
    omega (
      arith,
      c.requires.few k within,
      c.in-Some.ensures.few,
      ap (λ (a : Arc). a.room) c.arc-arc.ensures,
    ) in
    let sized : k < length units = omega (arith, within, c.loop-k.auto.units, c.requires.units) in
    let suits =
    suits-more (worth_less g cost prices) (λ j. get_or room j 0) (λ j. (arc_of g j).room) units k n sized
    (suit-as _ (worth_less g cost prices k) c.index-room.result.now (get_or room k 0) c.arc-arc.result.room
    (arc_of g k).room
    c.in-Some.n
    (omega (
      arith,
      ints,
      c.loss_on-loss.ensures,
      cost_is,
      from,
      to,
      small.low,
      small.high,
      small_from.low,
      small_from.high,
      small_to.low,
      small_to.high,
    ))
    (sym room_is) (ap (λ (a : Arc). a.room) c.arc-arc.ensures) c.in-Some.ensures)
    inv.suits in
    record {
      suits = suits;
      balanced = λ weight.
          let same = ap (weighed weight) is in
          let here = passed-weighed old (arc_of g k) n leaves reaches weight in
          let before = inv.balanced weight in
          let more = gained-set weight g.arcs units k n sized in
          omega (arith, ints, same, here, before, more);
      even = ap total is ∙ passed-total old (arc_of g k) n leaves reaches ∙ inv.even;
      within = λ v.
          let near = passed-within old (arc_of g k) n leaves reaches (pos (2 * MAX_FLEET * k)) inv.within v in
          let same = ap (λ (xs : List ℤ). price_at xs v) is in
          record {
            low = omega (arith, ints, near.low, same, most);
            high = omega (arith, ints, near.high, same, most);
          };
    }

pub returns : goal.returns
returns c =
    let g = c.args.net.now in
    let units = c.loop-k.units in
    let inv = c.loop-k.invariant in
    let all : c.loop-k.k ≡ length g.arcs =
    omega (arith, c.loop-k-test.false, c.arcs-k-end.ensures.count, c.loop-k.auto.k-end) in (
      (λ k within. inv.suits k (omega (arith, within, all))),
      record {
        each_node = c.loop-k.auto.surplus ∙ c.clear.auto.numbers ∙ c.requires.surplus;
        balanced = λ weight.
            inv.balanced weight
            ∙ ap (λ (n : ℕ). total (map (gained_on weight g.arcs units) (range_with_len 0 n))) all
            ∙ sym (gained-in_order weight g.arcs units (c.loop-k.auto.units ∙ c.requires.units));
        even = inv.even;
      },
    )
