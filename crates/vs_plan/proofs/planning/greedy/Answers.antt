use Rattle.std.proofs.Common.{◌≡◌, ℕ, List, [], ◌<◌, ◌≤◌, take, get_or, length, sym, ap, ◌∙◌, subst, arith, rules}
use Rattle.std.proofs.lemmas.List.{take_all, take_more}
use Rattle.vs_types.specs.declared.numbers.TripNo.{TripNo}
use Rattle.vs_plan.specs.Blocks.{pairs_of}
use Rattle.vs_instance.specs.Problem.{Problem}
use Rattle.vs_instance.specs.Plan.{LayerBlock}
use Rattle.vs_plan.specs.Greedy.{GreedyGives, IsOrder, Places}
use Rattle.vs_plan.proofs.Placing.{IsPlan-from_places, Places-push, order_below, stuck_at}
use Rattle.vs_plan.proofs.planning.greedy.Goals as goal

pub place-requires-clause-trip : goal.place-requires-clause-trip
place-requires-clause-trip c =
    let order = c.in_ok-order.order.items in
    let is = c.deref-i-items.ensures.value in
    subst (λ (xs : List TripNo).
    (get_or xs c.loop-i.i-index (record { 0 = 0 })).0 < length c.args.instance.now.trips) (sym is)
    (order_below c.args.instance.now order c.in_ok-order.ensures.order c.loop-i.i-index (record { 0 = 0 })
    (omega (arith, ap length is)))

pub returns-then-not-branch-clause-stuck : goal.returns-then-not-branch-clause-stuck
returns-then-not-branch-clause-stuck c =
    let p = c.args.instance.now in
    let is = c.deref-i-items.ensures.value in
    stuck_at p c.deref-i-items.result.now c.loop-i.i-index (record { 0 = 0 }) (pairs_of c.loop-i.draft.blocks.items)
    (subst (IsOrder p) (sym is) c.in_ok-order.ensures.order) c.loop-i-test.true c.loop-i.invariant.placed
    (rw c.if-not-branch.true at c.in_ok-place.ensures.placed)

pub loop-i-preserved : goal.loop-i-preserved
loop-i-preserved c =
    let p = c.args.instance.now in
    let order = c.deref-i-items.result.now in
    record {
      placed = subst (λ (xs : List TripNo). Places p [] xs (pairs_of c.place.new.self.blocks.items))
          (sym (take_more order c.loop-i.i-index (record { 0 = 0 }) c.loop-i-test.true))
          (Places-push p (take c.loop-i.i-index order) [] (pairs_of c.loop-i.draft.blocks.items)
          (pairs_of c.place.new.self.blocks.items)
          (get_or order c.loop-i.i-index (record { 0 = 0 })) c.loop-i.invariant.placed
          (rw c.if-not-branch.false at c.in_ok-place.ensures.placed));
      read = search rules;
      left = search rules;
    }

-- once all trips are taken they are placed
placed_all : (p : Problem) (order taken : List TripNo) (blocks : List LayerBlock) (i : ℕ) → taken ≡ order
    → length taken ≤ i
    → Places p [] (take i taken) blocks → Places p [] order blocks
placed_all p order taken blocks i same past placed =
    subst (λ (xs : List TripNo). Places p [] xs blocks) (take_all i taken past ∙ same) placed

pub of-requires : goal.of-requires
of-requires c =
    IsPlan-from_places c.args.instance.now c.in_ok-order.order.items
    (pairs_of c.loop-i.draft.blocks.items) c.in_ok-order.ensures.order
    (placed_all c.args.instance.now c.in_ok-order.order.items c.deref-i-items.result.now
    (pairs_of c.loop-i.draft.blocks.items)
    c.loop-i.i-index c.deref-i-items.ensures.value c.loop-i-test.false c.loop-i.invariant.placed)

pub returns-clause-given : goal.returns-clause-given
returns-clause-given c =
    subst (GreedyGives c.args.instance.now) (sym c.of.ensures.blocks) (record {
      order = c.in_ok-order.order.items;
      is_order = c.in_ok-order.ensures.order;
      placed = placed_all c.args.instance.now c.in_ok-order.order.items c.deref-i-items.result.now
          (pairs_of c.loop-i.draft.blocks.items)
          c.loop-i.i-index c.deref-i-items.ensures.value c.loop-i-test.false c.loop-i.invariant.placed;
    })
