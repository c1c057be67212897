use Rattle.std.proofs.Common.{arith, subst}
use Rattle.std.proofs.lemmas.Bool.{false≢true}
use Rattle.vs_tree.specs.Search.{IsHandOf, state}
use Rattle.vs_tree.specs.declared.calls.Hand.{Hand}
use Rattle.vs_trace.proofs.CallerLemmas.{holders}
use Rattle.vs_replay.proofs.MadeSteps.{hand_may_offer, hand_may_not}
use Rattle.vs_tree.proofs.CallerLemmas.{histories_are_sound}
use Rattle.vs_replay.proofs.hands.may_offer.Goals as goal

pub returns-then-w-workers : goal.returns-then-w-workers
returns-then-w-workers c = (
  λ t. absurd (false≢true t),
  λ may.
      let t = c.args.tree.now in
      let known = c.instance-instance.ensures in
      let below = holders t.opening known.opening t.steps known.history c.args.w may.holds.0 may.holds.1 in
      absurd (omega (arith, below, c.if-w-workers.true, c.workers.ensures)),
)

pub returns-in-Has : goal.returns-in-Has
returns-in-Has c =
    let t = c.args.tree.now in
    hand_may_offer (state t) c.args.w c.in-Has.leaf c.in-Has.offered
    (subst (λ (h : Hand). IsHandOf (state t) c.args.w h) c.in-Has.is c.hand.ensures)

pub returns-in_default : goal.returns-in_default
returns-in_default c =
    let t = c.args.tree.now in
    let known = c.instance-instance.ensures in
    let sound = histories_are_sound t.opening t.steps known.opening known.history in (
      λ s. absurd (false≢true s),
      λ may. absurd (hand_may_not t.opening (state t) sound c.args.w c.hand.result c.hand.ensures c.in_default.not-Has
          may),
    )
