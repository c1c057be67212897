use Rattle.std.proofs.Common.{◌∙◌, ◌<◌, List, length, ap, subst, arith}
use Rattle.std.proofs.lemmas.List.{with_items_is}
use Rattle.vs_tree.specs.History.{Took, is_inner}
use Rattle.vs_tree.specs.Search.{IsHandOf, state}
use Rattle.vs_types.specs.declared.layer_set.LayerSet.{LayerSet}
use Rattle.vs_tree.specs.declared.calls.Hand.{Hand}
use Rattle.vs_tree.proofs.CallerLemmas.{histories_are_sound, leaf_within, idle-hand}
use Rattle.vs_replay.proofs.MadeSteps.{not_made, sized_at, took}
use Rattle.vs_replay.proofs.steps.take.Goals as goal

pub returns-then-w-workers-clause-made : goal.returns-then-w-workers-clause-made
returns-then-w-workers-clause-made c =
    not_made c.args.tree.now c.args.tree.now (Took c.args.w c.args.leaf)
    (λ may. omega (arith, may.is_worker, c.if-w-workers.true, c.workers.ensures))

pub returns-in_default-clause-made : goal.returns-in_default-clause-made
returns-in_default-clause-made c =
    let t = c.args.tree.now in
    not_made t t (Took c.args.w c.args.leaf)
    (λ may. c.in_default.not-Idle (idle-hand (state t) c.args.w c.hand.result c.hand.ensures may.idle may.stays))

pub take-requires-clause-idle : goal.take-requires-clause-idle
take-requires-clause-idle c =
    let t = c.args.tree.now in
    (subst (λ (h : Hand). IsHandOf (state t) c.args.w h) c.in-Idle.is c.hand.ensures).0

pub take-requires-clause-stays : goal.take-requires-clause-stays
take-requires-clause-stays c =
    let t = c.args.tree.now in
    (subst (λ (h : Hand). IsHandOf (state t) c.args.w h) c.in-Idle.is c.hand.ensures).1

pub returns-in-Node-clause-made : goal.returns-in-Node-clause-made
returns-in-Node-clause-made c =
    let t = c.args.tree.now in
    let answer = c.in-Node.ensures.answer in
    let hand = subst (λ (h : Hand). IsHandOf (state t) c.args.w h) c.in-Idle.is c.hand.ensures in
    let worker : c.args.w < t.opening.workers = omega (arith, c.if-w-workers.false, c.workers.ensures) in
    took t c.take.new.self c.args.w c.in-Node.next c.args.leaf answer.0 answer.1 worker hand.0 hand.1
    c.in-Node.ensures.search

pub returns-in-Node-clause-ground : goal.returns-in-Node-clause-ground
returns-in-Node-clause-ground c =
    let t = c.args.tree.now in
    let known = c.instance-instance.ensures in
    let sound = histories_are_sound t.opening t.steps known.opening known.history in
    let answer = c.in-Node.ensures.answer in
    record {
      nets = c.requires.nets;
      room = c.requires.room;
      sets = ap (λ (sets : List LayerSet). length sets)
          (with_items_is c.args.ground.now.sets c.take.new.sets (c.take.auto.sets ∙ c.deref_mut.ensures.len)
          ∙ answer.3)
          ∙ (sound.restrictions c.in-Node.next
          (leaf_within (state t).places c.in-Node.next (ap is_inner answer.1.free.1))).each_trip;
      table = sized_at t.opening (state t) sound c.in-Node.next answer.1.free c.take.new.table answer.4;
    }
