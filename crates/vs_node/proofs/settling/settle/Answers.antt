use Rattle.std.proofs.Common.{◌≡◌, ℕ, Bool, List, length, arith, subst}
use Rattle.std.proofs.lemmas.List.{length-append, length-drop, length-take}
use Rattle.vs_types.specs.declared.layer_set.LayerSet.{LayerSet}
use Rattle.vs_instance.specs.Plan.{LayerBlock}
use Rattle.vs_instance.specs.Problem.{Problem}
use Rattle.vs_plan.specs.Blocks.{pairs_of}
use Rattle.vs_prices.specs.declared.table.Table.{Table}
use Rattle.vs_circ.specs.Circulations.{IsFixed}
use Rattle.vs_node.specs.LayersDone.{AreDone, must_in}
use Rattle.vs_multi.proofs.CallerLemmas.{lawful_read}
use Rattle.vs_node.proofs.plans.FixedLayers.{layer_run}
use Rattle.vs_node.proofs.plans.Done.{all_layers-fit, done_shows}
use Rattle.vs_node.proofs.plans.LayerBlocks.{all_layers-plan}
use Rattle.vs_node.proofs.settling.settle.Goals as goal

pub fixed_in-requires-clause-lawful : goal.fixed_in-requires-clause-lawful
fixed_in-requires-clause-lawful c =
    lawful_read c.args.instance.now c.args.nets.now c.loop-l.l c.index-nets-l.result c.requires.nets
    (omega (arith, c.layers-l-end.ensures.count, c.loop-l-test.true)) c.index-nets-l.is

pub add-requires-clause-lawful : goal.add-requires-clause-lawful
add-requires-clause-lawful c =
    lawful_read c.args.instance.now c.args.nets.now c.loop-l.l c.index-nets-l.result c.requires.nets
    (omega (arith, c.layers-l-end.ensures.count, c.loop-l-test.true)) c.index-nets-l.is

pub add-requires-clause-circulation : goal.add-requires-clause-circulation
add-requires-clause-circulation c =
    let p = c.args.instance.now in
    let l = c.in_ok-answer.ensures in
    (subst (IsFixed p (record { 0 = c.loop-l.l }) c.index-nets-l.result (must_in c.args.sets.now c.loop-l.l))
    c.in-Covered.is c.in_ok-answer.ensures).0.circulation

pub ray_table-requires-clause-holding : goal.ray_table-requires-clause-holding
ray_table-requires-clause-holding c =
    let p = c.args.instance.now in
    (subst (IsFixed p (record { 0 = c.loop-l.l }) c.index-nets-l.result (must_in c.args.sets.now c.loop-l.l))
    c.in-Short.is c.in_ok-answer.ensures).2

pub returns-in-Short-clause-shows : goal.returns-in-Short-clause-shows
returns-in-Short-clause-shows c =
    let p = c.args.instance.now in
    c.in_ok-table-in-Short.ensures.worth c.args.sets.now c.requires.restriction c.requires.single
    (subst (IsFixed p (record { 0 = c.loop-l.l }) c.index-nets-l.result (must_in c.args.sets.now c.loop-l.l))
    c.in-Short.is c.in_ok-answer.ensures).3

pub loop-l-preserved : goal.loop-l-preserved
loop-l-preserved c =
    let p = c.args.instance.now in
    let sets = c.args.sets.now in
    let flow = c.in-Covered.flow in
    let prices = c.in-Covered.prices in
    let fixed =
    subst (IsFixed p (record { 0 = c.loop-l.l }) c.index-nets-l.result (must_in sets c.loop-l.l))
    c.in-Covered.is c.in_ok-answer.ensures in
    record {
      size = omega (
        arith,
        length-take {A = Bool},
        length-append {A = Bool},
        length-drop {A = Bool},
        c.fixed_in.auto.must,
        c.loop-l.must.ok.0,
        c.loop-l.invariant.size,
      );
      done =
          c.in_ok-add-in-Covered.ensures sets c.requires.restriction c.requires.single
          (layer_run p sets (record { 0 = c.loop-l.l }) c.index-nets-l.result flow prices c.in-Covered.cost fixed)
          c.loop-l.invariant.done;
    }

-- at the end of all layers all are done
done_all : (p : Problem) (sets : List LayerSet) (n : ℕ) (table : Table) (blocks : List LayerBlock) → n ≡ length p.layers
    → AreDone p sets n table blocks → AreDone p sets (length p.layers) table blocks
done_all p sets n table blocks all done = subst (λ (m : ℕ). AreDone p sets m table blocks) all done

pub of-plan-requires : goal.of-plan-requires
of-plan-requires c =
    let p = c.args.instance.now in
    let sets = c.args.sets.now in
    let blocks = pairs_of c.loop-l.run.blocks.items in
    let done = done_all p sets c.loop-l.l c.loop-l.run.table blocks
    (omega (arith, c.layers-l-end.ensures.count, c.loop-l-test.false, c.loop-l.auto.l-end)) c.loop-l.invariant.done in
    all_layers-plan p sets blocks c.layers-l-end.ensures.instance c.requires.restriction c.requires.single done.run

pub returns-clause-fits : goal.returns-clause-fits
returns-clause-fits c =
    all_layers-fit c.args.instance.now c.loop-l.run.table
    (done_all c.args.instance.now c.args.sets.now c.loop-l.l c.loop-l.run.table (pairs_of c.loop-l.run.blocks.items)
    (omega (arith, c.layers-l-end.ensures.count, c.loop-l-test.false, c.loop-l.auto.l-end))
    c.loop-l.invariant.done).prices

pub returns-clause-holds : goal.returns-clause-holds
returns-clause-holds c =
    (done_all c.args.instance.now c.args.sets.now c.loop-l.l c.loop-l.run.table (pairs_of c.loop-l.run.blocks.items)
    (omega (arith, c.layers-l-end.ensures.count, c.loop-l-test.false, c.loop-l.auto.l-end))
    c.loop-l.invariant.done).holds

pub returns-clause-shows : goal.returns-clause-shows
returns-clause-shows c =
    let p = c.args.instance.now in
    let sets = c.args.sets.now in
    let blocks = pairs_of c.loop-l.run.blocks.items in
    let plan = c.of-plan.ensures in
    let done = done_all p sets c.loop-l.l c.loop-l.run.table blocks
    (omega (arith, c.layers-l-end.ensures.count, c.loop-l-test.false, c.loop-l.auto.l-end)) c.loop-l.invariant.done in
    done_shows p sets c.loop-l.run.table blocks c.layers-l-end.ensures.instance c.requires.restriction
    c.requires.single done c.of-plan.result plan.problem plan.blocks plan.checked
