use Rattle.std.proofs.Common.{ℕ, ◌<◌, List, ◌++◌, length, map, sym, ap, ◌∙◌, subst, arith}
use Rattle.std.specs.List.{All}
use Rattle.std.specs.Prelude.{flat_map}
use Rattle.std.proofs.lemmas.List.Folds.{flat_map-map}
use Rattle.vs_reader.specs.Rows.{lines}
use Rattle.vs_tree.specs.History.{FullStep}
use Rattle.vs_tree.specs.Log.{full_step, plain_step}
use Rattle.vs_tree.specs.Search.{state}
use Rattle.vs_tree.specs.declared.step.Step.{Step}
use Rattle.vs_tree.specs.declared.step.Step.TheVariants.{Took}
use Rattle.vs_trace.specs.TraceRows.{step_rows, written_traces}
use Rattle.vs_trace.specs.Writing.{HasNames, rows_of_step}
use Rattle.vs_trace.proofs.NamedSteps.{steps_named}
use Rattle.vs_trace.proofs.WrittenSteps.{traces-flat_map}
use Rattle.vs_rows.proofs.CallerLemmas.{wrote_all}
use Rattle.vs_trace.proofs.writing.steps.write_steps.Goals as goal

pub write_step-requires-clause-step : goal.write_step-requires-clause-step
write_step-requires-clause-step c =
    let t = c.args.tree.now in
    let names = c.args.names.now in
    let known = c.instance-instance.ensures in
    let steps = c.history-step-items.result.now in
    let k = c.loop-step.step-index in
    let none = Took 0 0 in
    let named : All (HasNames names) steps =
    subst (λ (xs : List Step). All (HasNames names) xs) (sym c.history-step-items.ensures.steps)
    (steps_named t.opening known.opening names c.requires t.steps known.history) in
    let within : k < length steps = c.loop-step-test.true in
    record {
      of_log = c.history-step-items.ensures.of_log k none within;
      has_names = named k none within;
    }

pub returns : goal.returns
returns c =
    let t = c.args.tree.now in
    let names = c.args.names.now in
    let p = t.opening.problem in
    let steps = c.history-step-items.result.now in
    let full : Step → FullStep = full_step (state t).tables (state t).accepted in
    let bytes : FullStep → List ℕ = λ step. lines (written_traces names (step_rows p step)) in
    let plain = map plain_step t.steps in
    let same = c.history-step-items.ensures.steps in
    wrote_all (λ (step : Step). lines (written_traces names (rows_of_step t step))) c.args.text.now c.loop-step.text
    plain c.loop-step.step-index (omega (arith, ap (λ (xs : List Step). length xs) same)) c.loop-step.invariant
    ∙ ap (λ (xs : List Step). c.args.text.now ++ flat_map (λ (x : Step). bytes (full x)) xs) (sym same)
    ∙ ap (λ (rest : List ℕ). c.args.text.now ++ rest)
    (sym (flat_map-map bytes full steps) ∙ ap (λ (xs : List FullStep). flat_map bytes xs)
    c.history-step-items.ensures.full ∙ sym (traces-flat_map names (step_rows p) t.steps))
