use Rattle.std.proofs.Common.{rules, ◌≡◌, ◌≢◌, ◌<◌, ◌∙◌, ℕ, List, [], ◌∷◌, ◌++◌, length, get_or, sym, ap, subst, arith, Some}
use Rattle.std.proofs.lemmas.List.{get_or_default}
use Rattle.vs_queue.specs.declared.step.Step.{Step}
use Rattle.vs_path.specs.Labels.{Lists, lists_of, settled_at, source_of, step_at}
use Rattle.vs_path.proofs.labelling.Settling.{order-≤}
use Rattle.vs_path.proofs.found.Moving.{node-<}
use Rattle.vs_path.proofs.found.Tracing.{IsTraced, place_of, traced-none, traced-path, traced-more, step-open, step-from}
use Rattle.vs_path.proofs.labels.Labels.trace.Goals as goal

pub loop-node-init : goal.loop-node-init
loop-node-init c =
    let P : List Step → Type 0 =
    IsTraced c.args.residual.now c.args.prices.now (lists_of c.args.self.now) c.args.goal c.args.goal in
    record {
      traced = subst P (sym c.clear.ensures.items)
          (traced-none c.args.residual.now c.args.prices.now (lists_of c.args.self.now) c.args.goal c.requires.goal.0
          c.requires.labels c.requires.goal.1);
      space = omega (arith, c.clear.ensures.capacity);
    }

-- the source is the first of the order
from_source : (l : Lists) (first node : ℕ) → 0 < length l.order → first ≡ get_or l.order 0 first → node ≢ first
    → node ≢ source_of l
from_source l first node some is away same =
    away (same ∙ get_or_default l.order 0 0 first some ∙ sym is)

pub step-last-requires : goal.step-last-requires
step-last-requires c =
    let l = lists_of c.args.self.now in
    let traced = c.loop-node.invariant.traced in
    let within =
    node-< c.args.residual.now.graph.nodes l c.loop-node.node traced.at c.requires.labels.are_listed traced.at_is in
    omega (arith, within, c.requires.labels.are_listed.steps)

pub from-node-requires : goal.from-node-requires
from-node-requires c =
    let r = c.args.residual.now in
    let l = lists_of c.args.self.now in
    let traced = c.loop-node.invariant.traced in
    let away =
    from_source l c.index-source.result.now c.loop-node.node c.requires.labels.some c.index-source.ensures
    c.loop-node-test.true in
    let is : step_at l c.loop-node.node ≡ Some c.step-last.result =
    c.step-last.ensures in
    let open_ =
    step-open r c.args.prices.now l c.args.goal c.loop-node.node c.loop-node.path.items c.requires.labels traced away
    c.step-last.result is in
    omega (arith, open_.arc, c.requires.residual.arcs)

pub loop-node-smaller : goal.loop-node-smaller
loop-node-smaller c =
    let r = c.args.residual.now in
    let l = lists_of c.args.self.now in
    let traced = c.loop-node.invariant.traced in
    let away =
    from_source l c.index-source.result.now c.loop-node.node c.requires.labels.some c.index-source.ensures
    c.loop-node-test.true in
    let is : step_at l c.loop-node.node ≡ Some c.step-last.result =
    c.step-last.ensures in
    let from =
    step-from r c.args.prices.now l c.args.goal c.loop-node.node c.loop-node.path.items c.requires.labels traced away
    c.step-last.result is in
    let less = from.2 in
    let before = ap place_of traced.at_is in
    let after = ap (λ (v : ℕ). place_of (settled_at l v)) c.from-node.ensures.node ∙ ap place_of from.1 in
    omega (arith, less, before, after)

pub loop-node-preserved : goal.loop-node-preserved
loop-node-preserved c =
    let r = c.args.residual.now in
    let l = lists_of c.args.self.now in
    let path = c.loop-node.path.items in
    let traced = c.loop-node.invariant.traced in
    let away =
    from_source l c.index-source.result.now c.loop-node.node c.requires.labels.some c.index-source.ensures
    c.loop-node-test.true in
    let is : step_at l c.loop-node.node ≡ Some c.step-last.result =
    c.step-last.ensures in
    let more =
    traced-more r c.args.prices.now l c.args.goal c.loop-node.node path c.requires.labels traced away c.step-last.result
    is in
    let count = traced.count in
    let few = order-≤ r.graph.nodes l c.requires.labels.are_listed in
    let P : ℕ → Type 0 = λ v. IsTraced r c.args.prices.now l c.args.goal v (path ++ c.step-last.result ∷ []) in
    let Q : List Step → Type 0 = λ ss. IsTraced r c.args.prices.now l c.args.goal c.from-node.result ss in
    let pushed : c.push.new.self.items ≡ path ++ c.step-last.result ∷ [] =
    let ok = c.push.ensures.succeeds (omega (arith, count, few, c.requires.space, c.loop-node.invariant.space)) in
    search rules in
    record {
      traced = subst Q (sym pushed) (subst P (sym c.from-node.ensures.node) more);
      space = omega (arith, c.push.ensures.capacity, c.loop-node.invariant.space);
    }

pub returns-clause-path : goal.returns-clause-path
returns-clause-path c =
    let l = lists_of c.args.self.now in
    let same : c.loop-node.node ≡ source_of l =
    c.loop-node-test.false ∙ c.index-source.ensures
    ∙ get_or_default l.order 0 c.index-source.result.now 0 c.requires.labels.some in
    traced-path c.args.residual.now c.args.prices.now (lists_of c.args.self.now) c.args.goal c.loop-node.node
    c.loop-node.path.items c.requires.labels c.loop-node.invariant.traced same
