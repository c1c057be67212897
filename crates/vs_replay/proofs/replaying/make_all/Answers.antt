use Rattle.std.proofs.Common.{◌≡◌, ℕ, ◌+◌, [], ◌∷◌, ◌++◌, length, sym, ap, ◌∙◌, subst}
use Rattle.std.proofs.lemmas.Bool.{false≢true}
use Rattle.std.proofs.lemmas.Iterator.Adapters.{YieldsList-from_vec}
use Rattle.std.proofs.lemmas.Iterator.Consumers.{YieldsList-end, YieldsList-turn}
use Rattle.std.proofs.lemmas.List.{length_push}
use Rattle.vs_replay.specs.Making.{AreMade}
use Rattle.vs_replay.proofs.StepByStep.{MadeSoFar, all_made, one_more, stops}
use Rattle.vs_replay.proofs.replaying.make_all.Goals as goal

pub returns-then-not-branch : goal.returns-then-not-branch
returns-then-not-branch c =
    let old = c.args.tree.now in
    let now = c.loop-step.tree in
    let all = c.args.steps.items in
    let i = length c.loop-step.yielded in
    let so_far = c.loop-step.invariant.so_far in
    let gives = c.into_iter-step-iterator.ensures.into_iter_gives in
    let yields = YieldsList-from_vec {s = c.into_iter-step-iterator.result} all gives.0 (gives.1 ∙ c.args.steps.ok.0) in
    let step = c.in-Some.step in
    let turn =
    YieldsList-turn yields c.loop-step.yielded c.loop-step.step-iterator c.loop-step.yielded_by c.next.result
    c.next.new.self step c.in-Some.is c.next.ensures.steps in
    subst (λ (n : ℕ). AreMade old c.make.new.tree all n) (sym c.loop-step.invariant.made)
    (stops old now all i so_far step turn.0 (sym turn.1) c.make.new.tree
    (λ may. false≢true (sym c.if-not-branch.true ∙ c.in_ok-make.ensures.made.may.1 may)))

pub loop-step-preserved : goal.loop-step-preserved
loop-step-preserved c =
    let old = c.args.tree.now in
    let now = c.loop-step.tree in
    let all = c.args.steps.items in
    let i = length c.loop-step.yielded in
    let so_far = c.loop-step.invariant.so_far in
    let gives = c.into_iter-step-iterator.ensures.into_iter_gives in
    let yields = YieldsList-from_vec {s = c.into_iter-step-iterator.result} all gives.0 (gives.1 ∙ c.args.steps.ok.0) in
    let step = c.in-Some.step in
    let turn =
    YieldsList-turn yields c.loop-step.yielded c.loop-step.step-iterator c.loop-step.yielded_by c.next.result
    c.next.new.self step c.in-Some.is c.next.ensures.steps in
    let made = c.in_ok-make.ensures.made in
    let next =
    one_more old now all i so_far step turn.0 (sym turn.1) c.make.new.tree (made.may.0 c.if-not-branch.false)
    (made.is_made c.if-not-branch.false) in
    let more : i + 1 ≡ length (c.loop-step.yielded ++ step ∷ []) = sym (length_push c.loop-step.yielded step) in
    record {
      can_next = tt;
      is_finite = tt;
      made = ap (λ (n : ℕ). n + 1) c.loop-step.invariant.made ∙ more;
      so_far = subst (λ (n : ℕ). MadeSoFar old c.make.new.tree all n) more next;
      suits = c.in_ok-make.ensures.ground;
    }

pub returns : goal.returns
returns c =
    let old = c.args.tree.now in
    let now = c.loop-step.tree in
    let all = c.args.steps.items in
    let i = length c.loop-step.yielded in
    let so_far = c.loop-step.invariant.so_far in
    let gives = c.into_iter-step-iterator.ensures.into_iter_gives in
    let yields = YieldsList-from_vec {s = c.into_iter-step-iterator.result} all gives.0 (gives.1 ∙ c.args.steps.ok.0) in
    let end =
    YieldsList-end yields c.loop-step.yielded c.loop-step.step-iterator c.loop-step.yielded_by c.next.result
    c.next.new.self c.in-None.is c.next.ensures.steps in
    subst (λ (n : ℕ). AreMade old now all n) (sym c.loop-step.invariant.made)
    (all_made old now all i so_far end.1)
