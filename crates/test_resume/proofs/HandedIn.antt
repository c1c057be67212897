-- A leaf that the only worker finishes.
use Rattle.std.proofs.Common.{◌≡◌, ℕ, ◌+◌, refl, sym, ap, ◌∙◌, subst, arith, Option, Some, IfSome}
use Rattle.vs_instance.specs.Problem.{Problem}
use Rattle.vs_prices.specs.Bounds.{IsBelow}
use Rattle.vs_tree.specs.Calls.{finishing, with_step}
use Rattle.vs_tree.specs.History.{FullStep, IsHistory, MayCome, Opening, State, after, first_state}
use Rattle.vs_tree.specs.Prices.{Prices, prices_of}
use Rattle.vs_tree.specs.Search.{Search, state}
use Rattle.vs_tree.specs.Sound.{IsOpening}
use Rattle.vs_tree.specs.declared.calls.Next.{Next}
use Rattle.vs_tree.specs.declared.calls.Next.TheVariants.{Close, Split}
use Rattle.vs_node.specs.WorkedHistory.{AreWorked}
use Rattle.vs_node.specs.declared.outcome.Outcome.{Outcome}
use Rattle.vs_node.specs.declared.outcome.Task.{Task}
use Rattle.vs_crew.specs.Found.{IsLawfulTask}
use Rattle.vs_crew.specs.Leaves.{HasOffered}
use Rattle.vs_crew.proofs.CallerLemmas.{IsReadyLeaf, after_offer, finished_idle, finished_opening, finished_steps, finished_worked, may_come, state_last, worked-append}
use Rattle.test_resume.specs.Alone.{HasOutcome, IsAtLeaf, IsBetweenLeaves, begun_alone}

-- one leaf more is finished
one_finished : (s : State) (leaf : ℕ) (prices : Prices) (next : Next)
    → (after s (finishing s 0 leaf prices next)).finished ≡ s.finished + 1
one_finished s leaf prices Close = refl
one_finished s leaf prices (Split trip left) = refl

module _ (old new : Search) (leaf : ℕ) (outcome : Outcome) (opening : IsOpening old.opening)
    (history : IsHistory old.opening old.steps) (has : HasOutcome leaf outcome old)
    (offers : HasOffered 0 old outcome.plan new) where
  ready : IsReadyLeaf old.opening (state old) 0 leaf has.task
  ready =
      let holds = has.at_leaf.holds in
      record {
        holds = holds.holds;
        fresh = holds.fresh;
        sets = holds.of_leaf.sets;
        prices = holds.of_leaf.prices;
        room = λ worth below. subst (IsBelow worth) (sym holds.of_leaf.known) below;
      }

  abbrev step : FullStep
  step = finishing (state new) 0 leaf (prices_of outcome.table) outcome.next

  pub may_finish : MayCome new.opening (state new) step
  may_finish =
      let holds = has.at_leaf.holds in
      may_come old new 0 leaf has.task outcome opening history ready holds.of_leaf.root holds.lawful.restriction
      has.found offers

  module _ (last : Search) (adds : last ≡ with_step new step) where
    pub same_opening : last.opening ≡ old.opening
    same_opening =
        let holds = has.at_leaf.holds in
        finished_opening old new 0 leaf has.task outcome opening history ready holds.of_leaf.root
        holds.lawful.restriction has.found offers last adds

    pub one_more : (state last).finished ≡ (state old).finished + 1
    one_more =
        let holds = has.at_leaf.holds in
        let same = ap (λ (s : State). s.finished) (state_last old new 0 leaf has.task outcome opening history ready
        holds.of_leaf.root holds.lawful.restriction has.found offers last adds) in
        let more = one_finished (state new) leaf (prices_of outcome.table) outcome.next in
        let kept = (after_offer old new 0 leaf has.task outcome opening history ready holds.of_leaf.root
        holds.lawful.restriction has.found offers).state_is.finished in
        omega (arith, same, more, kept)

    worked : AreWorked last.opening last.steps
    worked =
        let holds = has.at_leaf.holds in
        let added = finished_worked old new 0 leaf has.task outcome opening history ready holds.of_leaf.root
        holds.lawful.restriction has.found offers last adds in
        let steps = finished_steps old new 0 leaf has.task outcome opening history ready holds.of_leaf.root
        holds.lawful.restriction has.found offers last adds in
        subst (λ (o : Opening). AreWorked o last.steps) (sym same_opening)
        (subst (AreWorked old.opening) steps
        (worked-append old.opening (first_state old.opening) old.steps _ has.at_leaf.worked added))

    pub between : IsBetweenLeaves last
    between =
        let holds = has.at_leaf.holds in
        record {
          workers = ap (λ (o : Opening). o.workers) same_opening ∙ has.at_leaf.workers;
          idle = finished_idle old new 0 leaf has.task outcome opening history ready holds.of_leaf.root
              holds.lawful.restriction has.found offers last adds holds.is_worker;
          worked = worked;
        }

-- the leaf that was taken, and its task
pub taken_leaf : (new : Search) (task : Task) (taken : Option ℕ) (leaf : ℕ) → taken ≡ Some leaf
    → IfSome taken (λ k. IsAtLeaf k task new) → IsAtLeaf leaf task new
taken_leaf new task taken leaf is at = subst (λ (o : Option ℕ). IfSome o (λ k. IsAtLeaf k task new)) is at

pub taken_task : (p : Problem) (budget : ℕ) (old new : Search) (task : Task) (leaf : ℕ)
    → old.opening ≡ begun_alone p budget → new.opening ≡ old.opening → IsAtLeaf leaf task new → IsLawfulTask p task
taken_task p budget old new task leaf begins same at =
    subst (λ (o : Opening). IsLawfulTask o.problem task) (same ∙ begins) at.holds.lawful
