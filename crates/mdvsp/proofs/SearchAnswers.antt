-- What a search comes to is an answer.
use Rattle.std.proofs.Common.{◌≡◌, ℕ, ◌≤◌, List, Option, IfSome, sym, ap, subst, arith, ◌∙◌, ℤ}
use Rattle.vs_instance.specs.Problem.{Problem}
use Rattle.vs_prices.specs.Claims.{claim_found}
use Rattle.vs_prices.proofs.CallerLemmas.{no_less-both}
use Rattle.vs_tree.specs.History.{FullStep, Opening, State, state_of}
use Rattle.vs_tree.specs.Report.{IsReport, bound_of}
use Rattle.vs_tree.specs.declared.calls.Report.{Report}
use Rattle.vs_tree.proofs.CallerLemmas.{same_bound, lesser-no_less}
use Rattle.vs_node.proofs.CallerLemmas.{worked_searches_reach_the_start}
use Rattle.vs_rows.specs.DocumentText.{HasText}
use Rattle.vs_cert.specs.StateDocument.{IsDocumentOf}
use Rattle.vs_rows.specs.declared.document.Document.{Document}
use Rattle.vs_cert.specs.Answers.{IsAnswer, IsAnswerSoFar, ReachesStart}
use Rattle.vs_cert.specs.AnswerLaws.{EachReachesTheStart}
use Rattle.vs_cert.proofs.CallerLemmas.{bounds_reach_the_start, finished_searches_answer, searches_answer_so_far}
use Rattle.mdvsp.specs.SolveAnswer.{IsSearchOf, IsSearchSoFar, SolveAnswer, StoppedAnswer}

-- a search that is over is one that came so far
pub so_far : (p : Problem) (budget workers : ℕ) (o : Opening) (steps : List FullStep)
    → IsSearchOf p budget workers o steps → IsSearchSoFar p budget workers o steps
so_far p budget workers o steps made = record {
  begins = made.begins;
  is_opening = made.is_opening;
  history = made.history;
  worked = made.worked;
  none_held = made.over.none_held;
}

module _ (p : Problem) (budget workers : ℕ) (o : Opening) (steps : List FullStep) (d : Document)
    (made : IsSearchSoFar p budget workers o steps) (of_state : IsDocumentOf o (state_of o steps) d)
    (text : HasText o.problem d) where
  each_reaches : 1 ≤ d.nodes → EachReachesTheStart o (state_of o steps)
  each_reaches some value start k worth leaf is_worth =
      worked_searches_reach_the_start o steps k worth value made.is_opening made.history made.worked
      (let same = of_state.nodes in omega arith) leaf is_worth start

  pub stopped_answers : StoppedAnswer p budget workers d
  stopped_answers = record {
    has_text = subst (λ (x : Problem). HasText x d) made.begins.problem text;
    answer = subst (λ (x : Problem). IsAnswerSoFar x budget d) made.begins.problem
        (subst (λ (n : ℕ). IsAnswerSoFar o.problem n d) made.begins.budget
        (searches_answer_so_far o steps d made.is_opening made.history of_state));
    start = λ some. subst (λ (x : Problem). IfSome d.bound (ReachesStart x d)) made.begins.problem
        (bounds_reach_the_start o steps d made.is_opening made.history of_state (each_reaches some));
    searched = record { opening = o; steps = steps; made = made; of_state = of_state };
  }

module _ (p : Problem) (budget workers : ℕ) (o : Opening) (steps : List FullStep) (d : Document)
    (made : IsSearchOf p budget workers o steps) (of_state : IsDocumentOf o (state_of o steps) d)
    (text : HasText o.problem d) where
  answers : IsAnswer p budget d
  answers = subst (λ (x : Problem). IsAnswer x budget d) made.begins.problem
      (subst (λ (n : ℕ). IsAnswer o.problem n d) made.begins.budget
      (finished_searches_answer o steps d made.is_opening made.history made.over of_state))

  pub search_answers : SolveAnswer p budget workers d
  search_answers =
      let early = stopped_answers p budget workers o steps d (so_far p budget workers o steps made) of_state text in
      record {
        has_text = early.has_text;
        answer = answers;
        start = early.start;
        searched = record { opening = o; steps = steps; made = made; of_state = of_state };
      }

-- what a search may answer that is over, one that ended early may answer too
pub solve_answers_are_stopped_answers : (p : Problem) (budget workers : ℕ) (d : Document)
    → SolveAnswer p budget workers d → StoppedAnswer p budget workers d
solve_answers_are_stopped_answers p budget workers d solves =
    let by = solves.searched in
    let answer = solves.answer in
    record {
      has_text = solves.has_text;
      answer = record {
        holds = answer.holds;
        written = answer.written;
        worths = answer.worths;
        are_worths = answer.are_worths;
        bound = answer.bound;
        within_budget = answer.within_budget;
        each_split = answer.each_split;
        each_node = answer.each_node;
      };
      start = solves.start;
      searched = record {
        opening = by.opening;
        steps = by.steps;
        made = so_far p budget workers by.opening by.steps by.made;
        of_state = by.of_state;
      };
    }

-- a state has one claim
pub one_claim : (p : Problem) (s : State) (r q : Report) → IsReport p s r → IsReport p s q → r.claim ≡ q.claim
one_claim p s r q one other =
    let cost : r.cost ≡ q.cost = one.cost ∙ sym other.cost in
    let bound : r.bound ≡ q.bound = same_bound r.bound q.bound
    (no_less-both (bound_of r.bound) (bound_of q.bound)
    (lesser-no_less p s (bound_of r.bound) (bound_of q.bound) one.bound other.bound)
    (lesser-no_less p s (bound_of q.bound) (bound_of r.bound) other.bound one.bound)) in
    one.claim ∙ ap (λ (c : Option ℤ). claim_found c r.bound) cost ∙ ap (λ (b : Option ℤ). claim_found q.cost b) bound
    ∙ sym other.claim
