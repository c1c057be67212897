use Rattle.std.proofs.Common.{◌≡◌, ℕ, zero, suc, ◌≤◌, ap, arith}
use Rattle.vs_tree.specs.History.{Opening}
use Rattle.vs_tree.specs.Search.{state}
use Rattle.vs_cert.specs.AnswerLaws.{EachReachesTheStart}
use Rattle.vs_node.proofs.CallerLemmas.{worked_searches_reach_the_start}
use Rattle.mdvsp.proofs.crew.Crew.search_part.Goals as goal
use Rattle.mdvsp.proofs.crew.Crew.search_part.Goals.{else-report-eq0-via-then-report-eq0+else-not-is_given, else-report-eq0-via-else-report-eq0}

-- what isn't 0 is 1 at least
some_of : (n m : ℕ) → n ≡ m → ¬ (n ≡ 0) → 1 ≤ m
some_of n zero same none = absurd (none same)
some_of n (suc m) same none = omega arith

pub returns : goal.returns
returns g c =
    let t = c.in_ok-tree.tree in
    let begins = c.in_ok-tree.ensures.begins in
    let known = c.instance-instance.ensures in
    let problem = ap (λ (o : Opening). o.problem) begins in
    let budget = ap (λ (o : Opening). o.budget) begins in
    let first = ap (λ (o : Opening). o.first) begins in
    let reaches : 1 ≤ (state t).finished → EachReachesTheStart t.opening (state t) =
    λ some value start k worth leaf is_worth.
    worked_searches_reach_the_start t.opening t.steps k worth value known.opening known.history
    c.in_ok-tree.ensures.worked some leaf is_worth start in
    record {
      begun = record { problem = problem; budget = budget; first = first; reaches = reaches };
      found = λ unlimited.
          let some : 1 ≤ (state t).finished = elim c.else-report-eq0.branch [
            | else-report-eq0-via-then-report-eq0+else-not-is_given w ↦
                absurd (w.is_given.ensures.0 w.if-not-is_given.false unlimited)
            | else-report-eq0-via-else-report-eq0 w ↦
                some_of c.report.result.finished (state t).finished c.report.ensures.finished w.if-report-eq0.false
          ] in
          record {
            problem = problem;
            budget = budget;
            first = first;
            over = c.in_ok-tree.ensures.over unlimited;
            some = some;
            reaches = reaches some;
          };
    }
