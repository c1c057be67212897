use Rattle.std.proofs.Common.{ℕ, ◌<◌, ◌^◌, sym, subst}
use Rattle.vs_instance.specs.Problem.{Problem}
use Rattle.vs_reader.specs.Names.{HaveCounts}
use Rattle.vs_cert.proofs.CallerLemmas.{states_have_documents}
use Rattle.vs_tree.specs.Laws.{IsTrueClaim}
use Rattle.vs_tree.specs.Report.{IsReport}
use Rattle.vs_tree.specs.Search.{state}
use Rattle.vs_words.specs.Words.{IsUnlimited}
use Rattle.mdvsp.proofs.SearchAnswers.{search_answers, stopped_answers}
use Rattle.mdvsp.specs.SolveAnswer.{IsSearchOf, IsSearchSoFar}
use Rattle.mdvsp.proofs.crew.Crew.tell.Goals as goal

pub write-requires : goal.write-requires
write-requires g c =
    subst (λ (p : Problem). HaveCounts p c.args.timetable.now.names) (sym c.in_ok-tree.ensures.begins.problem)
    c.requires.counts

pub returns : goal.returns
returns g c =
    let p = c.args.timetable.now.instance in
    let t = c.in_ok-tree.tree in
    let ensured = c.in_ok-tree.ensures in
    let known = c.instance-instance.ensures in
    let r = c.report.result in
    let made : IsSearchSoFar p c.args.budget c.args.self.now.workers t.opening t.steps = record {
      begins = ensured.begins;
      is_opening = known.opening;
      history = known.history;
      worked = ensured.worked;
      none_held = ensured.none_held;
    } in
    let whole : IsUnlimited c.args.self.now.gate.effort
    → IsSearchOf p c.args.budget c.args.self.now.workers t.opening t.steps = λ unlimited. record {
      begins = ensured.begins;
      is_opening = known.opening;
      history = known.history;
      worked = ensured.worked;
      over = ensured.over unlimited;
    } in
    let few_steps = subst (λ (n : ℕ). n < 2 ^ 63) c.count_steps-count.ensures.count c.count_steps-count.ensures.few in
    let is_report = subst (λ (x : Problem). IsReport x (state t) r) ensured.begins.problem c.report.ensures in
    let proves = subst (λ (x : Problem). IsTrueClaim x (state t) r r.claim) ensured.begins.problem
    (c.reports_are_true.ensures t.opening t.steps r known.opening known.history c.report.ensures) in
    let has = states_have_documents t.opening t.steps known.opening known.history known.budget in
    record {
      opening = t.opening;
      steps = t.steps;
      report = r;
      tells = record {
        made = made;
        few_steps = few_steps;
        is_report = is_report;
        proves = proves;
        document = has.0;
        of_state = has.1;
        solves = stopped_answers p c.args.budget c.args.self.now.workers t.opening t.steps has.0 made has.1 has.2;
      };
      whole = λ unlimited. record {
        made = whole unlimited;
        few_steps = few_steps;
        is_report = is_report;
        proves = proves;
        document = has.0;
        of_state = has.1;
        solves = search_answers p c.args.budget c.args.self.now.workers t.opening t.steps has.0 (whole unlimited)
            has.1 has.2;
      };
      status_is = c.claim_status.ensures;
      text_is = c.in_ok-text.ensures;
    }
