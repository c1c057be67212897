use Rattle.std.proofs.Common.{sym, ap, ◌∙◌}
use Rattle.vs_instance.specs.Problem.{Problem}
use Rattle.vs_reader.specs.Rows.{lines}
use Rattle.vs_tree.specs.Search.{state}
use Rattle.vs_rows.specs.DocumentRows.{document_rows}
use Rattle.vs_reply.specs.Status.{status_of}
use Rattle.mdvsp.proofs.SearchAnswers.{one_claim, search_answers, stopped_answers}
use Rattle.mdvsp.proofs.crew.Crew.plan.Goals as goal

pub returns : goal.returns
returns g c =
    let t = c.in_ok-tree.tree in
    let made = c.in_ok-tree.ensures in
    let known = c.instance-instance.ensures in
    let text = c.in_ok-text.ensures in
    record {
      document = text.document;
      solves = stopped_answers c.args.timetable.now.instance c.args.budget c.args.self.now.workers t.opening t.steps
          text.document
          (record {
            begins = made.begins;
            is_opening = known.opening;
            history = known.history;
            worked = made.worked;
            none_held = made.none_held;
          }) text.of_state text.has_text;
      whole = λ unlimited. search_answers c.args.timetable.now.instance c.args.budget c.args.self.now.workers t.opening
          t.steps text.document
          (record {
            begins = made.begins;
            is_opening = known.opening;
            history = known.history;
            worked = made.worked;
            over = made.over unlimited;
          }) text.of_state text.has_text;
      status_is = c.claim_status.ensures
          ∙ ap status_of (one_claim t.opening.problem (state t) c.report.result text.of_state.report c.report.ensures
          text.of_state.is_report ∙ sym text.of_state.claim);
      text_is = text.bytes_are
          ∙ ap (λ (p : Problem). lines (document_rows p c.args.timetable.now.names text.document)) made.begins.problem;
    }
