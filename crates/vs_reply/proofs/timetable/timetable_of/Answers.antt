use Rattle.std.proofs.Common.{ℕ, List, ◌++◌, ap, ◌∙◌}
use Rattle.vs_plan.specs.Blocks.{pairs_of}
use Rattle.vs_reader.specs.Rows.{lines}
use Rattle.vs_reply.specs.Timetable.{timetable}
use Rattle.vs_reply.proofs.timetable.timetable_of.Goals as goal

pub returns : goal.returns
returns c =
    let rows = timetable c.args.instance.now c.args.names.now (pairs_of c.args.blocks.now) in (
      c.of.ensures.status,
      c.of.ensures.text ∙ c.in_ok-write_timetable.ensures
          ∙ ap (λ (bytes : List ℕ). bytes ++ lines rows) c.new-text.ensures,
    )
