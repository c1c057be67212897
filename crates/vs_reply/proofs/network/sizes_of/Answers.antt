use Rattle.std.proofs.Common.{ℕ, List, ◌++◌, ap, ◌∙◌}
use Rattle.vs_reader.specs.Rows.{lines}
use Rattle.vs_reply.proofs.network.sizes_of.Goals as goal

pub returns : goal.returns
returns c =
    let nets = c.in_ok-write_nets.ensures in
    record {
      rows = nets.rows;
      rows_are = nets.are_rows;
      status_is = c.of.ensures.status;
      text_is = c.of.ensures.text ∙ nets.text_is
          ∙ ap (λ (bytes : List ℕ). bytes ++ lines nets.rows) c.new-text.ensures;
    }
