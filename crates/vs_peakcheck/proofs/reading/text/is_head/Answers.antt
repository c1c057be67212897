use Rattle.std.proofs.Common.{sym, ap, ◌∙◌}
use Rattle.std.proofs.lemmas.Bool.{false≢true}
use Rattle.std.proofs.lemmas.Slice.Eq.{bytes_eq-Decides}
use Rattle.vs_reader.specs.Rows.{Row, field_of, row_of}
use Rattle.vs_peakcheck.proofs.rows.RowParts.{three_fields}
use Rattle.vs_peakcheck.proofs.reading.text.is_head.Goals as goal
use Rattle.vs_peakcheck.proofs.reading.text.is_head.Goals.{then-is_of_kind, else-is_of_kind}

pub returns-then-eq : goal.returns-then-eq
returns-then-eq c =
    let row = row_of c.args.rows.now 0 in
    let tests = bytes_eq-Decides c.field-then-eq.result.now c.as_bytes-then-eq.result.now in (
      λ is. elim c.if-is_of_kind.branch [
        | then-is_of_kind w ↦
            let kind = c.is_of_kind.ensures.0 w.if-is_of_kind.true in
            let one = (bytes_eq-Decides w.field.result.now w.as_bytes.result.now).0
            (sym w.eq.ensures ∙ sym w.value-is ∙ c.if-eq.true) in
            let peak = tests.0 (sym c.eq-then-eq.ensures ∙ is) in
            three_fields row _ _ _ kind.fields_are kind.kind_is (sym w.field.ensures ∙ one ∙ w.as_bytes.ensures.value)
            (sym c.field-then-eq.ensures ∙ peak ∙ c.as_bytes-then-eq.ensures.value)
        | else-is_of_kind w ↦ absurd (false≢true (sym w.if-is_of_kind.false ∙ sym w.value-is ∙ c.if-eq.true))
      ],
      λ is. c.eq-then-eq.ensures
          ∙ tests.1
          (c.field-then-eq.ensures ∙ ap (λ (r : Row). field_of r 2) is ∙ sym c.as_bytes-then-eq.ensures.value),
    )
