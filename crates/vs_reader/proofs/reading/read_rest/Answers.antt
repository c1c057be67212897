use Rattle.std.proofs.Common.{◌≡◌, Bool, List, [], ◌∷◌, ◌++◌, length, append_assoc, append-nil, refl, sym, ap, ◌∙◌, subst, arith}
use Rattle.std.proofs.lemmas.List.{length-append, length_push}
use Rattle.csv.specs.Records.{fields_of}
use Rattle.vs_reader.specs.Rows.{Row, all_fields}
use Rattle.vs_reader.specs.RowEnds.{weight_of}
use Rattle.vs_reader.specs.RowBuilding.{built}
use Rattle.vs_reader.specs.Left.{GivesNext, IsOpen}
use Rattle.vs_reader.proofs.texts.CsvRecords.{length-records, weight_of-push}
use Rattle.vs_reader.proofs.places.RowBuilderLemmas.{weight_of-append, few_fields}
use Rattle.vs_reader.proofs.reading.read_rest.Goals as goal

pub into_rows-requires-then-not-branch : goal.into_rows-requires-then-not-branch
into_rows-requires-then-not-branch c = c.loop-count.invariant.whole

pub returns-then-not-branch-clause-rows : goal.returns-then-not-branch-clause-rows
returns-then-not-branch-clause-rows c = λ rows first.
    let at = c.loop-count.invariant.rows rows
    (subst (λ (b : Bool). GivesNext c.args.records.now rows b) c.if-not-any.false first) in
    let none : at.0 ≡ [] =
    subst (λ (b : Bool). GivesNext c.next.new.self at.0 b) c.if-not-branch.true (c.in_ok-next.ensures at.0 at.2) in
    c.into_rows-then-not-branch.ensures ∙ sym (append-nil (built c.loop-count.rest))
    ∙ ap (λ (rs : List Row). built c.loop-count.rest ++ rs) (sym none) ∙ sym at.1

pub returns-then-not-branch-clause-few_rows : goal.returns-then-not-branch-clause-few_rows
returns-then-not-branch-clause-few_rows c =
    omega (
      arith,
      c.loop-count.invariant.count,
      ap (λ (rs : List Row). length rs) c.into_rows-then-not-branch.ensures,
    )

pub returns-then-not-branch-clause-few_fields : goal.returns-then-not-branch-clause-few_fields
returns-then-not-branch-clause-few_fields c =
    omega (
      arith,
      c.loop-count.invariant.few,
      few_fields (built c.loop-count.rest),
      ap (λ (rs : List Row). length (all_fields rs)) c.into_rows-then-not-branch.ensures,
    )

pub push-requires-clause-room : goal.push-requires-clause-room
push-requires-clause-room c =
    let start : IsOpen c.args.records.now = c.requires c.if-not-any.false in
    let at = c.loop-count.invariant.rows (fields_of c.args.records.now.current ∷ start.rows)
    (start.rows, refl, start.left) in
    let next =
    subst (λ (b : Bool). GivesNext c.next.new.self at.0 b) c.if-not-branch.false (c.in_ok-next.ensures at.0 at.2) in
    omega (
      arith,
      c.loop-count.invariant.size,
      start.few,
      ap weight_of at.1,
      weight_of-append (built c.loop-count.rest) at.0,
      ap weight_of next.1,
    )

pub loop-count-preserved : goal.loop-count-preserved
loop-count-preserved c =
    let row = fields_of c.next.new.self.current in
    let more = c.in_ok-push.ensures.rows in
    let start : IsOpen c.args.records.now = c.requires c.if-not-any.false in
    let at = c.loop-count.invariant.rows (fields_of c.args.records.now.current ∷ start.rows)
    (start.rows, refl, start.left) in
    let next =
    subst (λ (b : Bool). GivesNext c.next.new.self at.0 b) c.if-not-branch.false (c.in_ok-next.ensures at.0 at.2) in
    record {
      few = omega (
        arith,
        start.few,
        ap weight_of at.1,
        weight_of-append (built c.loop-count.rest) at.0,
        ap weight_of next.1,
        ap weight_of more,
        weight_of-push (built c.loop-count.rest) row,
      );
      whole = c.in_ok-push.ensures.whole;
      size = omega (
        arith,
        c.in_ok-push.ensures.size,
        c.loop-count.invariant.size,
        ap weight_of more,
        weight_of-push (built c.loop-count.rest) row,
      );
      count = omega (
        arith,
        c.loop-count.invariant.count,
        ap (λ (rs : List Row). length rs) more,
        length_push (built c.loop-count.rest) row,
      );
      rows = λ rows first.
          let at = c.loop-count.invariant.rows rows first in
          let next =
          subst (λ (b : Bool). GivesNext c.next.new.self at.0 b) c.if-not-branch.false
          (c.in_ok-next.ensures at.0 at.2) in (
            next.0,
            at.1 ∙ ap (λ (rs : List Row). built c.loop-count.rest ++ rs) next.1
                ∙ sym (append_assoc (built c.loop-count.rest) (row ∷ []) next.0)
                ∙ ap (λ (rs : List Row). rs ++ next.0) (sym more),
            next.2,
          );
    }

pub unreachable-requires : goal.unreachable-requires
unreachable-requires c =
    let start : IsOpen c.args.records.now = c.requires c.if-not-any.false in
    let at = c.loop-count.invariant.rows (fields_of c.args.records.now.current ∷ start.rows)
    (start.rows, refl, start.left) in
    omega (
      arith,
      c.loop-count.invariant.count,
      start.few,
      ap (λ (rs : List Row). length rs) at.1,
      length-append (built c.loop-count.rest) at.0,
      length-records _ _ _ start.rows start.left.are_records,
    )
