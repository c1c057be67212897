use Rattle.std.proofs.Common.{◌≡◌, ◌-◌, false, Bool, List, length, ◌∙◌, sym, ap, refl, subst, arith}
use Rattle.std.proofs.lemmas.Bool.{true≢false}
use Rattle.std.proofs.lemmas.List.{length-append}
use Rattle.csv.specs.Records.{fields_of}
use Rattle.vs_reader.specs.Rows.{Row}
use Rattle.vs_reader.specs.Left.{GivesNext}
use Rattle.vs_reader.specs.Drafts.{declared_of, IsSound, AddsRecord}
use Rattle.vs_reader.specs.Kinds.{is_result}
use Rattle.vs_reader.specs.Rules.{AreKept, rules}
use Rattle.vs_reader.proofs.texts.CsvRecords.{length-records}
use Rattle.vs_reader.proofs.texts.Progress.{IsProgress-start, IsProgress-more, refused_next, declared_there, ends_none, add_refuses}
use Rattle.vs_reader.proofs.declaring.DeclaredLemmas.{IsSound-nothing, IsSound-Adds}
use Rattle.vs_reader.proofs.reading.read_declarations.Goals as goal
use Rattle.vs_reader.proofs.reading.read_declarations.Goals.{then-not-found-via-then-not-found, then-not-found-via-else-not-found+then-is_result}

pub loop-number-init : goal.loop-number-init
loop-number-init c = record {
  sound = subst (IsSound c.args.version) (sym c.new-draft.ensures.declared) (IsSound-nothing c.args.version);
  progress =
      λ rows left. IsProgress-start c.args.version rows c.new-draft.result c.args.records.now
      c.new-draft.ensures.declared c.new-draft.ensures.numbers left;
}

pub returns-then-not-found : goal.returns-then-not-found
returns-then-not-found c = λ rows left.
    let at = c.loop-number.invariant.progress rows left in
    let next = c.in_ok-found.ensures at.left at.left_are in
    declared_there c.args.version rows c.loop-number.number c.loop-number.draft c.loop-number.records at
    (record {
      draft = c.loop-number.draft;
      before = c.loop-number.number - 1;
      in_rest =
          c.in_ok-found.found;
    }) c.next.new.self refl (omega (arith, at.count)) next
    (ends_none c.next.new.self at.left c.in_ok-found.found next
    (λ found. elim c.then-not-found.branch [
      | then-not-found-via-then-not-found w ↦ absurd (true≢false (sym found ∙ w.if-not-found.true))
      | then-not-found-via-else-not-found+then-is_result w ↦ sym w.is_result.ensures ∙ w.if-is_result.true
    ]))

pub returns-in-Err : goal.returns-in-Err
returns-in-Err c = λ rows left.
    let at = c.loop-number.invariant.progress rows left in
    let next =
    subst (λ (b : Bool). GivesNext c.next.new.self at.left b) c.if-not-found.false
    (c.in_ok-found.ensures at.left at.left_are) in
    let row = fields_of c.next.new.self.current in
    let other : is_result row ≡ false = sym c.is_result.ensures ∙ c.if-is_result.false in
    rw c.refused_at.ensures
    (add_refuses c.args.version rows (rules c.args.version c.loop-number.draft.names row)
    (AddsRecord c.args.version c.loop-number.number c.loop-number.draft row c.add.new.self) c.loop-number.number
    c.in-Err.e
    c.in-Err.ensures
    (λ why breaks. refused_next c.args.version rows c.loop-number.number c.loop-number.draft c.loop-number.records at
    row next.0 why next.1 other breaks))

pub loop-number-preserved : goal.loop-number-preserved
loop-number-preserved c =
    let row = fields_of c.next.new.self.current in
    let other : is_result row ≡ false = sym c.is_result.ensures ∙ c.if-is_result.false in
    let added : AreKept (rules c.args.version c.loop-number.draft.names row)
    × AddsRecord c.args.version c.loop-number.number c.loop-number.draft row c.add.new.self = c.in_default.ensures in
    record {
      sound = IsSound-Adds c.args.version (declared_of c.loop-number.draft)
          (declared_of c.add.new.self) row c.loop-number.invariant.sound added.1.declared;
      progress = λ rows left.
          let at = c.loop-number.invariant.progress rows left in
          let next =
          subst (λ (b : Bool). GivesNext c.next.new.self at.left b) c.if-not-found.false
          (c.in_ok-found.ensures at.left at.left_are) in
          IsProgress-more c.args.version rows c.loop-number.number c.loop-number.draft c.loop-number.records at row
          next.0
          c.next.new.self c.add.new.self next.1 next.2 other added.0 added.1;
    }

pub unreachable-requires : goal.unreachable-requires
unreachable-requires c =
    let at = c.loop-number.invariant.progress c.requires.rows c.requires.left in
    omega (
      arith,
      at.count,
      ap (λ (rs : List Row). length rs) at.rows_are,
      length-append at.done at.left,
      length-records _ _ _ c.requires.rows c.requires.left.are_records,
      c.requires.few,
    )
