use Rattle.std.proofs.Common.{◌≡◌, ℕ, ◌+◌, ◌<◌, [], ◌∷◌, ◌++◌, length, take, refl, sym, ap, ◌∙◌, subst, arith}
use Rattle.std.proofs.lemmas.List.{take_more, take_all}
use Rattle.csv.specs.Records.{fields_of}
use Rattle.vs_reader.specs.declared.rows.RowBuilder.{RowBuilder}
use Rattle.vs_reader.specs.Rows.{Field, Row}
use Rattle.vs_reader.proofs.places.RowBuilderLemmas.{HasFields, HasFields-nothing, HasFields-push, row_weight-take, built-push, IsWhole-push}
use Rattle.vs_reader.proofs.rows.RowBuilder.push.Goals as goal
use Rattle.vs_reader.proofs.rows.RowBuilder.push.Goals.{In_ok-push}

pub loop-k-init : goal.loop-k-init
loop-k-init c = HasFields-nothing c.args.self.now c.requires.whole

pub push_field-requires : goal.push_field-requires
push_field-requires c =
    let row = fields_of c.args.row.now in
    let within : c.loop-k.k < length row = omega (arith, c.len-k-end.ensures) in
    omega (
      arith,
      row_weight-take row c.loop-k.k within,
      c.loop-k.invariant.size,
      c.requires.room,
      ap (λ (f : Field). length f) c.field.ensures,
    )

pub loop-k-preserved : goal.loop-k-preserved
loop-k-preserved c =
    let row = fields_of c.args.row.now in
    let within : c.loop-k.k < length row = omega (arith, c.len-k-end.ensures) in
    let next : take (c.loop-k.k + 1) row ≡ take c.loop-k.k row ++ c.field.result.now ∷ [] =
    take_more row c.loop-k.k [] within ∙ ap (λ (f : Field). take c.loop-k.k row ++ f ∷ []) (sym c.field.ensures) in
    subst (λ (fs : Row). HasFields c.args.self.now c.push_field.new.self fs) (sym next)
    (HasFields-push c.args.self.now c.loop-k.self c.push_field.new.self
    (take c.loop-k.k row) c.field.result.now c.loop-k.invariant
    c.in_ok-push_field.ensures.bytes c.in_ok-push_field.ensures.fields c.in_ok-push_field.ensures.rows)

-- all fields of the record were added
has_all : (c : In_ok-push) → HasFields c.args.self.now c.loop-k.self (fields_of c.args.row.now)
has_all c =
    let row = fields_of c.args.row.now in
    subst (λ (fs : Row). HasFields c.args.self.now c.loop-k.self fs)
    (take_all c.loop-k.k row (omega (arith, c.len-k-end.ensures))) c.loop-k.invariant

-- the builder with the row's end
ended : In_ok-push → RowBuilder
ended c = record { bytes = c.loop-k.self.bytes; field_ends = c.loop-k.self.field_ends; row_ends = c.push.new.self }

row_end : (c : In_ok-push)
    → c.push.new.self.items ≡ c.loop-k.self.row_ends.items ++ length c.loop-k.self.field_ends.items ∷ []
row_end c =
    c.in_ok-push.ensures.items ∙ ap (λ (n : ℕ). c.loop-k.self.row_ends.items ++ n ∷ []) (omega (arith, c.len.ensures))

pub returns-clause-rows : goal.returns-clause-rows
unfolding ended
returns-clause-rows c =
    built-push c.args.self.now c.loop-k.self (ended c) (fields_of c.args.row.now) c.requires.whole
    (has_all c) refl refl (row_end c)

pub returns-clause-whole : goal.returns-clause-whole
unfolding ended
returns-clause-whole c =
    IsWhole-push c.args.self.now c.loop-k.self (ended c) (fields_of c.args.row.now) c.requires.whole
    (has_all c) refl refl (row_end c)
