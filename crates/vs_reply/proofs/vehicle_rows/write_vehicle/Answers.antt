use Rattle.std.proofs.Common.{◌≡◌, rules, ℕ, ℤ, ◌+◌, List, [], ◌∷◌, ◌++◌, FitsSigned, w64, ap, ◌∙◌}
use Rattle.std.specs.Fmt.{signed_decimal}
use Rattle.std.specs.Prelude.{codes, decimal}
use Rattle.std.proofs.lemmas.Int.{to_z-of_z}
use Rattle.std.proofs.lemmas.Result.{IfOk-equal}
use Rattle.vs_rows.specs.Fields.{time_field}
use Rattle.vs_instance.specs.Blocks.{block_cost, pull_in_minute, pull_out_minute}
use Rattle.vs_plan.specs.Blocks.{pair_of}
use Rattle.vs_reader.specs.Names.{name_of}
use Rattle.vs_reader.specs.Rows.{Field, fields, more_fields}
use Rattle.vs_rows.proofs.CallerLemmas.{wrote_last}
use Rattle.vs_reply.proofs.written.RowsInParts.{row_in_parts}
use Rattle.vs_reply.proofs.vehicle_rows.write_vehicle.Goals as goal

pub returns : goal.returns
returns c =
    let p = c.args.instance.now in
    let b = pair_of c.args.block.now in
    let out : ℕ = pull_out_minute p b.0 b.1 in
    let back : ℕ = pull_in_minute p b.0 b.1 in
    let layer : Field = name_of c.args.names.now.layers b.0.0 in
    let left : ℕ → List Field = λ minute. decimal (c.args.k + 1) ∷ layer ∷ time_field minute ∷ [] in
    let begun : c.begin_vehicle.new.text ≡ c.args.text.now ++ fields (codes "vehicle" ∷ left out) =
    c.in_ok-begin_vehicle.ensures
    ∙ ap (λ (t : ℕ). c.args.text.now ++ fields (codes "vehicle" ∷ left t)) c.block_times-out.ensures.out in
    let driven : c.time.new.self ≡ c.begin_vehicle.new.text ++ more_fields (time_field back ∷ []) =
    c.in_ok-time.ensures
    ∙ ap (λ (t : ℕ). c.begin_vehicle.new.text ++ 44 ∷ time_field t) c.block_times-out.ensures.back
    ∙ wrote_last c.begin_vehicle.new.text (time_field back) in
    let fits : FitsSigned w64 c.block_cost.result = search rules in
    let cost : c.number.new.self ≡ c.time.new.self ++ 44 ∷ decimal (block_cost p b.0 b.1) =
    c.in_ok-number.ensures
    ∙ ap (λ (n : ℤ). c.time.new.self ++ 44 ∷ signed_decimal n)
    (to_z-of_z w64 c.block_cost.result fits ∙ c.block_cost.ensures.value) in
    IfOk-equal c.end_row.result _ _ _ c.end_row.ensures
    (row_in_parts c.args.text.now _ _ _ (codes "vehicle") (left out) (time_field back ∷ [])
    (decimal (block_cost p b.0 b.1)) begun driven cost)
