use Rattle.std.proofs.Common.{◌≡◌, ℕ, List, ◌+◌, ◌-◌, ◌∷◌, ◌++◌, ◌∙◌, sym, ap, length, take, drop, arith}
use Rattle.std.proofs.lemmas.List.{take_rest, length-take, length-drop}
use Rattle.vs_reader.proofs.declaring.NumberLemmas.{split_at}
use Rattle.vs_reader.proofs.fields.time.Goals as goal

pub returns : goal.returns
returns c =
    let field = c.args.field.now in
    let colon = length field - 3 in
    let hours = take colon field in
    let minutes = take (length field - (colon + 1)) (drop (colon + 1) field) in
    let split : field ≡ hours ++ 58 ∷ minutes =
    split_at field colon (omega arith) c.if-field-colon-ne58.false
    ∙ ap (λ (rest : List ℕ). hours ++ 58 ∷ rest) (sym (take_rest field (colon + 1))) in
    let two : length minutes ≡ 2 =
    omega (
      arith,
      length-take (length field - (colon + 1)) (drop (colon + 1) field),
      length-drop (colon + 1) field,
    ) in
    let h = c.in_ok-hours.ensures in
    let m = c.in_ok-minutes.ensures in (
      (hours, minutes, split, h.0, m.0, two, omega (arith, h.1), omega (arith, m.1), omega (arith, h.1, m.1)),
      omega arith,
    )
