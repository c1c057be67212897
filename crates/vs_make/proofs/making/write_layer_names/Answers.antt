use Rattle.std.proofs.Common.{◌≡◌, ℕ, Bool, cond, eqb, List, [], ◌∷◌, ◌++◌, refl, sym, ap, ◌∙◌}
use Rattle.std.specs.Prelude.{flat_map, filter}
use Rattle.std.specs.List.{range_with_len}
use Rattle.std.specs.Int.{bit_at}
use Rattle.std.proofs.lemmas.Bool.{eq-eqb, ne_eqb, false≢true}
use Rattle.std.proofs.lemmas.List.{append-nil}
use Rattle.vs_types.specs.LayerSet.{members, layer_numbers}
use Rattle.vs_make.specs.Generator.{layer_name}
use Rattle.vs_rows.proofs.CallerLemmas.{more_fields-map, flat_map-filter, numbered_more, numbered_all}
use Rattle.vs_make.proofs.making.write_layer_names.Goals as goal
use Rattle.vs_make.proofs.making.write_layer_names.Goals.{then-has+in_ok-numbered, else-has}

numbers_are : layer_numbers ≡ range_with_len 0 16
unfolding layer_numbers
numbers_are = refl

pub loop-l-preserved : goal.loop-l-preserved
loop-l-preserved c =
    let bits = c.args.layers.0 in let k = c.loop-l.l in let text = c.loop-l.text in
    let written : ℕ → List ℕ = λ l. cond (eqb (bit_at bits l) 1) (44 ∷ layer_name l) [] in
    let after : c.if-has.text ≡ text ++ written k =
    elim c.if-has.branch [
      | then-has+in_ok-numbered w ↦
          w.text-is ∙ w.in_ok-numbered.ensures
          ∙ sym (ap (λ t. text ++ cond t (44 ∷ layer_name k) [])
          (eq-eqb (bit_at bits k) 1 (c.has.ensures.0 w.if-has.true)))
      | else-has w ↦
          let other : bit_at bits k ≡ 1 → ⊥ = λ has. false≢true (sym w.if-has.false ∙ c.has.ensures.1 has) in
          w.text-is
          ∙ sym (ap (λ t. text ++ cond t (44 ∷ layer_name k) []) (ne_eqb (bit_at bits k) 1 other) ∙ append-nil text)
    ] in
    numbered_more written c.args.text.now text c.if-has.text 16 k c.loop-l-test.true c.loop-l.invariant after

pub returns : goal.returns
returns c =
    let bits = c.args.layers.0 in
    let bytes : ℕ → List ℕ = λ l. 44 ∷ layer_name l in
    let has : ℕ → Bool = λ l. eqb (bit_at bits l) 1 in
    let all =
    numbered_all (λ l. cond (has l) (bytes l) []) c.args.text.now c.loop-l.text 16 c.loop-l.l c.loop-l-test.false
    c.loop-l.invariant in
    let in_set : flat_map (λ l. cond (has l) (bytes l) []) (range_with_len 0 16)
    ≡ flat_map bytes (members c.args.layers) =
    flat_map-filter has bytes (range_with_len 0 16) ∙ ap (λ ls. flat_map bytes (filter has ls)) (sym numbers_are) in
    all ∙ ap (λ rest. c.args.text.now ++ rest) (in_set ∙ sym (more_fields-map layer_name (members c.args.layers)))
