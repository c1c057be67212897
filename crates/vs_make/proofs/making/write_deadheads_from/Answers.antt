use Rattle.std.proofs.Common.{◌≡◌, ℕ, Bool, cond, eqb, not, List, [], ◌++◌, sym, ap, ◌∙◌}
use Rattle.std.specs.Prelude.{filter}
use Rattle.std.specs.List.{range_with_len}
use Rattle.std.proofs.lemmas.Bool.{eq-eqb, ne_eqb}
use Rattle.std.proofs.lemmas.List.{append-nil}
use Rattle.vs_reader.specs.Rows.{line}
use Rattle.vs_make.specs.declared.grid.TheConstants.{STOPS}
use Rattle.vs_make.specs.Generator.{deadhead_row}
use Rattle.vs_rows.proofs.CallerLemmas.{lines-map, flat_map-filter, numbered_more, numbered_all}
use Rattle.vs_make.proofs.making.write_deadheads_from.Goals as goal
use Rattle.vs_make.proofs.making.write_deadheads_from.Goals.{then-s-k+in_ok-write_deadhead, else-s-k}

pub loop-s-preserved : goal.loop-s-preserved
loop-s-preserved c =
    let k = c.args.k in let s = c.loop-s.s in let text = c.loop-s.text in
    let row : List ℕ = line (deadhead_row k s) in
    let after : c.if-s-k.text ≡ text ++ cond (not (eqb s k)) row [] =
    elim c.if-s-k.branch [
      | then-s-k+in_ok-write_deadhead w ↦
          w.text-is ∙ w.in_ok-write_deadhead.ensures
          ∙ sym (ap (λ t. text ++ cond (not t) row []) (ne_eqb s k w.if-s-k.true))
      | else-s-k w ↦
          w.text-is ∙ sym (ap (λ t. text ++ cond (not t) row []) (eq-eqb s k w.if-s-k.false) ∙ append-nil text)
    ] in
    numbered_more (λ x. cond (not (eqb x k)) (line (deadhead_row k x)) []) c.args.text.now text c.if-s-k.text STOPS s
    c.loop-s-test.true c.loop-s.invariant after

pub returns : goal.returns
returns c =
    let k = c.args.k in
    let other : ℕ → Bool = λ s. not (eqb s k) in
    let bytes : ℕ → List ℕ = λ s. line (deadhead_row k s) in
    numbered_all (λ s. cond (other s) (bytes s) []) c.args.text.now c.loop-s.text STOPS c.loop-s.s c.loop-s-test.false
    c.loop-s.invariant
    ∙ ap (λ rest. c.args.text.now ++ rest) (flat_map-filter other bytes (range_with_len 0 STOPS)
    ∙ sym (lines-map (deadhead_row k) (filter other (range_with_len 0 STOPS))))
