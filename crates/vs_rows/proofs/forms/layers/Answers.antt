use Rattle.std.proofs.Common.{◌≡◌, ◌-◌, ℕ, arith, drop, refl, subst, take}
use Rattle.vs_reader.specs.Rows.{row_of}
use Rattle.vs_rows.specs.RowForms.{NameSet}
use Rattle.vs_rows.proofs.rows.SplitLayers.{no_layers_in_row, layer_twice_in_row, row_layers_more, row_layers_all, set_none}
use Rattle.std.proofs.lemmas.Bool.{false≢true}
use Rattle.std.proofs.Common.{sym, ◌∙◌}
use Rattle.vs_rows.proofs.forms.layers.Goals as goal

pub loop-k-init : goal.loop-k-init
loop-k-init c =
    let names = c.args.input.now.names.layers in
    let fields = drop c.args.from (row_of c.args.input.now.rest c.args.row) in
    let none : c.args.from - c.args.from ≡ 0 = omega arith in
    subst (λ (n : ℕ). NameSet names (take n fields) (record { 0 = 0 })) (sym none) (set_none names _ refl)

pub returns-in_err-layer-clause-none : goal.returns-in_err-layer-clause-none
returns-in_err-layer-clause-none c =
    rw c.from_residual.ensures
    (no_layers_in_row c.args.input.now.names.layers (row_of c.args.input.now.rest c.args.row) c.args.from
    c.loop-k.k _ (omega arith)
    (omega arith) c.field.ensures c.in_err-layer.ensures.none)

pub returns-then-has-clause-none : goal.returns-then-has-clause-none
returns-then-has-clause-none c =
    layer_twice_in_row c.args.input.now.names.layers (row_of c.args.input.now.rest c.args.row) c.args.from
    c.loop-k.k
    c.in_ok-layer.layer.0 _ c.loop-k.left c.in_ok-layer.ensures.names (omega arith) (omega arith) c.field.ensures
    c.loop-k.invariant c.in_ok-layer.ensures.found.0 c.in_ok-layer.ensures.found.1 (c.has.ensures.0 c.if-has.true)

pub loop-k-preserved : goal.loop-k-preserved
loop-k-preserved c =
    row_layers_more c.args.input.now.names.layers (row_of c.args.input.now.rest c.args.row) c.args.from
    c.loop-k.k
    c.in_ok-layer.layer.0 _ c.loop-k.left _ (omega arith) (omega arith) c.field.ensures c.loop-k.invariant
    c.in_ok-layer.ensures.found.0 c.in_ok-layer.ensures.found.1
    (λ has. false≢true (sym c.if-has.false ∙ c.has.ensures.1 has)) c.with-left.ensures

pub returns-clause-found : goal.returns-clause-found
returns-clause-found c =
    row_layers_all c.args.input.now.names.layers (row_of c.args.input.now.rest c.args.row) c.args.from
    c.loop-k.k c.loop-k.left
    (omega arith) c.loop-k.invariant
