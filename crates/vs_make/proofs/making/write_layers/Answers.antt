use Rattle.std.proofs.Common.{◌++◌, sym, ap, ◌∙◌}
use Rattle.std.specs.List.{range_with_len}
use Rattle.vs_reader.specs.Rows.{line}
use Rattle.vs_make.specs.declared.grid.TheConstants.{DEPOTS}
use Rattle.vs_make.specs.Generator.{layer_row}
use Rattle.vs_rows.proofs.CallerLemmas.{lines-map, numbered_more, numbered_all}
use Rattle.vs_make.proofs.making.write_layers.Goals as goal

pub loop-l-preserved : goal.loop-l-preserved
loop-l-preserved c =
    numbered_more
    (λ x. line (layer_row c.args.n x)) c.args.text.now c.loop-l.text c.write_layer.new.text DEPOTS c.loop-l.l
    c.loop-l-test.true c.loop-l.invariant c.in_ok-write_layer.ensures

pub returns : goal.returns
returns c =
    numbered_all (λ x. line (layer_row c.args.n x)) c.args.text.now c.loop-l.text DEPOTS c.loop-l.l c.loop-l-test.false
    c.loop-l.invariant
    ∙ ap (λ bytes. c.args.text.now ++ bytes) (sym (lines-map (layer_row c.args.n) (range_with_len 0 DEPOTS)))
