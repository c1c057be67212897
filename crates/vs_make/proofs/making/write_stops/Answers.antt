use Rattle.std.proofs.Common.{◌++◌, sym, ap, ◌∙◌}
use Rattle.std.specs.List.{range_with_len}
use Rattle.vs_reader.specs.Rows.{line}
use Rattle.vs_make.specs.declared.grid.TheConstants.{STOPS}
use Rattle.vs_make.specs.Generator.{stop_row}
use Rattle.vs_rows.proofs.CallerLemmas.{lines-map, numbered_more, numbered_all}
use Rattle.vs_make.proofs.making.write_stops.Goals as goal

pub loop-k-preserved : goal.loop-k-preserved
loop-k-preserved c =
    numbered_more (λ x. line (stop_row x)) c.args.text.now c.loop-k.text c.write_stop.new.text STOPS c.loop-k.k
    c.loop-k-test.true c.loop-k.invariant c.in_ok-write_stop.ensures

pub returns : goal.returns
returns c =
    numbered_all (λ x. line (stop_row x)) c.args.text.now c.loop-k.text STOPS c.loop-k.k c.loop-k-test.false
    c.loop-k.invariant
    ∙ ap (λ bytes. c.args.text.now ++ bytes) (sym (lines-map (stop_row) (range_with_len 0 STOPS)))
