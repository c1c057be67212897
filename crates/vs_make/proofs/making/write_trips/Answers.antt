use Rattle.std.proofs.Common.{◌≡◌, ◌+◌, ◌*◌, ◌++◌, sym, ap, ◌∙◌, arith}
use Rattle.std.specs.List.{range_with_len}
use Rattle.vs_reader.specs.Rows.{line}
use Rattle.vs_make.specs.Generator.{draws, drawn_row, number_at, trip_row}
use Rattle.vs_make.proofs.Sequences.{number_at-add}
use Rattle.vs_rows.proofs.CallerLemmas.{lines-map, numbered_more, numbered_all}
use Rattle.vs_make.proofs.making.write_trips.Goals as goal

pub loop-i-preserved : goal.loop-i-preserved
loop-i-preserved c =
    let n = c.args.n in let i = c.loop-i.i in
    let is_row : line (trip_row i c.draws-drawn.result) ≡ line (drawn_row n i) =
    ap (λ d. line (trip_row i d)) (c.draws-drawn.ensures.drawn ∙ ap draws c.loop-i.invariant.drawn) in
    let five : 5 * i + 5 ≡ 5 * (i + 1) = omega arith in
    record {
      written = numbered_more (λ x. line (drawn_row n x)) c.args.text.now c.loop-i.text c.write_trip.new.text n i
          c.loop-i-test.true c.loop-i.invariant.written
          (c.in_ok-write_trip.ensures ∙ ap (λ bytes. c.loop-i.text ++ bytes) is_row);
      drawn = c.draws-drawn.ensures.next ∙ ap (λ x. number_at x 5) c.loop-i.invariant.drawn
          ∙ number_at-add (n + 1) (5 * i) 5
          ∙ ap (number_at (n + 1)) five;
    }

pub returns : goal.returns
returns c =
    let n = c.args.n in
    numbered_all (λ x. line (drawn_row n x)) c.args.text.now c.loop-i.text n c.loop-i.i c.loop-i-test.false
    c.loop-i.invariant.written
    ∙ ap (λ bytes. c.args.text.now ++ bytes) (sym (lines-map (drawn_row n) (range_with_len 0 n)))
