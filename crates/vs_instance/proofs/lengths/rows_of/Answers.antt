use Rattle.std.proofs.Common.{◌≡◌, ◌∙◌, [], ◌∷◌, length, length-append, ap, arith}
use Rattle.vs_instance.specs.deadheads.Lengths.{IsRow}
use Rattle.vs_instance.proofs.deadheads.Pushed.{each-push}
use Rattle.vs_instance.proofs.lengths.rows_of.Goals as goal

pub loop-k-preserved : goal.loop-k-preserved
loop-k-preserved c = record {
  count = omega (
    arith,
    c.loop-k.invariant.count,
    ap length c.in_ok-push.ensures.items,
    length-append c.loop-k.rows.items (c.in_ok-row.row ∷ []),
  );
  each = λ s d less.
      rw c.in_ok-push.ensures.items
      (each-push (λ n row. IsRow c.args.measure c.args.ways.now n row.items) c.loop-k.rows.items
      c.in_ok-row.row d c.loop-k.k c.loop-k.invariant.count
      (λ n less'. c.loop-k.invariant.each n d less') c.in_ok-row.ensures s less);
}

pub returns : goal.returns
returns c =
    let all : c.loop-k.k ≡ c.args.ways.now.stops =
    omega (arith, c.loop-k.auto.k-end, c.loop-k-test.false, c.stops-k-end.ensures.count) in
    record {
      count = c.loop-k.invariant.count ∙ all;
      each = λ k d within. c.loop-k.invariant.each k d (omega (arith, all, within));
    }
