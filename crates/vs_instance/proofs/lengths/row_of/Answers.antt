use Rattle.std.proofs.Common.{◌≡◌, ◌<◌, ◌∙◌, List, [], ◌∷◌, length, length-append, get_or, ap, arith}
use Rattle.std.specs.declared.option.Option.{Option}
use Rattle.std.specs.declared.option.Option.TheVariants.{None}
use Rattle.vs_instance.specs.declared.way.Way.{Way}
use Rattle.vs_instance.specs.deadheads.Lengths.{length_by, length_of}
use Rattle.vs_instance.proofs.deadheads.Pushed.{each-push}
use Rattle.vs_instance.proofs.deadheads.WayMap.{length-row_of, get_or-row_of}
use Rattle.vs_instance.proofs.lengths.row_of.Goals as goal

pub bounds-given-s : goal.bounds-given-s
bounds-given-s c =
    let all = ap length c.row-given.ensures ∙ length-row_of c.args.ways.now c.args.k.0 in
    omega (arith, all, c.stops-s-end.ensures.count)

pub loop-s-preserved : goal.loop-s-preserved
loop-s-preserved c =
    let ways = c.args.ways.now in
    let k = c.args.k.0 in
    let s = c.loop-s.s in
    let within : s < ways.stops = omega (arith, c.loop-s-test.true, c.stops-s-end.ensures.count) in
    let here : c.length_of.result ≡ length_of c.args.measure ways k s =
    c.length_of.ensures
    ∙ ap (length_by c.args.measure k s)
    (ap (λ (row : List (Option Way)). get_or row s None) c.row-given.ensures ∙ get_or-row_of ways k s None within) in
    record {
      count = omega (
        arith,
        c.loop-s.invariant.count,
        ap length c.in_ok-push.ensures.items,
        length-append c.loop-s.row.items (c.length_of.result ∷ []),
      );
      each = λ t less.
          rw c.in_ok-push.ensures.items
          (each-push (λ n x. x ≡ length_of c.args.measure ways k n) c.loop-s.row.items c.length_of.result 0 s
          c.loop-s.invariant.count c.loop-s.invariant.each here t less);
    }

pub returns : goal.returns
returns c =
    let all : c.loop-s.s ≡ c.args.ways.now.stops =
    omega (arith, c.loop-s.auto.s-end, c.loop-s-test.false, c.stops-s-end.ensures.count) in
    record {
      count = c.loop-s.invariant.count ∙ all;
      each = λ s within. c.loop-s.invariant.each s (omega (arith, all, within));
    }
